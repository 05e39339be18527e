use Rattle.std.proofs.Common.{◌≡◌, ◌∙◌, sym, subst}
use Rattle.segment_parts.specs.Agree.{AreColumns}
use Rattle.segment_parts.specs.Whole.{segment_once}
use Rattle.segment_parts.specs.declared.columns.Columns.{Columns}
use Rattle.segment.specs.Encoding.{IsEncoding}
use Rattle.segment.proofs.TermKinds.{when_ok}
use Rattle.segment.proofs.segment.Segment.of_text.Goals as goal

pub over-requires : goal.over-requires
over-requires c =
    let text = rw c.unwrap-parts.ensures at c.in_ok-read.ensures.found in
    let are = rw c.unwrap-parts.ensures at c.in_ok-read.ensures.are in
    let same : c.requires.0 ≡ c.unwrap-parts.result = segment_once c.words_are_of_one_set.ensures c.requires.0 c.unwrap-parts.result c.requires.1.are.parts are (sym c.requires.1.text ∙ sym c.into_vec.ensures ∙ text) in
    subst AreColumns same c.requires.1.are

pub returns : goal.returns
returns c =
    let text = rw c.unwrap-parts.ensures at c.in_ok-read.ensures.found in
    let are = rw c.unwrap-parts.ensures at c.in_ok-read.ensures.are in
    let same : c.requires.0 ≡ c.unwrap-parts.result = segment_once c.words_are_of_one_set.ensures c.requires.0 c.unwrap-parts.result c.requires.1.are.parts are (sym c.requires.1.text ∙ sym c.into_vec.ensures ∙ text) in
    when_ok (λ (segment : Columns). segment ≡ c.unwrap-parts.result) (λ (segment : Columns). IsEncoding segment c.args.bytes) c.over.result c.over.ensures (λ segment own. subst (λ (columns : Columns). IsEncoding columns c.args.bytes) (same ∙ sym own) c.requires.1)
