use Rattle.std.proofs.Common.{◌≡◌, ◌∙◌, sym, subst}
use Rattle.std.proofs.lemmas.Bool.{false≢true}
use Rattle.segment_parts.specs.Agree.{AreColumns}
use Rattle.segment_parts.specs.Whole.{segment_once}
use Rattle.segment.proofs.segment.Segment.of_bytes.Goals as goal

pub returns-then-not-are_columns-clause-none : goal.returns-then-not-are_columns-clause-none
returns-then-not-are_columns-clause-none c = λ _ columns encoding.
    let text = rw c.in-Some.is at c.in_ok-parts.ensures.found in
    let are = rw c.in-Some.is at c.in_ok-parts.ensures.are in
    let same : columns ≡ c.in-Some.parts = segment_once c.words_are_of_one_set.ensures columns c.in-Some.parts encoding.are.parts are (sym encoding.text ∙ sym c.into_vec.ensures ∙ text) in
    false≢true (sym c.if-not-are_columns.true ∙ c.are_columns.ensures.1 (subst AreColumns same encoding.are))
