use Rattle.std.proofs.Common.{◌≡◌, ◌∙◌, sym}
use Rattle.segment_parts.specs.Whole.{segment_once}
use Rattle.segment_parts.specs.declared.columns.Columns.{Columns}
use Rattle.segment.specs.Encoding.{IsEncoding}
use Rattle.segment.proofs.TermKinds.{when_ok}
use Rattle.segment.proofs.segment.Segment.of_agreeing.Goals as goal

pub of_text-requires : goal.of_text-requires
of_text-requires c = (c.args.columns, record { are = c.requires; text = c.of.ensures ∙ c.in_ok-bytes.ensures })

pub returns : goal.returns
returns c =
    when_ok (λ (segment : Columns). IsEncoding segment c.of.result) (λ (segment : Columns). segment ≡ c.args.columns) c.of_text.result c.of_text.ensures
    (λ segment own. segment_once c.words_are_of_one_set.ensures segment c.args.columns own.are.parts c.requires.parts (sym own.text ∙ c.of.ensures ∙ c.in_ok-bytes.ensures))
