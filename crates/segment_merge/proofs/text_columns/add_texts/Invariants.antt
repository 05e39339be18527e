use Rattle.std.proofs.Common.{◌≡◌, ◌++◌, drop}
use Rattle.std.specs.List.{filter}
use Rattle.segment.specs.Flat.{has_some}
use Rattle.segment_merge.proofs.Placed.{texts_in}
use Rattle.segment_merge.proofs.text_columns.add_texts.Given as goal

abbrev pub invariant-columns : goal.invariant-columns
invariant-columns l =
    l.texts.items ++ filter has_some (texts_in l.part (drop l.field-index l.field-items)) ≡ l.fn.texts.items ++ filter has_some (texts_in l.part l.field-items)
