use Rattle.std.proofs.Common.{◌≡◌, ◌++◌, drop}
use Rattle.std.specs.List.{filter}
use Rattle.segment.specs.Flat.{has_some}
use Rattle.segment_merge.specs.Pieces.{from_parts, part_texts}
use Rattle.segment_merge.proofs.text_columns.texts_of.Given as goal

abbrev pub invariant-parts : goal.invariant-parts
invariant-parts l =
    l.texts.items ++ filter has_some (from_parts part_texts (drop l.part-index l.parts)) ≡ filter has_some (from_parts part_texts l.parts)
