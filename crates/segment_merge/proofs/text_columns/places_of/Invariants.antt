use Rattle.std.proofs.Common.{◌≡◌, ◌-◌, ◌++◌, drop, length}
use Rattle.segment_parts.specs.Text.{marked_places}
use Rattle.segment_merge.proofs.Placed.{places_in}
use Rattle.segment_merge.proofs.text_columns.places_of.Given as goal

abbrev pub invariant-documents : goal.invariant-documents
invariant-documents l =
    l.numbers.items ++ places_in l.part (marked_places l.from (drop l.from l.set)) ≡ places_in l.part (marked_places 0 l.set)

abbrev pub decreases-documents : goal.decreases-documents
decreases-documents l = length l.set - l.from
