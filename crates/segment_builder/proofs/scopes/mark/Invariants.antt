use Rattle.std.proofs.Common.{◌≡◌, length, map}
use Rattle.std.specs.List.{range_with_len}
use Rattle.segment_builder.specs.Marks.{marked_to}
use Rattle.segment_builder.proofs.scopes.mark.Given as goal

abbrev pub invariant-docs : goal.invariant-docs
invariant-docs l = l.sets.items ≡ map (marked_to l.scopes l.doc) (range_with_len 0 (length l.fn.sets.items))
