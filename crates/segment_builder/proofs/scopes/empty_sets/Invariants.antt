use Rattle.std.proofs.Common.{◌≡◌, map}
use Rattle.std.specs.List.{range_with_len}
use Rattle.segment_builder.specs.Marks.{marked_to}
use Rattle.segment_builder.proofs.scopes.empty_sets.Given as goal

abbrev pub invariant-scopes : goal.invariant-scopes
invariant-scopes l = l.sets.items ≡ map (marked_to l.scopes 0) (range_with_len 0 l._scope)
