use Rattle.std.proofs.Common.{◌≡◌, map}
use Rattle.std.specs.List.{range_with_len}
use Rattle.mapping.specs.Mapping.{around_of}
use Rattle.segment_fits.proofs.standing.parents_among.Given as goal

abbrev pub invariant-scopes : goal.invariant-scopes
invariant-scopes l = l.parents.items ≡ map (around_of l.mapping) (range_with_len 0 l.scope)
