use Rattle.std.proofs.Common.{◌≡◌, map, vec_len}
use Rattle.std.specs.List.{range_with_len}
use Rattle.mapping.specs.Mapping.{included}
use Rattle.segment_fits.proofs.columns.shown_in.Given as goal

abbrev pub invariant-scopes : goal.invariant-scopes
invariant-scopes l = (l.scopes.items ≡ map (included l.ground.mapping.now l.field) (range_with_len 0 l.scope)) × (vec_len l.scopes ≡ l.scope)
