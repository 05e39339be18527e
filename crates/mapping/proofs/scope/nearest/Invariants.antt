use Rattle.std.proofs.Common.{◌≡◌, map, drop}
use Rattle.mapping.proofs.Nearest.{nearest_from}
use Rattle.mapping.proofs.scope.nearest.Given as goal

abbrev pub invariant-paths : goal.invariant-paths
invariant-paths l =
    (l.at ≡ l.above-index)
    × (nearest_from l.found l.at (map (λ p. p.bytes.items) (drop l.above-index l.paths)) l.path ≡ nearest_from 0 0 (map (λ p. p.bytes.items) l.paths) l.path)
