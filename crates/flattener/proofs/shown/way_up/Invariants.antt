use Rattle.std.proofs.Common.{◌≡◌, ◌<◌, length, reverse, []}
use Rattle.std.specs.List.{All}
use Rattle.tree_objects.specs.Object.{climb}
use Rattle.flattener.proofs.shown.way_up.Given as goal

abbrev pub invariant-way : goal.invariant-way
invariant-way l =
    (climb l.mapping l.left l.scope l.at (reverse l.way.items) ≡ climb l.mapping l.deepest l.scope l.deepest [])
    × All (λ n. n < length l.mapping.scopes) l.way.items
    × (l.at < length l.mapping.scopes)

abbrev pub decreases-way : goal.decreases-way
decreases-way l = l.left
