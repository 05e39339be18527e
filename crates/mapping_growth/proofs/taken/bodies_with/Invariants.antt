use Rattle.std.proofs.Common.{◌≡◌, map, take}
use Rattle.tree_json.specs.View.{view}
use Rattle.mapping_growth.proofs.taken.bodies_with.Given as goal

abbrev pub invariant-bodies : goal.invariant-bodies
invariant-bodies l = map view l.bodies.items ≡ map view (take l.body-index l.body-items)
