use Rattle.std.proofs.Common.{◌≡◌, ◌+◌, ◌*◌, ◌++◌, length, map, drop, reverse}
use Rattle.std.specs.List.{flat_map}
use Rattle.tree_json.specs.View.{view}
use Rattle.flattener.specs.Walked.{own_items, along}
use Rattle.flattener.proofs.shown.+ways.Given as goal

abbrev pub decreases-push_below : goal.decreases-push_below
decreases-push_below l = 2 * length l.way.now

abbrev pub decreases-push_step : goal.decreases-push_step
decreases-push_step l = 2 * length l.rest.now + 1

abbrev pub invariant-push_step-children : goal.invariant-push_step-children
invariant-push_step-children l =
    map (λ j. view j.now) l.found.items
    ++ flat_map (own_items l.mapping l.generation l.field) (flat_map (along l.mapping l.generation (reverse l.rest)) (map (λ j. view j.now) (drop l.child-index l.child-items)))
    ≡ map (λ j. view j.now) l.fn.found.items
    ++ flat_map (own_items l.mapping l.generation l.field) (flat_map (along l.mapping l.generation (reverse l.rest)) (map (λ j. view j.now) l.child-items))
