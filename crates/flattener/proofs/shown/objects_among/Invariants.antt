use Rattle.std.proofs.Common.{◌≡◌, ◌++◌, map, drop, filter}
use Rattle.tree_json.specs.Value.{is_object}
use Rattle.tree_json.specs.View.{view}
use Rattle.flattener.proofs.shown.objects_among.Given as goal

abbrev pub invariant-items : goal.invariant-items
invariant-items l =
    map (λ j. view j.now) l.objects.items ++ filter is_object (map (λ j. view j.now) (drop l.item-index l.found))
    ≡ filter is_object (map (λ j. view j.now) l.found)
