use Rattle.std.proofs.Common.{◌≡◌, ◌++◌, map, drop}
use Rattle.std.specs.List.{filter_map}
use Rattle.tree_json.specs.View.{view}
use Rattle.tree_objects.specs.Values.{convert}
use Rattle.flattener.specs.Flat.{numbers_in}
use Rattle.flattener.proofs.values.sorted_numbers.Given as goal

abbrev pub invariant-items : goal.invariant-items
invariant-items l =
    l.values.items ++ numbers_in (filter_map (convert l.kind) (map (λ j. view j.now) (drop l.item-index l.items)))
    ≡ numbers_in (filter_map (convert l.kind) (map (λ j. view j.now) l.items))
