use Rattle.std.proofs.Common.{◌≡◌, ◌++◌, map, drop}
use Rattle.std.specs.List.{filter_map}
use Rattle.tree_json.specs.View.{view}
use Rattle.mapping_body.specs.declared.kind.Kind.TheVariants.{Keyword}
use Rattle.tree_objects.specs.Values.{convert}
use Rattle.flattener.specs.Flat.{texts_in}
use Rattle.flattener.proofs.values.sorted_keywords.Given as goal

abbrev pub invariant-items : goal.invariant-items
invariant-items l =
    map (λ b. b.items) l.values.items ++ texts_in (filter_map (convert Keyword) (map (λ j. view j.now) (drop l.item-index l.items)))
    ≡ texts_in (filter_map (convert Keyword) (map (λ j. view j.now) l.items))
