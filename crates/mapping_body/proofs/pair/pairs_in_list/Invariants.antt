use Rattle.std.proofs.Common.{◌≡◌, ◌++◌, map, drop}
use Rattle.tree_json.specs.Value.{elements_of}
use Rattle.tree_json.specs.View.{values}
use Rattle.mapping_body.specs.Pairs.{pairs_in_list}
use Rattle.mapping_body.specs.Kept.{pair_of}
use Rattle.mapping_body.proofs.pair.pairs_in_list.Given as goal

abbrev pub invariant-elements : goal.invariant-elements
invariant-elements l =
    map pair_of l.found.items ++ pairs_in_list l.parent (elements_of (values (drop l.element-index l.elements)))
    ≡ map pair_of l.fn.found.items ++ pairs_in_list l.parent (elements_of (values l.elements))
