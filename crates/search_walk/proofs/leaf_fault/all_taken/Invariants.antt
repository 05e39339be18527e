use Rattle.std.proofs.Common.{◌≡◌, drop}
use Rattle.tree_json.specs.Value.{elements_of}
use Rattle.tree_json.specs.View.{values}
use Rattle.search_walk.specs.Fault.{all_taken}
use Rattle.search_walk.proofs.leaf_fault.all_taken.Given as goal

abbrev pub invariant-elements : goal.invariant-elements
invariant-elements l =
    all_taken l.kind (elements_of (values (drop l.element-index l.elements))) ≡ all_taken l.kind (elements_of (values l.elements))
