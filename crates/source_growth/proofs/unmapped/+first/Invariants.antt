use Rattle.std.proofs.Common.{◌≡◌, drop}
use Rattle.tree_json.specs.Value.{value_size, elements_size, elements_of}
use Rattle.tree_json.specs.View.{view, values}
use Rattle.source_growth.specs.Growth.{first_value_in}
use Rattle.source_growth.proofs.unmapped.+first.Given as goal

abbrev pub decreases-first_value : goal.decreases-first_value
decreases-first_value l = value_size (view l.value.now)

abbrev pub decreases-first_in : goal.decreases-first_in
decreases-first_in l = elements_size (elements_of (values l.elements.now))

-- what is left has the first value of all
abbrev pub invariant-first_in-elements : goal.invariant-first_in-elements
invariant-first_in-elements l =
    first_value_in (elements_of (values (drop l.element-index l.elements))) ≡ first_value_in (elements_of (values l.elements))
