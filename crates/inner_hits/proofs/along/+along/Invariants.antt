use Rattle.std.proofs.Common.{◌+◌, ◌*◌, drop, option_map}
use Rattle.tree_json.specs.Value.{value_size, elements_size, elements_of, members_size, members_of}
use Rattle.tree_json.specs.View.{view, values}
use Rattle.flattener.specs.Walked.{names_left}
use Rattle.inner_hits.proofs.Counting.{GoesOn}
use Rattle.inner_hits.proofs.along.+along.Given as goal

abbrev pub decreases-counted : goal.decreases-counted
decreases-counted l = 2 * value_size (view l.value.now)

abbrev pub decreases-counted_in : goal.decreases-counted_in
decreases-counted_in l = 2 * elements_size (elements_of (values l.elements.now)) + 1

abbrev pub decreases-counted_below : goal.decreases-counted_below
decreases-counted_below l = 2 * members_size (members_of l.within.now) + 1

abbrev pub invariant-counted_in-elements : goal.invariant-counted_in-elements
invariant-counted_in-elements l =
    GoesOn (names_left (option_map (λ p. p.now) l.path)) (elements_of (values l.elements)) l.fn.left (elements_of (values (drop l.element-index l.elements))) l.left
