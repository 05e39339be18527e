use Rattle.std.proofs.Common.{◌≡◌, ◌+◌, ◌*◌, ◌++◌, map, drop, option_map}
use Rattle.tree_json.specs.Value.{value_size, elements_size, elements_of, members_size, members_of}
use Rattle.tree_json.specs.View.{view, values}
use Rattle.tree_objects.specs.Object.{items_in}
use Rattle.flattener.specs.Walked.{names_left}
use Rattle.flattener.proofs.gather.+gathers.Given as goal

abbrev pub decreases-gather : goal.decreases-gather
decreases-gather l = 2 * value_size (view l.value.now)

abbrev pub decreases-gather_in : goal.decreases-gather_in
decreases-gather_in l = 2 * elements_size (elements_of (values l.elements.now)) + 1

abbrev pub decreases-gather_member : goal.decreases-gather_member
decreases-gather_member l = 2 * members_size (members_of l.within.now) + 1

abbrev pub invariant-gather_in-elements : goal.invariant-gather_in-elements
invariant-gather_in-elements l =
    map (λ j. view j.now) l.found.items ++ items_in (elements_of (values (drop l.element-index l.elements))) (names_left (option_map (λ p. p.now) l.path))
    ≡ map (λ j. view j.now) l.fn.found.items ++ items_in (elements_of (values l.elements)) (names_left (option_map (λ p. p.now) l.path))
