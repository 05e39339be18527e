use Rattle.std.proofs.Common.{◌≡◌, ◌+◌, ◌-◌, ◌*◌, ◌++◌, length, map, drop, option_map}
use Rattle.tree_json.specs.Value.{elements_of, elements_size, members_of, members_size, value_size}
use Rattle.tree_json.specs.View.{view, values}
use Rattle.tree_objects.specs.Object.{items_in}
use Rattle.flattener.specs.Seen.{document_seen}
use Rattle.flattener.specs.Walked.{inner, inside_at, names_left, walked_of, flat_pair}
use Rattle.flattener.proofs.walk.+walks.Given as goal

-- a step goes down a level of scopes, or into a value
abbrev pub decreases-walk : goal.decreases-walk
decreases-walk l = 8 * (l.left + value_size (view l.content.now)) + 3

abbrev pub decreases-walk_inside : goal.decreases-walk_inside
decreases-walk_inside l = 8 * (l.left + value_size (view l.content.now)) + 2

abbrev pub decreases-walk_if_kid : goal.decreases-walk_if_kid
decreases-walk_if_kid l = 8 * (l.left + value_size (view l.content.now)) + 9

abbrev pub decreases-walk_kid : goal.decreases-walk_kid
decreases-walk_kid l = 8 * (l.left + value_size (view l.content.now)) + 8

abbrev pub decreases-walk_items : goal.decreases-walk_items
decreases-walk_items l = 8 * (l.left + value_size (view l.value.now)) + 7

abbrev pub decreases-walk_elements : goal.decreases-walk_elements
decreases-walk_elements l = 8 * (l.left + elements_size (elements_of (values l.elements.now)))

abbrev pub decreases-walk_member : goal.decreases-walk_member
decreases-walk_member l = 8 * (l.left + members_size (members_of l.within.now))

abbrev pub invariant-walk_inside-kids : goal.invariant-walk_inside-kids
invariant-walk_inside-kids l =
    (map document_seen l.into.items ++ map (flat_pair l.mapping l.generation) (inside_at l.mapping l.generation (l.left - 1) l.scope (view l.content) (drop l.kid-index l.mapping.order))
    ≡ map document_seen l.fn.into.items ++ map (flat_pair l.mapping l.generation) (inner l.mapping l.generation l.left l.scope (view l.content)))
    × (length l.into.items + length (inside_at l.mapping l.generation (l.left - 1) l.scope (view l.content) (drop l.kid-index l.mapping.order))
    ≡ length l.fn.into.items + length (inner l.mapping l.generation l.left l.scope (view l.content)))

abbrev pub invariant-walk_elements-elements : goal.invariant-walk_elements-elements
invariant-walk_elements-elements l =
    (map document_seen l.into.items ++ map (flat_pair l.mapping l.generation) (walked_of l.mapping l.generation l.left l.kid (items_in (elements_of (values (drop l.element-index l.elements))) (names_left (option_map (λ p. p.now) l.path))))
    ≡ map document_seen l.fn.into.items ++ map (flat_pair l.mapping l.generation) (walked_of l.mapping l.generation l.left l.kid (items_in (elements_of (values l.elements)) (names_left (option_map (λ p. p.now) l.path)))))
    × (length l.into.items + length (walked_of l.mapping l.generation l.left l.kid (items_in (elements_of (values (drop l.element-index l.elements))) (names_left (option_map (λ p. p.now) l.path))))
    ≡ length l.fn.into.items + length (walked_of l.mapping l.generation l.left l.kid (items_in (elements_of (values l.elements)) (names_left (option_map (λ p. p.now) l.path)))))
