use Rattle.std.proofs.Common.{◌≡◌, ◌++◌, map, option_map}
use Rattle.serde_json.specs.View.{items_view, members_view}
use Rattle.std.specs.Vec.Iter.{into_iter_items}
use Rattle.tree_json.specs.Reading.{whole_elements, whole_members}
use Rattle.tree_json.specs.View.{values, entries}
use Rattle.tree_json.proofs.Fronts.{elements_before, members_before, names_of}
use Rattle.tree_json.proofs.reader.+convert.Given as goal

-- the elements that were found and those that are left make the whole
abbrev pub invariant-list_of-items : goal.invariant-list_of-items
invariant-list_of-items l =
    (goal.iterator-list_of-items).can_next l.item-iterator
    × (goal.iterator-list_of-items).is_finite l.item-iterator
    × (whole_elements (items_view l.fn.items.items)
    ≡ option_map (elements_before (values l.found.items)) (whole_elements (items_view (into_iter_items l.item-iterator))))

-- so do the members, and their names
abbrev pub invariant-object_of-members : goal.invariant-object_of-members
invariant-object_of-members l =
    (goal.iterator-object_of-members).can_next l.name-iterator
    × (goal.iterator-object_of-members).is_finite l.name-iterator
    × (whole_members (members_view l.fn.members.entries)
    ≡ option_map (members_before (entries l.found.items)) (whole_members (members_view l.name-iterator)))
    × (names_of l.fn.members.entries ≡ map (λ m. m.0) (entries l.found.items) ++ names_of l.name-iterator)
