use Rattle.std.proofs.Common.{◌≡◌, codes, option_map}
use Rattle.std.specs.Vec.Iter.{into_iter_items}
use Rattle.tree_json.specs.Value.{members_of, member_of}
use Rattle.tree_json.specs.View.{view, entries}
use Rattle.request_form.specs.Seen.{first_there}
use Rattle.request_form.proofs.request.documents_of.Given as goal

-- what was found, or else what is found among the members that are left
abbrev pub invariant-members : goal.invariant-members
invariant-members l =
    (goal.iterator-members).can_next l.name-iterator
    × (goal.iterator-members).is_finite l.name-iterator
    × (first_there (option_map view l.doc) (member_of (members_of (entries (into_iter_items l.name-iterator))) (codes "doc"))
    ≡ member_of (members_of (entries l.fn.members.items)) (codes "doc"))
    × (first_there (option_map view l.upsert) (member_of (members_of (entries (into_iter_items l.name-iterator))) (codes "upsert"))
    ≡ member_of (members_of (entries l.fn.members.items)) (codes "upsert"))
