use Rattle.std.proofs.Common.{◌≡◌, ◌+◌, ◌*◌, map, drop}
use Rattle.tree_json.specs.Value.{value_size, members_size, members_of}
use Rattle.tree_json.specs.View.{view, entries}
use Rattle.mapping_body.specs.Body.{properties_named}
use Rattle.mapping_growth.specs.Fields.{draft_of}
use Rattle.mapping_growth.specs.Kept.{made_of}
use Rattle.mapping_body.specs.Names.{AreAscending, put_all}
use Rattle.mapping_growth.proofs.property.+drafts.Given as goal

abbrev pub decreases-draft_below : goal.decreases-draft_below
decreases-draft_below l = 3 * value_size (view l.value.now)

abbrev pub decreases-draft_at : goal.decreases-draft_at
decreases-draft_at l = 3 * value_size (view l.properties.now) + 1

abbrev pub decreases-draft_named : goal.decreases-draft_named
decreases-draft_named l = 3 * members_size (members_of (entries l.members.now))

abbrev pub decreases-draft_inside : goal.decreases-draft_inside
decreases-draft_inside l = 3 * value_size (view l.form.now) + 1

abbrev pub invariant-draft_named-members : goal.invariant-draft_named-members
invariant-draft_named-members l =
    AreAscending (map (λ d. d.path.items) l.found.items)
    × (put_all (λ d. d.path) (map made_of l.found.items) (map (draft_of l.generation) (properties_named l.path (members_of (entries (drop l.name-index l.members)))))
    ≡ put_all (λ d. d.path) (map made_of l.fn.found.items) (map (draft_of l.generation) (properties_named l.path (members_of (entries l.members)))))
