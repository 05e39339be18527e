use Rattle.std.proofs.Common.{◌≡◌, ◌+◌, ◌*◌, ◌++◌, map, drop}
use Rattle.tree_json.specs.Value.{value_size, members_size, members_of}
use Rattle.tree_json.specs.View.{view, entries}
use Rattle.mapping_body.specs.Body.{properties_named}
use Rattle.mapping_growth.specs.Fields.{draft_paths, drafts_of}
use Rattle.mapping_growth.specs.Outline.{outline_of, outlined}
use Rattle.mapping_growth.proofs.property.+outlines.Given as goal

abbrev pub decreases-outline_below : goal.decreases-outline_below
decreases-outline_below l = 3 * value_size (view l.value.now)

abbrev pub decreases-outline_at : goal.decreases-outline_at
decreases-outline_at l = 3 * value_size (view l.properties.now) + 1

abbrev pub decreases-outline_named : goal.decreases-outline_named
decreases-outline_named l = 3 * members_size (members_of (entries l.members.now))

abbrev pub decreases-outline_inside : goal.decreases-outline_inside
decreases-outline_inside l = 3 * value_size (view l.form.now) + 1

-- what is found and what is left make the whole
abbrev pub invariant-outline_named-members : goal.invariant-outline_named-members
invariant-outline_named-members l =
    map outline_of l.found.items ++ map (outlined (draft_paths (drafts_of l.said))) (properties_named l.path (members_of (entries (drop l.name-index l.members))))
    ≡ map outline_of l.fn.found.items ++ map (outlined (draft_paths (drafts_of l.said))) (properties_named l.path (members_of (entries l.members)))
