use Rattle.std.proofs.Common.{◌≡◌, ◌++◌}
use Rattle.tree_json.specs.Value.{value_size, members_size, members_of}
use Rattle.tree_json.specs.View.{entries}
use Rattle.source_growth.specs.Forms.{form_of, forms_of}
use Rattle.source_growth.proofs.form.+written.Given as goal

abbrev pub decreases-written : goal.decreases-written
decreases-written l = value_size (form_of l.form)

abbrev pub decreases-object_of : goal.decreases-object_of
decreases-object_of l = members_size (members_of (forms_of l.forms.entries))

-- what was written and what is left make the whole
abbrev pub invariant-object_of-forms : goal.invariant-object_of-forms
invariant-object_of-forms l =
    (goal.iterator-object_of-forms).can_next l.name-iterator
    × (goal.iterator-object_of-forms).is_finite l.name-iterator
    × (forms_of l.fn.forms.entries ≡ entries l.members.items ++ forms_of l.name-iterator)
