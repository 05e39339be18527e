use Rattle.std.proofs.Common.{◌≡◌, ◌≤◌, ◌+◌, ◌*◌, drop}
use Rattle.tree_json.specs.Value.{value_size, elements_size, elements_of, members_size, members_of}
use Rattle.tree_json.specs.View.{view, values, entries}
use Rattle.search_form.specs.Form.{all_have_form, each_has_form, choice_count}
use Rattle.search_form.specs.Texts.{AllAreTexts, EachAreTexts}
use Rattle.search_form.proofs.judge.+forms.Given as goal

abbrev pub decreases-has_form : goal.decreases-has_form
decreases-has_form l = 3 * value_size (view l.value.now)

abbrev pub decreases-all_have_form : goal.decreases-all_have_form
decreases-all_have_form l = 3 * elements_size (elements_of (values l.elements.now))

abbrev pub decreases-object_has_form : goal.decreases-object_has_form
decreases-object_has_form l = 3 * members_size (members_of l.object.now) + 1

abbrev pub decreases-choices_among : goal.decreases-choices_among
decreases-choices_among l = 3 * members_size (members_of (entries l.members.now))

-- what is left decides as the whole does
abbrev pub invariant-all_have_form-elements : goal.invariant-all_have_form-elements
invariant-all_have_form-elements l =
    (all_have_form l.inner l.form (elements_of (values (drop l.element-index l.elements)))
    ≡ all_have_form l.inner l.form (elements_of (values l.elements)))
    × (AllAreTexts (elements_of (values (drop l.element-index l.elements))) → AllAreTexts (elements_of (values l.elements)))

abbrev pub invariant-choices_among-members : goal.invariant-choices_among-members
invariant-choices_among-members l =
    (each_has_form l.inner l.form (members_of (entries (drop l.name-index l.members)))
    ≡ each_has_form l.inner l.form (members_of (entries l.members)))
    × (l.count + choice_count l.form (members_of (entries (drop l.name-index l.members))) ≡ choice_count l.form (members_of (entries l.members)))
    × (l.count ≤ l.name-index)
    × (EachAreTexts (members_of (entries (drop l.name-index l.members))) → EachAreTexts (members_of (entries l.members)))
