use Rattle.std.proofs.Common.{subst, sym}
use Rattle.std.proofs.lemmas.List.{drop_all}
use Rattle.tree_json.specs.Sound.{IsSound, AreSound, MembersAreSound}
use Rattle.tree_json.specs.Value.{elements_of, members_of}
use Rattle.tree_json.specs.View.{view, values, entries}
use Rattle.tree_json.proofs.RoundTrip.{sound_object}
use Rattle.tree_json.proofs.printer.+measure.Goals as goal

pub compact_len-returns-in-Object-clause-sound : goal.compact_len-returns-in-Object-clause-sound
compact_len-returns-in-Object-clause-sound t c =
    let object = c.as_slice-in-Object.ensures in
    let each = subst (λ ms. MembersAreSound (members_of ms)) object.members c.members_len.ensures.sound in
    subst (λ v. IsSound (view v)) (sym c.in-Object.is) (sound_object c.in-Object.object each object.ascending)

pub elements_len-returns-clause-sound : goal.elements_len-returns-clause-sound
elements_len-returns-clause-sound t c =
    c.elements.invariant.2 (subst (λ js. AreSound (elements_of (values js))) (sym (drop_all c.elements.element-index c.args.elements.now c.elements-test.false)) tt)

pub members_len-returns-clause-sound : goal.members_len-returns-clause-sound
members_len-returns-clause-sound t c =
    c.members.invariant.2 (subst (λ ms. MembersAreSound (members_of (entries ms))) (sym (drop_all c.members.member-index c.args.members.now c.members-test.false)) tt)
