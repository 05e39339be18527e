use Rattle.std.proofs.Common.{subst, sym}
use Rattle.tree_json.specs.Sound.{IsSound, MembersAreSound}
use Rattle.tree_json.specs.Value.{members_of}
use Rattle.tree_json.specs.View.{view}
use Rattle.tree_json.proofs.RoundTrip.{sound_object}
use Rattle.flattener.proofs.source_text.+texts.Goals as goal

pub push-returns-in_ok-push_byte-in-Object-2-clause-sound : goal.push-returns-in_ok-push_byte-in-Object-2-clause-sound
push-returns-in_ok-push_byte-in-Object-2-clause-sound t c =
    let object = c.as_slice-in-Object.ensures in
    let each = subst (λ ms. MembersAreSound (members_of ms)) object.members c.in_ok-push_members-in-Object.ensures.sound in
    subst (λ v. IsSound (view v)) (sym c.in-Object.is) (sound_object c.in-Object.object each object.ascending)
