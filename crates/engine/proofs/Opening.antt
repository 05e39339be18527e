-- Points in time that are opened and closed: what the machine answers, as the engine answers it.
use Rattle.std.proofs.Common.{◌≡◌, ◌+◌, ℕ, Bool, true, false, not, List, [], ◌∷◌, Option, Some, Result, refl, sym, ap, subst, inl, ◌∙◌}
use Rattle.index_core.specs.Kept.{IndexState}
use Rattle.layout_commands.specs.Ends.{HasClosed, HasOpened, IsLacking}
use Rattle.machine.specs.Answer.{Answer, Outcome, nothing, outcome_of, refuses, unless, when}
use Rattle.machine.specs.Points.{close_done, close_step, open_done, open_step, with_points}
use Rattle.machine.specs.Points as machine
use Rattle.machine.specs.State.{PointsInTime, State, sealed_state}
use Rattle.mapping.specs.Mapping.{Mapping}
use Rattle.point_in_time.specs.Points.{KeptPoints, is_full, is_open}
use Rattle.reply_text.specs.Text.{reply_text}
use Rattle.reply_text.specs.declared.refusal.Refusal.{Refusal}
use Rattle.reply_text.specs.declared.refusal.Refusal.TheVariants.{TooManyPits, UnknownPit}
use Rattle.reply_text.specs.declared.reply.Reply.{Reply}
use Rattle.reply_text.specs.declared.reply.Reply.TheVariants as reply
use Rattle.engine.specs.Answers.{answered_by}
use Rattle.index_trees.specs.Faithful.{AreFaithful, PointsStand, PointsStandFor}
use Rattle.engine.specs.Parts.{Ends, EndsWith, IsRefusal, answered_of}
use Rattle.engine.specs.declared.engine.Answered.{Answered}
use Rattle.engine.specs.declared.engine.Answered.TheVariants.{Written, NoMemory}
use Rattle.engine.specs.declared.no_memory.NoMemory as memory
use Rattle.engine.specs.declared.reply.Ended.{Ended}
use Rattle.engine.proofs.Answering.{lacking_room, refusal_ends, sealed_faithful}
use Rattle.engine.proofs.Finding.{index_stands}
use Rattle.engine.proofs.Pointing.{full_same, open_same, point_closed, point_opened}
use Rattle.engine.proofs.Sealing.{buffer_sealed}

-- where the points in time stay as they are
pub ends_with : (mapping : Option Mapping) (index : IndexState) (points : KeptPoints) (state : State) (outcome : Outcome) (answered : Answered) (out : List ℕ) → PointsStandFor mapping points state.points
    → Ends state outcome answered out mapping index → EndsWith state outcome answered out mapping index points
ends_with mapping index points state outcome answered out stand e = record {
  reply = e.reply;
  after = e.after;
  may = e.may;
  faithful = e.faithful;
  stand = subst (PointsStandFor mapping points) (sym e.points) stand;
  kept = e.kept;
  told = e.told;
  text = e.text;
}

-- a command that was done, with other points in time
done_with : (m : Mapping) (index : IndexState) (points : KeptPoints) (state : State) (others : PointsInTime) (given : Reply) (out : List ℕ) → AreFaithful (Some m) index (sealed_state state) → PointsStand m points others
    → answered_by given ≡ Written → out ≡ reply_text given → EndsWith state (record { need = nothing; reply = given; state = with_points others (sealed_state state) }) Written out (Some m) index points
done_with m index points state others given out f stand told_so text = record {
  reply = given;
  after = with_points others (sealed_state state);
  may = inl (record { reply_is = refl; state_is = refl });
  faithful = record { mapped = f.mapped; next = f.next; stands = f.stands; laid = f.laid; numbered = f.numbered };
  stand = stand;
  kept = refl;
  told = sym told_so;
  text = text;
}

-- ---- want of memory

pub lacking_with : (m : Mapping) (index index' : IndexState) (points points' : KeptPoints) (state : State) (outcome : Outcome) (out : List ℕ) → AreFaithful (Some m) index state → PointsStand m points state.points
    → index'.next ≡ index.next → IsLacking index index' points points' → EndsWith state outcome NoMemory out (Some m) index' points'
lacking_with m index index' points points' state outcome out f stand next is =
    ends_with (Some m) index' points' state outcome NoMemory out (subst (λ (own : KeptPoints). PointsStand m own state.points) (sym is.points_are) stand)
    (lacking_room m index index' state outcome out f next is.layout)

-- ---- refusals

pub refusal_with : (m : Mapping) (index index' : IndexState) (points points' : KeptPoints) (state : State) (answer : Answer) (why refusal : Refusal) (result : Result Ended memory.NoMemory) (out : List ℕ)
    → AreFaithful (Some m) index state → PointsStand m points state.points → index' ≡ index → points' ≡ points → refusal ≡ why → answer ≡ refuses why → IsRefusal refusal result out
    → EndsWith state (outcome_of state answer) (answered_of result) out (Some m) index' points'
refusal_with m index index' points points' state answer why refusal result out f stand same kept told_so e said =
    ends_with (Some m) index' points' state (outcome_of state answer) (answered_of result) out (subst (λ (own : KeptPoints). PointsStand m own state.points) (sym kept) stand)
    (refusal_ends (Some m) index' state answer refusal result out (subst (λ (own : IndexState). AreFaithful (Some m) own state) (sym same) f) (e ∙ ap refuses (sym told_so)) said)

-- ---- opened

open_by : (m : Mapping) (points : KeptPoints) (state : State) (full : Bool) → PointsStand m points state.points → is_full points ≡ full
    → open_step m (sealed_state state) ≡ unless (when full TooManyPits ∷ []) (open_done (sealed_state state))
unfolding open_step
open_by m points state full stand is = ap (λ b. unless (when b TooManyPits ∷ []) (open_done (sealed_state state))) (full_same m points state.points stand ∙ is)

pub open_refused : (m : Mapping) (points : KeptPoints) (state : State) → PointsStand m points state.points → is_full points ≡ true → open_step m (sealed_state state) ≡ refuses TooManyPits
open_refused m points state stand is = open_by m points state true stand is

pub open_ends : (m : Mapping) (index index' : IndexState) (points points' : KeptPoints) (state : State) (given : Reply) (out : List ℕ) → AreFaithful (Some m) index state → PointsStand m points state.points
    → index'.next ≡ index.next → HasOpened given index index' points points' → out ≡ reply_text given
    → EndsWith state (outcome_of state (open_step m (sealed_state state))) Written out (Some m) index' points'
open_ends m index index' points points' state given out f stand next is text =
    let sealed_so = sealed_faithful m index index' state f next is.layout in
    let stands = index_stands m index' (sealed_state state) sealed_so (buffer_sealed index index' is.layout) in
    let opened = point_opened m index'.entries state.content.live points state.points stands stand in
    let said : given ≡ reply.PitOpened (state.points.opened + 1) = is.reply_is ∙ ap (λ n. reply.PitOpened (n + 1)) (sym stand.opened) in
    subst (λ answer. EndsWith state (outcome_of state answer) Written out (Some m) index' points') (sym (open_by m points state false stand is.room))
    (done_with m index' points' state (machine.with_point state.content.live state.points) (reply.PitOpened (state.points.opened + 1)) out sealed_so
    (subst (λ (own : KeptPoints). PointsStand m own (machine.with_point state.content.live state.points)) (sym is.points_are) opened) refl (text ∙ ap reply_text said))

-- ---- closed

close_by : (m : Mapping) (id : ℕ) (points : KeptPoints) (state : State) (was : Bool) → PointsStand m points state.points → is_open id points.points ≡ was
    → close_step id m (sealed_state state) ≡ unless (when (not was) UnknownPit ∷ []) (close_done id (sealed_state state))
unfolding close_step
close_by m id points state was stand is =
    ap (λ b. unless (when (not b) UnknownPit ∷ []) (close_done id (sealed_state state))) (open_same m id points.points state.points.points stand.each ∙ is)

pub close_refused : (m : Mapping) (id : ℕ) (points : KeptPoints) (state : State) → PointsStand m points state.points → is_open id points.points ≡ false → close_step id m (sealed_state state) ≡ refuses UnknownPit
close_refused m id points state stand is = close_by m id points state false stand is

pub close_ends : (m : Mapping) (id : ℕ) (index index' : IndexState) (points points' : KeptPoints) (state : State) (given : Reply) (out : List ℕ) → AreFaithful (Some m) index state → PointsStand m points state.points
    → index'.next ≡ index.next → HasClosed id given index index' points points' → out ≡ reply_text given
    → EndsWith state (outcome_of state (close_step id m (sealed_state state))) Written out (Some m) index' points'
close_ends m id index index' points points' state given out f stand next is text =
    subst (λ answer. EndsWith state (outcome_of state answer) Written out (Some m) index' points') (sym (close_by m id points state true stand is.was_open))
    (done_with m index' points' state (machine.without_point id state.points) (reply.PitClosed id) out (sealed_faithful m index index' state f next is.layout)
    (subst (λ (own : KeptPoints). PointsStand m own (machine.without_point id state.points)) (sym is.points_are) (point_closed m id points state.points stand)) refl (text ∙ ap reply_text is.reply_is))
