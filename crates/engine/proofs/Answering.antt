-- Replies, and what stays faithful.
use Rattle.std.proofs.Common.{◌≡◌, ◌⊎◌, Result, Ok, Err, IsErrAnd, true, false, cond, ℕ, List, length, nat_le, Option, Some, refl, sym, subst, inl, inr, ◌∙◌}
use Rattle.flattener.specs.Block.{BlockState}
use Rattle.index_core.specs.Kept.{IndexState, layout_kept}
use Rattle.layout.specs.Layout.{Layout, buffer_size, sealed, with_room}
use Rattle.layout.proofs.Keeps.{sealed_keeps}
use Rattle.machine.specs.Answer.{Answer, refuses, answers, Outcome, outcome_of}
use Rattle.machine.specs.State.{State, sealed_state}
use Rattle.mapping.specs.Mapping.{Mapping}
use Rattle.reply_text.specs.Text.{reply_text}
use Rattle.reply_text.specs.declared.refusal.Refusal.{Refusal}
use Rattle.reply_text.specs.declared.reply.Reply.{Reply}
use Rattle.reply_text.specs.declared.reply.Reply.TheVariants as reply
use Rattle.engine.specs.Answers.{answered_by, reply_bytes}
use Rattle.index_trees.specs.Faithful.{AreFaithful, StandsUnder}
use Rattle.engine.specs.Parts.{Ends, IsAcceptance, IsRefusal, answered_of}
use Rattle.engine.specs.declared.engine.Answered.{Answered}
use Rattle.engine.specs.declared.engine.Answered.TheVariants.{Written, Refused, NoMemory}
use Rattle.engine.specs.declared.no_memory.NoMemory as memory
use Rattle.engine.specs.declared.reply.Ended.{Ended}
use Rattle.engine.specs.declared.reply.Ended.TheVariants.{Accepted}
use Rattle.engine.specs.declared.reply.Ended.TheVariants as ended
use Rattle.engine.proofs.Standing.{same_kept, sealed_stands}

-- ---- what stays faithful

pub same_faithful : (mapping : Option Mapping) (index index' : IndexState) (state : State) → AreFaithful mapping index state → index'.next ≡ index.next → layout_kept index' ≡ layout_kept index
    → AreFaithful mapping index' state
same_faithful mapping index index' state f next same = record {
  mapped = f.mapped;
  next = f.next ∙ sym next;
  stands = subst (λ (kept : Layout BlockState). StandsUnder mapping kept state.layout) (sym same) f.stands;
  laid = f.laid;
  numbered = f.numbered;
}

pub sealed_faithful : (m : Mapping) (index index' : IndexState) (state : State) → AreFaithful (Some m) index state → index'.next ≡ index.next → layout_kept index' ≡ sealed (layout_kept index)
    → AreFaithful (Some m) index' (sealed_state state)
sealed_faithful m index index' state f next same = record {
  mapped = f.mapped;
  next = f.next ∙ sym next;
  stands = same_kept m (sealed (layout_kept index)) (layout_kept index') (sealed state.layout) same (sealed_stands m (layout_kept index) state.layout f.stands);
  laid = sealed_keeps state.layout ∙ f.laid;
  numbered = f.numbered;
}

-- ---- replies

pub refused : (mapping : Option Mapping) (index : IndexState) (state : State) (why : Refusal) (out : List ℕ) → AreFaithful mapping index state → out ≡ reply_text (reply.Refused why)
    → Ends state (outcome_of state (refuses why)) Refused out mapping index
refused mapping index state why out f text = record {
  reply = reply.Refused why;
  after = state;
  may = inl (record { reply_is = refl; state_is = refl });
  faithful = f;
  points = refl;
  kept = refl;
  told = refl;
  text = text;
}

pub accepted : (mapping : Option Mapping) (index : IndexState) (state after : State) (given : Reply) (out : List ℕ) → AreFaithful mapping index after → after.points ≡ state.points → after.kept ≡ state.kept → answered_by given ≡ Written → out ≡ reply_text given
    → Ends state (outcome_of state (answers given after)) Written out mapping index
accepted mapping index state after given out f same stored told text = record {
  reply = given;
  after = after;
  may = inl (record { reply_is = refl; state_is = refl });
  faithful = f;
  points = same;
  kept = stored;
  told = sym told;
  text = text;
}

pub told : (mapping : Option Mapping) (index : IndexState) (state after : State) (answered : Answered) (given : Reply) (out : List ℕ) → AreFaithful mapping index after → after.points ≡ state.points → after.kept ≡ state.kept → reply_bytes answered out ≡ out
    → answered ≡ answered_by given → out ≡ reply_text given → Ends state (outcome_of state (answers given after)) answered out mapping index
told mapping index state after answered given out f same stored written told_so text = record {
  reply = given;
  after = after;
  may = inl (record { reply_is = refl; state_is = refl });
  faithful = f;
  points = same;
  kept = stored;
  told = told_so;
  text = written ∙ text;
}

-- ---- want of memory

pub lacking : (mapping : Option Mapping) (index : IndexState) (state : State) (outcome : Outcome) (out : List ℕ) → AreFaithful mapping index state → Ends state outcome NoMemory out mapping index
lacking mapping index state outcome out f = record {
  reply = reply.OutOfMemory;
  after = state;
  may = inr (inl (record { reply_is = refl; state_is = inl refl }));
  faithful = f;
  points = refl;
  kept = refl;
  told = refl;
  text = refl;
}

pub lacking_sealed : (m : Mapping) (index : IndexState) (state : State) (outcome : Outcome) (out : List ℕ) → AreFaithful (Some m) index (sealed_state state) → Ends state outcome NoMemory out (Some m) index
lacking_sealed m index state outcome out f = record {
  reply = reply.OutOfMemory;
  after = sealed_state state;
  may = inr (inl (record { reply_is = refl; state_is = inr refl }));
  faithful = f;
  points = refl;
  kept = refl;
  told = refl;
  text = refl;
}

-- ---- what a `?` returns where there was no memory

pub left : (Q : memory.NoMemory → Type 0) (mapping : Option Mapping) (index : IndexState) (state : State) (outcome : Outcome) (out : List ℕ) (result : Result Ended memory.NoMemory) → IsErrAnd result Q
    → AreFaithful mapping index state → Ends state outcome (answered_of result) out mapping index
left Q mapping index state outcome out (Ok ends) none f = absurd none
left Q mapping index state outcome out (Err none) is f = lacking mapping index state outcome out f

pub left_sealed : (Q : memory.NoMemory → Type 0) (m : Mapping) (index index' : IndexState) (state : State) (outcome : Outcome) (out : List ℕ) (result : Result Ended memory.NoMemory) → IsErrAnd result Q
    → AreFaithful (Some m) index state → index'.next ≡ index.next → layout_kept index' ≡ sealed (layout_kept index) → Ends state outcome (answered_of result) out (Some m) index'
left_sealed Q m index index' state outcome out (Ok ends) none f next seals = absurd none
left_sealed Q m index index' state outcome out (Err none) is f next seals = lacking_sealed m index' state outcome out (sealed_faithful m index index' state f next seals)

-- a full buffer is sealed, or nothing is
pub room : (layout : Layout BlockState) → (with_room layout ≡ layout) ⊎ (with_room layout ≡ sealed layout)
room layout = elim (nat_le buffer_size (length layout.buffer)) as (λ b. (cond b (sealed layout) layout ≡ layout) ⊎ (cond b (sealed layout) layout ≡ sealed layout)) [
  | true ↦ inr refl
  | false ↦ inl refl
]

-- where it may be that a full buffer was sealed
pub stays_or_seals : (kept kept' : Layout BlockState) → (kept' ≡ kept) ⊎ (kept' ≡ with_room kept) → (kept' ≡ kept) ⊎ (kept' ≡ sealed kept)
stays_or_seals kept kept' (inl same) = inl same
stays_or_seals kept kept' (inr made) = elim (room kept) [
  | inl same ↦ inl (made ∙ same)
  | inr seals ↦ inr (made ∙ seals)
]

pub lacking_room : (m : Mapping) (index index' : IndexState) (state : State) (outcome : Outcome) (out : List ℕ) → AreFaithful (Some m) index state → index'.next ≡ index.next
    → (layout_kept index' ≡ layout_kept index) ⊎ (layout_kept index' ≡ sealed (layout_kept index)) → Ends state outcome NoMemory out (Some m) index'
lacking_room m index index' state outcome out f next (inl same) = lacking (Some m) index' state outcome out (same_faithful (Some m) index index' state f next same)
lacking_room m index index' state outcome out f next (inr seals) = lacking_sealed m index' state outcome out (sealed_faithful m index index' state f next seals)

-- ---- by what the writing of a reply came to

pub refusal_ends : (mapping : Option Mapping) (index : IndexState) (state : State) (answer : Answer) (why : Refusal) (result : Result Ended memory.NoMemory) (out : List ℕ) → AreFaithful mapping index state
    → answer ≡ refuses why → IsRefusal why result out → Ends state (outcome_of state answer) (answered_of result) out mapping index
refusal_ends mapping index state answer why (Ok Accepted) out f e said = absurd said
refusal_ends mapping index state answer why (Ok ended.Refused) out f e said =
    subst (λ it. Ends state (outcome_of state it) Refused out mapping index) (sym e) (refused mapping index state why out f said)
refusal_ends mapping index state answer why (Err none) out f e said = lacking mapping index state (outcome_of state answer) out f

pub acceptance_ends : (mapping : Option Mapping) (index : IndexState) (state : State) (answer : Answer) (given : Reply) (result : Result Ended memory.NoMemory) (out : List ℕ) → AreFaithful mapping index state
    → answer ≡ answers given state → answered_by given ≡ Written → IsAcceptance given result out → Ends state (outcome_of state answer) (answered_of result) out mapping index
acceptance_ends mapping index state answer given (Ok Accepted) out f e told_so said =
    subst (λ it. Ends state (outcome_of state it) Written out mapping index) (sym e) (accepted mapping index state state given out f refl refl told_so said)
acceptance_ends mapping index state answer given (Ok ended.Refused) out f e told_so said = absurd said
acceptance_ends mapping index state answer given (Err none) out f e told_so said = lacking mapping index state (outcome_of state answer) out f

pub if_lacking : (mapping : Option Mapping) (index : IndexState) (state : State) (outcome : Outcome) (out : List ℕ) (result : Result Ended memory.NoMemory) (err : memory.NoMemory) → result ≡ Err err
    → Ends state outcome NoMemory out mapping index → Ends state outcome (answered_of result) out mapping index
if_lacking mapping index state outcome out result err e a = subst (λ (it : Result Ended memory.NoMemory). Ends state outcome (answered_of it) out mapping index) (sym e) a
