-- Commits, compactions and trims: what the machine answers, as the store answers it, and what a stop leaves.
use Rattle.std.proofs.Common.{◌≡◌, ◌≢◌, ◌⊎◌, ◌==◌, ◌+◌, max, ℕ, Bool, true, false, cond, List, [], ◌∷◌, length, Option, None, Some, Result, Ok, Err, IsErr, IsErrAnd, IsErrOf, OnOk, eq-eqb, ne_eqb, inl, inr, refl, sym, ap, subst, ◌∙◌}
use Rattle.std.proofs.lemmas.Bool.{true≢false}
use Rattle.std.proofs.lemmas.List.Elements.{recursion_from_All}
use Rattle.std.specs.List.{AllByRecursion}
use Rattle.commit_store.specs.Known.{KeepsStore, StoreState}
use Rattle.commit_store.specs.Preparing.{IsLeft, SaysView, end_named, new_sizes, room_of}
use Rattle.commit_store.specs.Saying.{FoundAs, StoreCommit}
use Rattle.commit_store.specs.Stepping.{HoldsView}
use Rattle.disk.specs.Stops.{IsTold}
use Rattle.extent_pool.specs.Placing.{Room}
use Rattle.extent_pool.specs.declared.extent.Extent.{Extent}
use Rattle.flattener.specs.Fits.{EntryFits, ViewFits}
use Rattle.index_core.specs.Kept.{IndexFits, IndexState, layout_kept}
use Rattle.index_trees.specs.Content.{IsContentOf, OpensTo}
use Rattle.index_trees.specs.Faithful.{AreFaithful}
use Rattle.index_trees.specs.Given.{AreWhole, IsSealedFor}
use Rattle.io_edges.specs.Faults.{Rose}
use Rattle.layout.specs.Layout.{sealed}
use Rattle.machine.specs.Answer.{Answer, Need, answers, closing, outcome_of, stores, with_mapping, writing}
use Rattle.machine.specs.May.{AreSizesFor, MayEnd, MayLeave, tried_state}
use Rattle.machine.specs.State.{Content, Kept, State, sealed_state}
use Rattle.machine.specs.Step.{asked_step}
use Rattle.machine.specs.Storing.{AreSizes, commit_done, commit_step, compact_done, compact_step, if_room, kept_by, last_generation, moves_in, named_end, room_in, trim_step, with_kept}
use Rattle.machine.specs.declared.limits.Limits.{Limits}
use Rattle.mapping.specs.Mapping.{Mapping, mapping_of}
use Rattle.reply_text.specs.Text.{reply_text}
use Rattle.reply_text.specs.declared.refusal.Refusal.{Refusal}
use Rattle.reply_text.specs.declared.refusal.Refusal.TheVariants.{DiskFailure, StoreFull}
use Rattle.reply_text.specs.declared.reply.Reply.{Reply}
use Rattle.reply_text.specs.declared.reply.Reply.TheVariants as reply
use Rattle.request_form.specs.Asked.{Asked, asks}
use Rattle.request_form.specs.Command as ask
use Rattle.segment.specs.Live.{EntryState}
use Rattle.segment_parts.specs.Agree.{AreColumns}
use Rattle.store_commands.specs.Commands.{HasFailed, HaveColumns, IsClosed, IsCommitted, IsFull, IsLacking, IsMoved, IsNotWritten, IsTrimmed, IsWritten, KeepsOn, StaysOrSeals}
use Rattle.store_commands.specs.declared.not_done.NotDone.{NotDone}
use Rattle.store_commands.specs.declared.not_done.NotDone.TheVariants as not_done
use Rattle.store_compact.specs.Compacting.{IsCompacted, IsUntried, kept_of}
use Rattle.engine.specs.Answers.{answered_by, reply_bytes}
use Rattle.engine.specs.Parts.{EndsStored, IsReported, answered_of}
use Rattle.engine.specs.Storing.{HasDiskCause, StoreTurn, is_acknowledged, is_tried}
use Rattle.engine.specs.declared.engine.Answered.{Answered}
use Rattle.engine.specs.declared.engine.Answered.TheVariants as answered
use Rattle.engine.specs.declared.no_memory.NoMemory as memory
use Rattle.engine.specs.declared.reply.Ended.{Ended}
use Rattle.engine.specs.declared.reply.Ended.TheVariants.{Refused}
use Rattle.engine.proofs.Answering.{same_faithful, sealed_faithful}
use Rattle.engine.proofs.Asking.{cause_left, turn_left}
use Rattle.engine.proofs.Plain.{lacking_plain}
use Rattle.engine.proofs.Sealing.{buffer_sealed}

-- the laws that tie a commit of blocks to the machine's trees
pub record Laws : Type 0 where
  pub sizes : (m : Mapping) (index : IndexState) (state : State) (store : StoreState) → IsSealedFor m index state store → AreSizes (Some m) state (new_sizes store.known index.entries)
  pub room : (m : Mapping) (index : IndexState) (state : State) (store : StoreState) (limits : Limits) → IsSealedFor m index state store → limits.store_bytes ≡ store.limit
      → room_in limits (new_sizes store.known index.entries) m state ≡ room_of store m index.entries
  pub kept : (m : Mapping) (index : IndexState) (state : State) (store new : StoreState) (limits : Limits) (most count : ℕ) → IsSealedFor m index state store → limits.store_bytes ≡ store.limit
      → IsCompacted store m index.entries most count new
      → (room : Room) × (room_of store m index.entries ≡ Some room) × (count ≡ length (moves_in limits most room state)) × (kept_of new ≡ kept_by room (moves_in limits most room state) state)
  pub still : (limits : Limits) (room : Room) (state : State) → moves_in limits 0 room state ≡ []
  pub content : (m : Mapping) (index : IndexState) (state : State) (c : StoreCommit) → AreFaithful (Some m) index state → index.buffer ≡ [] → SaysView m index.next index.entries c
      → m ≡ mapping_of m.bodies m.dynamic → IsContentOf (Some c) state.content

-- ---- what is kept

untried_kept : (store store' : StoreState) → IsUntried store store' → kept_of store' ≡ kept_of store
untried_kept store store' (inl same) = ap kept_of same
untried_kept store store' (inr shut) = ap kept_of shut

-- a generation may have been tried
left_kept : (store store' : StoreState) (generation : ℕ) → IsLeft store store' → store'.tried ≡ generation → kept_of store' ≡ record (kept_of store) { generation = generation }
left_kept store store' generation left tried =
    λ i. record { segments = (kept_of (record store { known = left.known i })).segments; taken = left.named i; generation = tried i }

-- the same trees, whatever the store keeps
kept_faithful : (m : Mapping) (index : IndexState) (state : State) (kept : Kept) → AreFaithful (Some m) index state → AreFaithful (Some m) index (with_kept kept state)
kept_faithful m index state kept f = record { mapped = f.mapped; next = f.next; stands = f.stands; laid = f.laid; numbered = record { live = f.numbered.live; below = f.numbered.below } }

-- ---- an index that was sealed

whole : (m : Mapping) (entries : List EntryState) → AllByRecursion (λ (entry : EntryState). AreColumns entry.columns) entries → AllByRecursion (EntryFits m) entries → AreWhole entries
whole m [] agree fits = tt
whole m (entry ∷ entries) agree fits = (record { agree = agree.0; live = fits.0.live }, whole m entries agree.1 fits.1)

sealed_for : (m : Mapping) (index index' : IndexState) (state : State) (store : StoreState) → AreFaithful (Some m) index state → state.kept ≡ kept_of store → index'.next ≡ index.next
    → layout_kept index' ≡ sealed (layout_kept index) → IndexFits m index' → HaveColumns index' → ViewFits m index'.entries → IsSealedFor m index' (sealed_state state) store
sealed_for m index index' state store f kept next seals fits agree view = record {
  fits = fits;
  whole = whole m index'.entries (recursion_from_All (λ (entry : EntryState). AreColumns entry.columns) index'.entries agree) (recursion_from_All (EntryFits m) index'.entries view.each);
  sealed = buffer_sealed index index' seals;
  faithful = sealed_faithful m index index' state f next seals;
  kept = kept;
}

-- ---- a commit, alone or with moves, in the machine

-- In the state with its buffer sealed it wants a generation and room, and is done then.
pub record IsCommand (limits : Limits) (m : Mapping) (state : State) (asked : Asked) (done : Room → Answer) : Type 0 where
  pub step : (sizes : List ℕ) → asked_step limits sizes asked state
      ≡ cond (state.kept.generation == last_generation) (answers (reply.Refused StoreFull) (sealed_state state)) (if_room (room_in limits sizes m (sealed_state state)) done (sealed_state state))
  pub counted : (sizes : List ℕ) → AreSizes (Some m) (sealed_state state) sizes → AreSizesFor asked state sizes
  pub writes : (room : Room) → (outcome_of state (done room)).need ≡ writing
  pub tried : is_tried asked ≡ true

abbrev commit_by : State → Room → Answer
commit_by state room = commit_done room [] (reply.Committed state.content.next) (sealed_state state)

commit_command : (limits : Limits) (m : Mapping) (state : State) → state.content.mapping ≡ Some m → IsCommand limits m state (asks ask.commit) (commit_by state)
unfolding commit_step
commit_command limits m state mapped = record {
  step = λ sizes. ap (λ (own : Option Mapping). with_mapping own (λ it. commit_step limits sizes it (sealed_state state))) mapped;
  counted = λ sizes are. subst (λ (own : Option Mapping). AreSizes own (sealed_state state) sizes) (sym mapped) are;
  writes = λ room. refl;
  tried = refl;
}

compact_command : (limits : Limits) (most : ℕ) (m : Mapping) (state : State) → state.content.mapping ≡ Some m
    → IsCommand limits m state (asks (ask.compact most)) (compact_done limits most (sealed_state state))
unfolding compact_step
compact_command limits most m state mapped = record {
  step = λ sizes. ap (λ (own : Option Mapping). with_mapping own (λ it. compact_step limits sizes most it (sealed_state state))) mapped;
  counted = λ sizes are. subst (λ (own : Option Mapping). AreSizes own (sealed_state state) sizes) (sym mapped) are;
  writes = λ room. refl;
  tried = refl;
}

-- by whether there is a generation and room
step_by : (limits : Limits) (m : Mapping) (state : State) (asked : Asked) (done : Room → Answer) (sizes : List ℕ) (last : Bool) (room : Option Room) → IsCommand limits m state asked done
    → (state.kept.generation == last_generation) ≡ last → room_in limits sizes m (sealed_state state) ≡ room
    → asked_step limits sizes asked state ≡ cond last (answers (reply.Refused StoreFull) (sealed_state state)) (if_room room done (sealed_state state))
step_by limits m state asked done sizes last room command is found =
    command.step sizes ∙ (λ i. cond (is i) (answers (reply.Refused StoreFull) (sealed_state state)) (if_room (found i) done (sealed_state state)))

generation_left : (state : State) (store : StoreState) → state.kept ≡ kept_of store → store.tried ≢ last_generation → (state.kept.generation == last_generation) ≡ false
generation_left state store kept below =
    ne_eqb state.kept.generation last_generation (λ same. below (sym (ap (λ (own : Kept). own.generation) kept) ∙ same))

generation_last : (state : State) (store : StoreState) → state.kept ≡ kept_of store → store.tried ≡ last_generation → (state.kept.generation == last_generation) ≡ true
generation_last state store kept last = eq-eqb state.kept.generation last_generation (ap (λ (own : Kept). own.generation) kept ∙ last)

-- ---- how it may end

-- a reply and a state that may be given, with what the store keeps then
pub record Given (limits : Limits) (state : State) (asked : Asked) (m : Mapping) (index' : IndexState) (store' : StoreState) (given : Reply) : Type 0 where
  pub sizes : List ℕ
  pub after : State
  pub may : MayEnd state (outcome_of state (asked_step limits sizes asked state)) given after
  pub faithful : AreFaithful (Some m) index' after
  pub content : after.content ≡ state.content
  pub points : after.points ≡ state.points
  pub kept : after.kept ≡ kept_of store'
  pub are : (given ≡ reply.OutOfMemory) ⊎ AreSizesFor asked state sizes

module _ (laws : Laws) (limits : Limits) (m : Mapping) (index index' : IndexState) (state : State) (store store' : StoreState) (asked : Asked) (done : Room → Answer)
    (limit : store.limit ≡ limits.store_bytes) (f : AreFaithful (Some m) index state) (kept : state.kept ≡ kept_of store) (next : index'.next ≡ index.next) (fits : IndexFits m index') (view : ViewFits m index'.entries)
    (command : IsCommand limits m state asked done) where
  abbrev its_sizes : List ℕ
  its_sizes = new_sizes store.known index'.entries

  counted_so : layout_kept index' ≡ sealed (layout_kept index) → HaveColumns index' → AreSizesFor asked state its_sizes
  counted_so seals agree = command.counted its_sizes (laws.sizes m index' (sealed_state state) store (sealed_for m index index' state store f kept next seals fits agree view))

  room_so : layout_kept index' ≡ sealed (layout_kept index) → HaveColumns index' → room_in limits its_sizes m (sealed_state state) ≡ room_of store m index'.entries
  room_so seals agree = laws.room m index' (sealed_state state) store limits (sealed_for m index index' state store f kept next seals fits agree view) (sym limit)

  -- it was done, with this reply where the machine gives it
  written_given : (most count : ℕ) (given : Reply) → IsWritten m most count index index' store store'
      → ((room : Room) → count ≡ length (moves_in limits most room (sealed_state state)) → done room ≡ commit_done room (moves_in limits most room (sealed_state state)) given (sealed_state state))
      → Given limits state asked m index' store' given
  written_given most count given written is_done =
      let seals = written.layout in
      let sealed_so = sealed_for m index index' state store f kept next seals fits written.agree view in
      let law = laws.kept m index' (sealed_state state) store store' limits most count sealed_so (sym limit) written.compacted in
      let room = law.0 in
      let moves = moves_in limits most room (sealed_state state) in
      let after = with_kept (kept_by room moves (sealed_state state)) (sealed_state state) in
      let e : asked_step limits its_sizes asked state ≡ commit_done room moves given (sealed_state state) =
      step_by limits m state asked done its_sizes false (Some room) command (generation_left state store kept written.below) (room_so seals written.agree ∙ law.1) ∙ is_done room law.2 in
      record {
        sizes = its_sizes;
        after = after;
        may = inl (record { reply_is = sym (ap (λ (answer : Answer). (outcome_of state answer).reply) e); state_is = sym (ap (λ (answer : Answer). (outcome_of state answer).state) e) });
        faithful = kept_faithful m index' (sealed_state state) (kept_by room moves (sealed_state state)) sealed_so.faithful;
        content = refl;
        points = refl;
        kept = sym law.3;
        are = inr (counted_so seals written.agree);
      }

  -- there was no generation left, or no room
  full_given : IsFull m index index' store store' → Given limits state asked m index' store' (reply.Refused StoreFull)
  full_given full =
      let sealed_so = sealed_for m index index' state store f kept next full.layout fits full.agree view in
      record {
        sizes = its_sizes;
        after = sealed_state state;
        may = by full.full;
        faithful = sealed_so.faithful;
        content = refl;
        points = refl;
        kept = kept ∙ sym (untried_kept store store' full.untried);
        are = inr (counted_so full.layout full.agree);
      }
    where
      by : (store.tried ≡ last_generation) ⊎ ((store.tried ≢ last_generation) × (room_of store m index'.entries ≡ None))
          → MayEnd state (outcome_of state (asked_step limits its_sizes asked state)) (reply.Refused StoreFull) (sealed_state state)
      by (inl last) =
          let e = step_by limits m state asked done its_sizes true (room_in limits its_sizes m (sealed_state state)) command (generation_last state store kept last) refl in
          inl (record { reply_is = sym (ap (λ (answer : Answer). (outcome_of state answer).reply) e); state_is = sym (ap (λ (answer : Answer). (outcome_of state answer).state) e) })
      by (inr none) =
          let e = step_by limits m state asked done its_sizes false None command (generation_left state store kept none.0) (room_so full.layout full.agree ∙ none.1) in
          inl (record { reply_is = sym (ap (λ (answer : Answer). (outcome_of state answer).reply) e); state_is = sym (ap (λ (answer : Answer). (outcome_of state answer).state) e) })

  -- what is needed of the disk where there is a generation
  need_by : (room : Option Room) → room_in limits its_sizes m (sealed_state state) ≡ room → store.tried ≢ last_generation
      → (outcome_of state (asked_step limits its_sizes asked state)).need ≡ (outcome_of state (if_room room done (sealed_state state))).need
  need_by room found below =
      ap (λ (answer : Answer). (outcome_of state answer).need) (step_by limits m state asked done its_sizes false room command (generation_left state store kept below) found)

  closing_leaves : (need : Need) → (need ≡ closing) ⊎ (need ≡ writing) → MayLeave need state (sealed_state state)
  closing_leaves need (inl is) = subst (λ own. MayLeave own state (sealed_state state)) (sym is) (inr refl)
  closing_leaves need (inr is) = subst (λ own. MayLeave own state (sealed_state state)) (sym is) (inl (inr refl))

  needs_so : (room : Option Room) → ((outcome_of state (if_room room done (sealed_state state))).need ≡ closing) ⊎ ((outcome_of state (if_room room done (sealed_state state))).need ≡ writing)
  needs_so None = inl refl
  needs_so (Some room) = inr (command.writes room)

  sealed_leaves : store.tried ≢ last_generation → MayLeave (outcome_of state (asked_step limits its_sizes asked state)).need state (sealed_state state)
  sealed_leaves below =
      let room = room_in limits its_sizes m (sealed_state state) in
      subst (λ own. MayLeave own state (sealed_state state)) (sym (need_by room refl below)) (closing_leaves (outcome_of state (if_room room done (sealed_state state))).need (needs_so room))

  -- a call of the disk failed, before a generation was tried or behind it
  failed_given : HasFailed m index index' store store' → Given limits state asked m index' store' (reply.Refused DiskFailure)
  failed_given failed = by failed.tried
    where
      sealed_so : IsSealedFor m index' (sealed_state state) store
      sealed_so = sealed_for m index index' state store f kept next failed.layout fits failed.agree view

      before : kept_of store' ≡ kept_of store → Given limits state asked m index' store' (reply.Refused DiskFailure)
      before same = record {
        sizes = its_sizes;
        after = sealed_state state;
        may = inr (inr (record { reply_is = refl; state_is = sealed_leaves failed.below }));
        faithful = sealed_so.faithful;
        content = refl;
        points = refl;
        kept = kept ∙ sym same;
        are = inr (counted_so failed.layout failed.agree);
      }

      behind : (room : Room) → room_of store m index'.entries ≡ Some room → store'.tried ≡ store.tried + 1 → Given limits state asked m index' store' (reply.Refused DiskFailure)
      behind room found tried =
          let more : kept_of store' ≡ record (kept_of store) { generation = store.tried + 1 } = left_kept store store' (store.tried + 1) failed.left tried in
          let need : (outcome_of state (asked_step limits its_sizes asked state)).need ≡ writing =
          need_by (Some room) (room_so failed.layout failed.agree ∙ found) failed.below ∙ command.writes room in
          record {
            sizes = its_sizes;
            after = sealed_state (tried_state state);
            may = inr (inr (record { reply_is = refl; state_is = subst (λ own. MayLeave own state (sealed_state (tried_state state))) (sym need) (inr (inr refl)) }));
            faithful = kept_faithful m index' (sealed_state state) (tried_state state).kept sealed_so.faithful;
            content = refl;
            points = refl;
            kept = ap (λ (own : Kept). record own { generation = own.generation + 1 }) kept ∙ sym more;
            are = inr (counted_so failed.layout failed.agree);
          }

      either : (room : Room) → room_of store m index'.entries ≡ Some room → (store'.tried ≡ store.tried) ⊎ (store'.tried ≡ store.tried + 1) → Given limits state asked m index' store' (reply.Refused DiskFailure)
      either room found (inl same) = before (left_kept store store' store.tried failed.left same)
      either room found (inr more) = behind room found more

      by : IsUntried store store' ⊎ ((room : Room) × (room_of store m index'.entries ≡ Some room)) → Given limits state asked m index' store' (reply.Refused DiskFailure)
      by (inl untried) = before (untried_kept store store' untried)
      by (inr there) = either there.0 there.1 failed.left.tried

-- there was no memory, whatever was asked for
lacking_given : (limits : Limits) (m : Mapping) (index index' : IndexState) (state : State) (store store' : StoreState) (asked : Asked) → AreFaithful (Some m) index state → state.kept ≡ kept_of store → index'.next ≡ index.next
    → IsLacking index index' store store' → Given limits state asked m index' store' reply.OutOfMemory
lacking_given limits m index index' state store store' asked f kept next lacking = by lacking.layout
  where
    same : state.kept ≡ kept_of store'
    same = kept ∙ sym (untried_kept store store' lacking.untried)

    by : StaysOrSeals index index' → Given limits state asked m index' store' reply.OutOfMemory
    by (inl stays) = record {
      sizes = [];
      after = state;
      may = inr (inl (record { reply_is = refl; state_is = inl refl }));
      faithful = same_faithful (Some m) index index' state f next stays;
      content = refl;
      points = refl;
      kept = same;
      are = inl refl;
    }
    by (inr seals) = record {
      sizes = [];
      after = sealed_state state;
      may = inr (inl (record { reply_is = refl; state_is = inr refl }));
      faithful = sealed_faithful m index index' state f next seals;
      content = refl;
      points = refl;
      kept = same;
      are = inl refl;
    }

-- ---- trims

trim_step_is : (limits : Limits) (sizes : List ℕ) (m : Mapping) (state : State) → state.content.mapping ≡ Some m
    → asked_step limits sizes (asks ask.trim) state ≡ stores closing (reply.Trimmed (named_end state.kept.taken)) (sealed_state state)
unfolding trim_step
trim_step_is limits sizes m state mapped = ap (λ (own : Option Mapping). with_mapping own (λ it. trim_step it (sealed_state state))) mapped

end_same : (extents : List Extent) → named_end extents ≡ end_named extents
end_same [] = refl
end_same (extent ∷ extents) = ap (max (extent.at + extent.len)) (end_same extents)

module _ (limits : Limits) (m : Mapping) (index index' : IndexState) (state : State) (store store' : StoreState) (f : AreFaithful (Some m) index state) (kept : state.kept ≡ kept_of store) (next : index'.next ≡ index.next)
    (closed : IsClosed index index' store store') where
  trimmed_by : (given : Reply) → MayEnd state (outcome_of state (asked_step limits [] (asks ask.trim) state)) given (sealed_state state) → Given limits state (asks ask.trim) m index' store' given
  trimmed_by given may = record {
    sizes = [];
    after = sealed_state state;
    may = may;
    faithful = sealed_faithful m index index' state f next closed.layout;
    content = refl;
    points = refl;
    kept = kept ∙ sym (untried_kept store store' closed.untried);
    are = inr tt;
  }

  trimmed_given : Given limits state (asks ask.trim) m index' store' (reply.Trimmed (end_named store.named))
  trimmed_given =
      let e = trim_step_is limits [] m state f.mapped in
      let bytes : named_end state.kept.taken ≡ end_named store.named = ap (λ (own : Kept). named_end own.taken) kept ∙ end_same store.named in
      trimmed_by (reply.Trimmed (end_named store.named))
      (inl (record {
        reply_is = ap reply.Trimmed (sym bytes) ∙ sym (ap (λ (answer : Answer). (outcome_of state answer).reply) e);
        state_is = sym (ap (λ (answer : Answer). (outcome_of state answer).state) e);
      }))

  uncut_given : Given limits state (asks ask.trim) m index' store' (reply.Refused DiskFailure)
  uncut_given =
      let e = ap (λ (answer : Answer). (outcome_of state answer).need) (trim_step_is limits [] m state f.mapped) in
      trimmed_by (reply.Refused DiskFailure) (inr (inr (record { reply_is = refl; state_is = subst (λ own. MayLeave own state (sealed_state state)) (sym e) (inr refl) })))

-- ---- over a disk

-- an image that a stop may leave on the way: it opens as one of those before, or as the view of a sealed index
abbrev pub OnTheWay : ℕ → (List ℕ → Type 0) → Mapping → IndexState → List ℕ → Type 0
OnTheWay limit image m index' file = FoundAs limit image file ⊎ ((index'.buffer ≡ []) × HoldsView limit m index'.next index'.entries file)

turn_on : (tried : Bool) (given : Reply) (content : Content) (store store' : StoreState) (Shows image image' : List ℕ → Type 0) (from to : ℕ) (past since : ℕ → List ℕ → Type 0) → store'.limit ≡ store.limit
    → KeepsOn store' Shows image' from to past since → ((file : List ℕ) → Shows file → FoundAs store.limit image file ⊎ ((tried ≡ true) × OpensTo store.limit content file))
    → (is_acknowledged given ≡ true → (file : List ℕ) → image' file → OpensTo store.limit content file) → StoreTurn tried given content store' image image' from to past since
turn_on tried given content store store' Shows image image' from to past since same on shows acknowledges = record {
  last = on.last;
  keeps = on.keeps;
  passes = record { later = on.passes.later; only = λ moment file before was. by moment file (on.passes.only moment file before was) };
  acknowledged = λ is file there. subst (λ (limit : ℕ). OpensTo limit content file) (sym same) (acknowledges is file there);
}
  where
    by : (moment : ℕ) (file : List ℕ) → past moment file ⊎ Shows file → past moment file ⊎ (FoundAs store'.limit image file ⊎ ((tried ≡ true) × OpensTo store'.limit content file))
    by moment file (inl was) = inl was
    by moment file (inr on_way) =
        inr (subst (λ (limit : ℕ). FoundAs limit image file ⊎ ((tried ≡ true) × OpensTo limit content file)) (sym same) (shows file on_way))

view_opens : Laws → (limit : ℕ) (m : Mapping) (index' : IndexState) (after : State) (file : List ℕ) → AreFaithful (Some m) index' after → m ≡ mapping_of m.bodies m.dynamic → index'.buffer ≡ []
    → HoldsView limit m index'.next index'.entries file → OpensTo limit after.content file
view_opens laws limit m index' after file f made empty view =
    record { found = Some view.commit; holds = view.holds; is = laws.content m index' after view.commit f empty view.says made }

way_opens : Laws → (limit : ℕ) (image : List ℕ → Type 0) (m : Mapping) (index' : IndexState) (after : State) (tried : Bool) (file : List ℕ) → AreFaithful (Some m) index' after → m ≡ mapping_of m.bodies m.dynamic
    → tried ≡ true → OnTheWay limit image m index' file → FoundAs limit image file ⊎ ((tried ≡ true) × OpensTo limit after.content file)
way_opens laws limit image m index' after tried file f made is (inl alike) = inl alike
way_opens laws limit image m index' after tried file f made is (inr view) = inr (is, view_opens laws limit m index' after file f made view.0 view.1)

-- what the disk and the buffer have to say of an end with this reply
pub record Told (tried : Bool) (given : Reply) (content : Content) (store store' : StoreState) (content' : Option (List ℕ)) (image image' : List ℕ → Type 0) (from to : ℕ) (past since : ℕ → List ℕ → Type 0)
    (faults faults' : ℕ) : Type 0 where
  pub stores : IsTold content' → (found : Option StoreCommit) → KeepsStore store found image → StoreTurn tried given content store' image image' from to past since
  pub cause : HasDiskCause given faults faults'

stored_ends : (limits : Limits) (m : Mapping) (index' : IndexState) (state : State) (store store' : StoreState) (asked : Asked) (given : Reply) (answered : Answered) (out : List ℕ) (content' : Option (List ℕ))
    (image image' : List ℕ → Type 0) (from to : ℕ) (past since : ℕ → List ℕ → Type 0) (faults faults' : ℕ) → (own : Given limits state asked m index' store' given) → answered ≡ answered_by given
    → reply_bytes answered out ≡ reply_text given → Told (is_tried asked) given own.after.content store store' content' image image' from to past since faults faults'
    → EndsStored limits state asked answered out (Some m) index' store store' content' image image' from to past since faults faults'
stored_ends limits m index' state store store' asked given answered out content' image image' from to past since faults faults' own told_so text told = record {
  sizes = own.sizes;
  reply = given;
  after = own.after;
  may = own.may;
  faithful = own.faithful;
  points = own.points;
  kept = own.kept;
  told = told_so;
  text = text;
  are = own.are;
  stores = told.stores;
  cause = told.cause;
}

-- the reply was written, or why that wasn't done
refused_told : (result : Result Ended memory.NoMemory) (out : List ℕ) (why : Refusal) → IsReported (Err (not_done.Refused why)) result out
    → (answered_of result ≡ answered_by (reply.Refused why)) × (reply_bytes (answered_of result) out ≡ reply_text (reply.Refused why))
refused_told result out why said = (ap answered_of said.0, ap (λ (it : Result Ended memory.NoMemory). reply_bytes (answered_of it) out) said.0 ∙ said.1)

done_told : (result : Result Ended memory.NoMemory) (out : List ℕ) (given : Reply) → answered_by given ≡ answered.Written → IsReported (Ok given) result out
    → (answered_of result ≡ answered_by given) × (reply_bytes (answered_of result) out ≡ reply_text given)
done_told result out given is said = (ap answered_of said.0 ∙ sym is, ap (λ (it : Result Ended memory.NoMemory). reply_bytes (answered_of it) out) said.0 ∙ said.1)

lacking_told : (result : Result Ended memory.NoMemory) (out : List ℕ) → IsErr result → (answered_of result ≡ answered_by reply.OutOfMemory) × (reply_bytes (answered_of result) out ≡ reply_text reply.OutOfMemory)
lacking_told (Ok ends) out none = absurd (true≢false (sym none))
lacking_told (Err none) out is = (refl, refl)

-- the causes, by the result
abbrev pub HasFault : Result Reply NotDone → ℕ → ℕ → Type 0
HasFault done faults faults' = (IsErrOf done (not_done.Refused DiskFailure) → Rose faults faults') × ((faults' ≡ faults) ⊎ IsErrOf done (not_done.Refused DiskFailure))

ok_not_err : (given : Reply) (why : NotDone) → IsErrOf (Ok given) why → ⊥
ok_not_err given why e = cc

full_not_failed : IsErrOf {T = Reply} (Err (not_done.Refused StoreFull)) (not_done.Refused DiskFailure) → ⊥
full_not_failed e = cc

lacking_not_failed : IsErrOf {T = Reply} (Err not_done.NoMemory) (not_done.Refused DiskFailure) → ⊥
lacking_not_failed e = cc

same_cause : (done : Result Reply NotDone) (given : Reply) (faults faults' : ℕ) → HasFault done faults faults' → (IsErrOf done (not_done.Refused DiskFailure) → ⊥) → given ≢ reply.Refused DiskFailure
    → HasDiskCause given faults faults'
same_cause done given faults faults' fault never other = record { failed = λ failed. absurd (other failed); others = λ is. by fault.1 }
  where
    by : (faults' ≡ faults) ⊎ IsErrOf done (not_done.Refused DiskFailure) → faults' ≡ faults
    by (inl same) = same
    by (inr failed) = absurd (never failed)

failed_cause : (faults faults' : ℕ) → HasFault (Err (not_done.Refused DiskFailure)) faults faults' → HasDiskCause (reply.Refused DiskFailure) faults faults'
failed_cause faults faults' fault = record { failed = λ failed. fault.0 refl; others = λ other. absurd (other refl) }

-- ---- the ends of commits, alone or with moves

module _ (laws : Laws) (limits : Limits) (m : Mapping) (index index' : IndexState) (state : State) (store store' : StoreState) (asked : Asked) (done : Room → Answer)
    (limit : store.limit ≡ limits.store_bytes) (f : AreFaithful (Some m) index state) (kept : state.kept ≡ kept_of store) (next : index'.next ≡ index.next) (fits : IndexFits m index') (view : ViewFits m index'.entries)
    (command : IsCommand limits m state asked done) (made : m ≡ mapping_of m.bodies m.dynamic) (same_limit : store'.limit ≡ store.limit)
    (result : Result Ended memory.NoMemory) (out : List ℕ) (content' : Option (List ℕ)) (image image' : List ℕ → Type 0) (from to : ℕ) (past since : ℕ → List ℕ → Type 0) (faults faults' : ℕ)
    (on : IsTold content' → (found : Option StoreCommit) → KeepsStore store found image → KeepsOn store' (OnTheWay store.limit image m index') image' from to past since) where
  abbrev Ends : Type 0
  Ends = EndsStored limits state asked (answered_of result) out (Some m) index' store store' content' image image' from to past since faults faults'

  told_of : (given : Reply) (own : Given limits state asked m index' store' given) → HasDiskCause given faults faults'
      → (IsTold content' → (found : Option StoreCommit) → KeepsStore store found image → is_acknowledged given ≡ true → (file : List ℕ) → image' file → OpensTo store.limit own.after.content file)
      → Told (is_tried asked) given own.after.content store store' content' image image' from to past since faults faults'
  told_of given own cause acknowledges = record {
    stores = λ tells found keeps. turn_on (is_tried asked) given own.after.content store store' (OnTheWay store.limit image m index') image image' from to past since same_limit (on tells found keeps)
        (λ file shows. way_opens laws store.limit image m index' own.after (is_tried asked) file own.faithful made command.tried shows) (acknowledges tells found keeps);
    cause = cause;
  }

  not_written_ends : (why : NotDone) → IsNotWritten m why index index' store store' → IsReported (Err why) result out → HasFault (Err why) faults faults' → Ends
  not_written_ends (not_done.Refused why) is said fault = by is
    where
      by : ((why ≡ StoreFull) × IsFull m index index' store store') ⊎ ((why ≡ DiskFailure) × HasFailed m index index' store store') → Ends
      by (inl full) =
          let own = full_given laws limits m index index' state store store' asked done limit f kept next fits view command full.1 in
          let told = refused_told result out StoreFull (subst (λ (it : Refusal). IsReported (Err (not_done.Refused it)) result out) full.0 said) in
          let its = subst (λ (it : Refusal). HasFault (Err (not_done.Refused it)) faults faults') full.0 fault in
          stored_ends limits m index' state store store' asked (reply.Refused StoreFull) (answered_of result) out content' image image' from to past since faults faults' own told.0 told.1
          (told_of (reply.Refused StoreFull) own (same_cause (Err (not_done.Refused StoreFull)) (reply.Refused StoreFull) faults faults' its full_not_failed (λ e. cc)) (λ tells found keeps is file there. absurd (true≢false (sym is))))
      by (inr failed) =
          let own = failed_given laws limits m index index' state store store' asked done limit f kept next fits view command failed.1 in
          let told = refused_told result out DiskFailure (subst (λ (it : Refusal). IsReported (Err (not_done.Refused it)) result out) failed.0 said) in
          let its = subst (λ (it : Refusal). HasFault (Err (not_done.Refused it)) faults faults') failed.0 fault in
          stored_ends limits m index' state store store' asked (reply.Refused DiskFailure) (answered_of result) out content' image image' from to past since faults faults' own told.0 told.1
          (told_of (reply.Refused DiskFailure) own (failed_cause faults faults' its) (λ tells found keeps is file there. absurd (true≢false (sym is))))
  not_written_ends not_done.NoMemory lacking said fault =
      let own = lacking_given limits m index index' state store store' asked f kept next lacking in
      let told = lacking_told result out said in
      stored_ends limits m index' state store store' asked reply.OutOfMemory (answered_of result) out content' image image' from to past since faults faults' own told.0 told.1
      (told_of reply.OutOfMemory own (same_cause (Err not_done.NoMemory) reply.OutOfMemory faults faults' fault lacking_not_failed lacking_plain.fails) (λ tells found keeps is file there. absurd (true≢false (sym is))))

  written_ends : (most count : ℕ) (given : Reply) → answered_by given ≡ answered.Written → given ≢ reply.Refused DiskFailure → IsWritten m most count index index' store store'
      → ((room : Room) → count ≡ length (moves_in limits most room (sealed_state state)) → done room ≡ commit_done room (moves_in limits most room (sealed_state state)) given (sealed_state state))
      → IsReported (Ok given) result out → HasFault (Ok given) faults faults'
      → (IsTold content' → (found : Option StoreCommit) → KeepsStore store found image → (file : List ℕ) → image' file → HoldsView store.limit m index'.next index'.entries file) → Ends
  written_ends most count given is other written is_done said fault holds =
      let own = written_given laws limits m index index' state store store' asked done limit f kept next fits view command most count given written is_done in
      let told = done_told result out given is said in
      stored_ends limits m index' state store store' asked given (answered_of result) out content' image image' from to past since faults faults' own told.0 told.1
      (told_of given own (same_cause (Ok given) given faults faults' fault (ok_not_err given (not_done.Refused DiskFailure)) other)
      (λ tells found keeps acknowledged file there. view_opens laws store.limit m index' own.after file own.faithful made (buffer_sealed index index' written.layout) (holds tells found keeps file there)))

-- what is said of the disk, whether it was done or not
abbrev pub Holds : Result Reply NotDone → ℕ → Mapping → IndexState → StoreState → Option (List ℕ) → (List ℕ → Type 0) → (List ℕ → Type 0) → Type 0
Holds done limit m index' store content' image image' =
    OnOk done (IsTold content' → (found : Option StoreCommit) → KeepsStore store found image → (file : List ℕ) → image' file → HoldsView limit m index'.next index'.entries file)

pub commit_ends : Laws → (limits : Limits) (m : Mapping) (index index' : IndexState) (state : State) (store store' : StoreState) (done : Result Reply NotDone) (result : Result Ended memory.NoMemory) (out : List ℕ) (content' : Option (List ℕ))
    (image image' : List ℕ → Type 0) (from to : ℕ) (past since : ℕ → List ℕ → Type 0) (faults faults' : ℕ) → store.limit ≡ limits.store_bytes → AreFaithful (Some m) index state → state.kept ≡ kept_of store
    → index'.next ≡ index.next → IndexFits m index' → ViewFits m index'.entries → m ≡ mapping_of m.bodies m.dynamic → store'.limit ≡ store.limit → IsCommitted m done index index' store store' → IsReported done result out
    → HasFault done faults faults' → (IsTold content' → (found : Option StoreCommit) → KeepsStore store found image → KeepsOn store' (OnTheWay store.limit image m index') image' from to past since)
    → Holds done store.limit m index' store content' image image'
    → EndsStored limits state (asks ask.commit) (answered_of result) out (Some m) index' store store' content' image image' from to past since faults faults'
commit_ends laws limits m index index' state store store' (Ok given) result out content' image image' from to past since faults faults' limit f kept next fits view made same ended said fault on holds =
    let is : reply.Committed state.content.next ≡ given = ap reply.Committed f.next ∙ sym ended.reply_is in
    written_ends laws limits m index index' state store store' (asks ask.commit) (commit_by state) limit f kept next fits view (commit_command limits m state f.mapped) made same result out content' image image' from to past since
    faults faults' on 0 ended.count given (ap answered_by ended.reply_is) (λ e. failure_not_committed index.next (sym ended.reply_is ∙ e)) ended.written
    (λ room counted. let quiet = sym (laws.still limits room (sealed_state state)) in λ i. commit_done room (quiet i) (is i) (sealed_state state)) said fault holds
  where
    failure_not_committed : (n : ℕ) → reply.Committed n ≢ reply.Refused DiskFailure
    failure_not_committed n e = cc
commit_ends laws limits m index index' state store store' (Err why) result out content' image image' from to past since faults faults' limit f kept next fits view made same ended said fault on holds =
    not_written_ends laws limits m index index' state store store' (asks ask.commit) (commit_by state) limit f kept next fits view (commit_command limits m state f.mapped) made same result out content' image image' from to past since
    faults faults' on why ended said fault

pub compact_ends : Laws → (most : ℕ) (limits : Limits) (m : Mapping) (index index' : IndexState) (state : State) (store store' : StoreState) (done : Result Reply NotDone) (result : Result Ended memory.NoMemory) (out : List ℕ)
    (content' : Option (List ℕ)) (image image' : List ℕ → Type 0) (from to : ℕ) (past since : ℕ → List ℕ → Type 0) (faults faults' : ℕ) → store.limit ≡ limits.store_bytes → AreFaithful (Some m) index state → state.kept ≡ kept_of store
    → index'.next ≡ index.next → IndexFits m index' → ViewFits m index'.entries → m ≡ mapping_of m.bodies m.dynamic → store'.limit ≡ store.limit → IsMoved m most done index index' store store' → IsReported done result out
    → HasFault done faults faults' → (IsTold content' → (found : Option StoreCommit) → KeepsStore store found image → KeepsOn store' (OnTheWay store.limit image m index') image' from to past since)
    → Holds done store.limit m index' store content' image image'
    → EndsStored limits state (asks (ask.compact most)) (answered_of result) out (Some m) index' store store' content' image image' from to past since faults faults'
compact_ends laws most limits m index index' state store store' (Ok given) result out content' image image' from to past since faults faults' limit f kept next fits view made same ended said fault on holds =
    written_ends laws limits m index index' state store store' (asks (ask.compact most)) (compact_done limits most (sealed_state state)) limit f kept next fits view (compact_command limits most m state f.mapped) made same result out
    content' image image' from to past since faults faults' on most ended.count given (ap answered_by ended.reply_is) (λ e. failure_not_moved ended.count index.next (sym ended.reply_is ∙ e)) ended.written
    (λ room counted. ap (λ (reply : Reply). commit_done room (moves_in limits most room (sealed_state state)) reply (sealed_state state))
    ((let count = sym counted in λ i. reply.Compacted (count i) (f.next i)) ∙ sym ended.reply_is)) said fault holds
  where
    failure_not_moved : (moved n : ℕ) → reply.Compacted moved n ≢ reply.Refused DiskFailure
    failure_not_moved moved n e = cc
compact_ends laws most limits m index index' state store store' (Err why) result out content' image image' from to past since faults faults' limit f kept next fits view made same ended said fault on holds =
    not_written_ends laws limits m index index' state store store' (asks (ask.compact most)) (compact_done limits most (sealed_state state)) limit f kept next fits view (compact_command limits most m state f.mapped) made same result out
    content' image image' from to past since faults faults' on why ended said fault

-- ---- where there was no memory for the reply

pub left_stored : (Q : memory.NoMemory → Type 0) (limits : Limits) (m : Mapping) (index : IndexState) (state : State) (store : StoreState) (asked : Asked) (result : Result Ended memory.NoMemory) (out : List ℕ) (content' : Option (List ℕ))
    (image : List ℕ → Type 0) (moment : ℕ) (since : ℕ → List ℕ → Type 0) (faults : ℕ) → IsErrAnd result Q → AreFaithful (Some m) index state → state.kept ≡ kept_of store
    → EndsStored limits state asked (answered_of result) out (Some m) index store store content' image image moment moment since since faults faults
left_stored Q limits m index state store asked (Ok ends) out content' image moment since faults none f kept = absurd none
left_stored Q limits m index state store asked (Err none) out content' image moment since faults is f kept =
    let own = lacking_given limits m index index state store store asked f kept refl (record { layout = inl refl; untried = inl refl }) in
    stored_ends limits m index state store store asked reply.OutOfMemory answered.NoMemory out content' image image moment moment since since faults faults own refl refl
    (record {
      stores = λ tells found keeps. turn_left (is_tried asked) reply.OutOfMemory own.after.content store found image moment since refl keeps;
      cause = cause_left reply.OutOfMemory faults lacking_plain.fails;
    })

-- ---- the ends of trims

pub trim_ends : (limits : Limits) (m : Mapping) (index index' : IndexState) (state : State) (store store' : StoreState) (done : Result Reply NotDone) (result : Result Ended memory.NoMemory) (out : List ℕ) (content' : Option (List ℕ))
    (image image' : List ℕ → Type 0) (from to : ℕ) (past since : ℕ → List ℕ → Type 0) (faults faults' : ℕ) → AreFaithful (Some m) index state → state.kept ≡ kept_of store → index'.next ≡ index.next → store'.limit ≡ store.limit
    → IsTrimmed done index index' store store' → IsReported done result out → HasFault done faults faults'
    → (IsTold content' → (found : Option StoreCommit) → KeepsStore store found image → KeepsOn store' (FoundAs store.limit image) image' from to past since)
    → EndsStored limits state (asks ask.trim) (answered_of result) out (Some m) index' store store' content' image image' from to past since faults faults'
trim_ends limits m index index' state store store' done result out content' image image' from to past since faults faults' f kept next same ended said fault on = by done ended said fault
  where
    told_of_trim : (given : Reply) (own : Given limits state (asks ask.trim) m index' store' given) → is_acknowledged given ≡ false → HasDiskCause given faults faults'
        → Told (is_tried (asks ask.trim)) given own.after.content store store' content' image image' from to past since faults faults'
    told_of_trim given own plain cause = record {
      stores = λ tells found keeps. turn_on false given own.after.content store store' (FoundAs store.limit image) image image' from to past since same (on tells found keeps) (λ file shows. inl shows)
          (λ is file there. absurd (true≢false (sym is ∙ plain)));
      cause = cause;
    }

    not_failed : (bytes : ℕ) → reply.Trimmed bytes ≢ reply.Refused DiskFailure
    not_failed bytes e = cc

    by : (done : Result Reply NotDone) → IsTrimmed done index index' store store' → IsReported done result out → HasFault done faults faults'
        → EndsStored limits state (asks ask.trim) (answered_of result) out (Some m) index' store store' content' image image' from to past since faults faults'
    by (Ok given) ended said fault =
        let own = subst (Given limits state (asks ask.trim) m index' store') (sym ended.0) (trimmed_given limits m index index' state store store' f kept next ended.1) in
        let told = done_told result out given (ap answered_by ended.0) said in
        stored_ends limits m index' state store store' (asks ask.trim) given (answered_of result) out content' image image' from to past since faults faults' own told.0 told.1
        (told_of_trim given own (ap is_acknowledged ended.0)
        (same_cause (Ok given) given faults faults' fault (ok_not_err given (not_done.Refused DiskFailure)) (λ e. not_failed (end_named store.named) (sym ended.0 ∙ e))))
    by (Err (not_done.Refused why)) ended said fault =
        let own = uncut_given limits m index index' state store store' f kept next ended.1 in
        let told = refused_told result out DiskFailure (subst (λ (it : Refusal). IsReported (Err (not_done.Refused it)) result out) ended.0 said) in
        let its = subst (λ (it : Refusal). HasFault (Err (not_done.Refused it)) faults faults') ended.0 fault in
        stored_ends limits m index' state store store' (asks ask.trim) (reply.Refused DiskFailure) (answered_of result) out content' image image' from to past since faults faults' own told.0 told.1
        (told_of_trim (reply.Refused DiskFailure) own refl (failed_cause faults faults' its))
    by (Err not_done.NoMemory) lacking said fault =
        let own = lacking_given limits m index index' state store store' (asks ask.trim) f kept next lacking in
        let told = lacking_told result out said in
        stored_ends limits m index' state store store' (asks ask.trim) reply.OutOfMemory (answered_of result) out content' image image' from to past since faults faults' own told.0 told.1
        (told_of_trim reply.OutOfMemory own refl (same_cause (Err not_done.NoMemory) reply.OutOfMemory faults faults' fault lacking_not_failed lacking_plain.fails))

-- ---- what is left of the layout

not_written_stays : (m : Mapping) (why : NotDone) (index index' : IndexState) (store store' : StoreState) → IsNotWritten m why index index' store store' → StaysOrSeals index index'
not_written_stays m (not_done.Refused why) index index' store store' (inl full) = inr full.1.layout
not_written_stays m (not_done.Refused why) index index' store store' (inr failed) = inr failed.1.layout
not_written_stays m not_done.NoMemory index index' store store' lacking = lacking.layout

pub commit_stays : (m : Mapping) (done : Result Reply NotDone) (index index' : IndexState) (store store' : StoreState) → IsCommitted m done index index' store store' → StaysOrSeals index index'
commit_stays m (Ok given) index index' store store' ended = inr ended.written.layout
commit_stays m (Err why) index index' store store' ended = not_written_stays m why index index' store store' ended

pub compact_stays : (m : Mapping) (most : ℕ) (done : Result Reply NotDone) (index index' : IndexState) (store store' : StoreState) → IsMoved m most done index index' store store' → StaysOrSeals index index'
compact_stays m most (Ok given) index index' store store' ended = inr ended.written.layout
compact_stays m most (Err why) index index' store store' ended = not_written_stays m why index index' store store' ended

pub trim_stays : (done : Result Reply NotDone) (index index' : IndexState) (store store' : StoreState) → IsTrimmed done index index' store store' → StaysOrSeals index index'
trim_stays (Ok given) index index' store store' ended = inr ended.1.layout
trim_stays (Err (not_done.Refused why)) index index' store store' ended = inr ended.1.layout
trim_stays (Err not_done.NoMemory) index index' store store' lacking = lacking.layout
