-- What is asked for elsewhere than of the layout and of the store is answered alike wherever trees stand and whatever is stored,
-- and what is asked of these leaves all else as it was.
use Rattle.std.proofs.Common.{◌≡◌, ◌≢◌, ◌⊎◌, inl, inr, ℕ, Bool, true, false, not, cond, nat_le, List, [], ◌∷◌, length, Option, Some, None, refl, sym, ap, subst, ◌∙◌}
use Rattle.std.proofs.lemmas.Bool.{true≢false}
use Rattle.layout.specs.Layout.{Layout, sealed}
use Rattle.mapping.specs.Mapping.{Mapping}
use Rattle.query_ast.specs.declared.search.SearchBody.{SearchBody}
use Rattle.query_parser.specs.Search.{search_of}
use Rattle.reply_text.specs.declared.refusal.Refusal.{Refusal}
use Rattle.reply_text.specs.declared.refusal.Refusal.TheVariants.{NoMapping, StoreFull, TooManyPits, UnknownPit}
use Rattle.reply_text.specs.declared.reply.Reply.{Reply}
use Rattle.reply_text.specs.declared.reply.Reply.TheVariants.{Committed, Refused}
use Rattle.reply_text.specs.declared.reply.WriteResult.TheVariants.{Deleted}
use Rattle.request_form.specs.Asked.{Asked, refused, asks}
use Rattle.request_form.specs.Command.{Action, map_body, write, search, refresh, segments, open_pit, close_pit, force_merge, start_merge, advance_merge, finish_merge, abort_merge, commit, compact, trim, automerge, Write}
use Rattle.search_walk.specs.Refusal.{first_refusal}
use Rattle.tree_json.specs.Value.{JsonValue}
use Rattle.tree_objects.specs.Tree.{Tree, without}
use Rattle.machine.specs.Answer.{Answer, refuses, answers, stores, Need, nothing, closing, writing, Outcome, outcome_of, first_of, refused_if, unless, when, with_mapping}
use Rattle.machine.specs.Beside.{AgreeBeside, Asking, Exchange, MayExchange, shows_layout, is_of_layout, asks_so, is_beside, exchanges_beside, replies_to, those_beside}
use Rattle.machine.specs.May.{AreSizesFor, AsOrSealed, MayAnswer, MayEnd, MayLeave, Stepped, WantsMemory, tried_state}
use Rattle.machine.specs.MappingLine.{first_refusals, first_done, growing_refusals, growing_done, mapping_by, mapping_step}
use Rattle.machine.specs.Merging.{LayoutAnswer, declined, relaid, answer_of, automerge_step, merge_step, merged_by, segments_step}
use Rattle.machine.specs.declared.merge_command.MergeCommand.{MergeCommand}
use Rattle.machine.specs.declared.merge_command.MergeCommand.TheVariants.{Start, Advance, Finish, Abort, Force}
use Rattle.machine.specs.Points.{most_points, is_open, open_done, open_step, close_done, close_step}
use Rattle.machine.specs.Searching.{searched, search_over, search_by, body_refusal, search_step}
use Rattle.machine.specs.State.{Kept, State, sealed_state}
use Rattle.machine.specs.Step.{refresh_step, action_step, asked_step, is_of_store, step}
use Rattle.machine.specs.Storing.{commit_step}
use Rattle.machine.specs.Write.{live_tree, live_number, early_refusals, nothing_to_do, leaves_source, new_source, added_body, grown_by, put_refusals, put_result, changed, put_tree, new_tree, full, with_put, take_out, change, answered_or, change_or_nothing, write_step}
use Rattle.machine.specs.declared.limits.Limits.{Limits}
use Rattle.machine.proofs.Storing.{commit_by, mapped_by}
use Rattle.machine.proofs.Steps.{After, StaysLaid, end_so, layout_so, outcome_so}

-- ---- answers that are alike

agree_same : (state : State) → AgreeBeside state state
agree_same state = record { content = refl; points = refl }

-- what agrees with a state agrees with what it agrees with
agree_from : (one other third : State) → AgreeBeside one other → AgreeBeside one third → AgreeBeside third other
agree_from one other third first second = record { content = first.content ∙ sym second.content; points = first.points ∙ sym second.points }

-- the same refusal, or the same reply with states that agree, neither of which needs the disk
abbrev pub Alike : Answer → Answer → Type 0
Alike (refuses why) (refuses why2) = why2 ≡ why
Alike (answers reply after) (answers reply2 after2) = (reply2 ≡ reply) × AgreeBeside after after2
Alike one other = ⊥

-- the same state with its trees laid out in another way, and something else stored
abbrev elsewhere : Layout Tree → Kept → State → State
elsewhere layout kept state = record { content = state.content; points = state.points; layout = layout; kept = kept }

refused_alike : (why : Option Refusal) (one other : Answer) → Alike one other → Alike (refused_if why one) (refused_if why other)
refused_alike None one other alike = alike
refused_alike (Some why) one other alike = refl

unless_alike : (refusals : List (Option Refusal)) (one other : Answer) → Alike one other → Alike (unless refusals one) (unless refusals other)
unless_alike refusals one other alike = refused_alike (first_of refusals) one other alike

mapped_alike : (m : Option Mapping) (one other : Mapping → Answer) → ((m : Mapping) → Alike (one m) (other m)) → Alike (with_mapping m one) (with_mapping m other)
mapped_alike None one other alike = refl
mapped_alike (Some m) one other alike = alike m

-- ---- each command, in a state and in the same elsewhere

module _ (layout : Layout Tree) (kept : Kept) where
  mapping_alike : (body : JsonValue) (m : Option Mapping) (state : State) → Alike (mapping_by body m state) (mapping_by body m (elsewhere layout kept state))
  mapping_alike body None state =
      unless_alike (first_refusals body) (first_done body state) (first_done body (elsewhere layout kept state)) (refl, record { content = refl; points = refl })
  mapping_alike body (Some m) state =
      unless_alike (growing_refusals m body) (growing_done m body state) (growing_done m body (elsewhere layout kept state)) (refl, record { content = refl; points = refl })

  line_alike : (body : JsonValue) (state : State) → Alike (mapping_step body state) (mapping_step body (elsewhere layout kept state))
  unfolding mapping_step
  line_alike body state = mapping_alike body state.content.mapping state

  put_alike : (limits : Limits) (m : Mapping) (body : Option JsonValue) (tree : Tree) (live : Option Tree) (state : State)
      → Alike (put_tree limits m body tree live state) (put_tree limits m body tree live (elsewhere layout kept state))
  put_alike limits m body tree live state =
      unless_alike (put_refusals limits m body tree state) (changed (grown_by m body) tree.id (with_put tree state.content.live) (tree ∷ []) (put_result live) state)
      (changed (grown_by m body) tree.id (with_put tree state.content.live) (tree ∷ []) (put_result live) (elsewhere layout kept state))
      (refl, record { content = refl; points = refl })

  take_alike : (limits : Limits) (m : Mapping) (id : List ℕ) (state : State) → Alike (take_out limits m id state) (take_out limits m id (elsewhere layout kept state))
  take_alike limits m id state =
      unless_alike (full limits m (without id state.content.live) state.content.next ∷ []) (changed m id (without id state.content.live) [] Deleted state)
      (changed m id (without id state.content.live) [] Deleted (elsewhere layout kept state)) (refl, record { content = refl; points = refl })

  change_alike : (limits : Limits) (m : Mapping) (id : List ℕ) (source : Option JsonValue) (live : Option Tree) (state : State)
      → Alike (change limits m id source live state) (change limits m id source live (elsewhere layout kept state))
  change_alike limits m id None live state = take_alike limits m id state
  change_alike limits m id (Some source) live state =
      put_alike limits m (added_body m source) (new_tree id source (grown_by m (added_body m source)) state.content.next) live state

  answered_alike : (reply : Option Reply) (state : State) (one other : Answer) → Alike one other
      → Alike (answered_or reply state one) (answered_or reply (elsewhere layout kept state) other)
  answered_alike None state one other alike = alike
  answered_alike (Some reply) state one other alike = (refl, record { content = refl; points = refl })

  write_alike : (limits : Limits) (m : Mapping) (it : Write) (state : State) → Alike (write_step limits m it state) (write_step limits m it (elsewhere layout kept state))
  unfolding write_step
  write_alike limits m it state =
      let live = live_tree it.target.id state.content.live in
      refused_alike (first_of (early_refusals m it (live_number live))) (change_or_nothing limits m it live state) (change_or_nothing limits m it live (elsewhere layout kept state))
      (answered_alike (nothing_to_do (leaves_source it.operation live) it.target.id it.operation live) state
      (change limits m it.target.id (new_source it.operation live) live state)
      (change limits m it.target.id (new_source it.operation live) live (elsewhere layout kept state))
      (change_alike limits m it.target.id (new_source it.operation live) live state))

  over_alike : (limits : Limits) (m : Mapping) (body : SearchBody) (live : Option (List Tree)) (state : State)
      → Alike (search_over limits m body live state) (search_over limits m body live (elsewhere layout kept state))
  over_alike limits m body None state = refl
  over_alike limits m body (Some live) state = (refl, record { content = refl; points = refl })

  -- a search asks which trees there are by the content and the points in time alone
  same_searched : (point : Option ℕ) (state : State) → searched point (elsewhere layout kept state) ≡ searched point state
  same_searched None state = refl
  same_searched (Some id) state = refl

  search_alike : (limits : Limits) (body : JsonValue) (m : Mapping) (state : State)
      → Alike (search_step limits body m state) (search_step limits body m (elsewhere layout kept state))
  unfolding search_step
  search_alike limits body m state =
      refused_alike (body_refusal (first_refusal m body)) (search_by limits m (search_of m body) state) (search_by limits m (search_of m body) (elsewhere layout kept state))
      (subst (λ live. Alike (search_by limits m (search_of m body) state) (search_over limits m (search_of m body) live (elsewhere layout kept state)))
      (sym (same_searched (search_of m body).pit state))
      (over_alike limits m (search_of m body) (searched (search_of m body).pit state) state))

  open_alike : (m : Mapping) (state : State) → Alike (open_step m state) (open_step m (elsewhere layout kept state))
  unfolding open_step
  open_alike m state =
      unless_alike (when (nat_le most_points (length state.points.points)) TooManyPits ∷ []) (open_done state) (open_done (elsewhere layout kept state))
      (refl, record { content = refl; points = refl })

  close_alike : (id : ℕ) (m : Mapping) (state : State) → Alike (close_step id m state) (close_step id m (elsewhere layout kept state))
  unfolding close_step
  close_alike id m state =
      unless_alike (when (not (is_open id state.points)) UnknownPit ∷ []) (close_done id state) (close_done id (elsewhere layout kept state))
      (refl, record { content = refl; points = refl })

  automerge_alike : (factor : Option ℕ) (m : Mapping) (state : State) → Alike (automerge_step factor m state) (automerge_step factor m (elsewhere layout kept state))
  unfolding automerge_step
  automerge_alike factor m state = (refl, record { content = refl; points = refl })

-- what an action answers
action_alike : (layout : Layout Tree) (kept : Kept) (limits : Limits) (mine yours : List ℕ) (action : Action) (state : State) → shows_layout action ≡ false
    → Alike (action_step limits mine action state) (action_step limits yours action (elsewhere layout kept state))
action_alike layout kept limits mine yours (map_body body) state hides = line_alike (sealed layout) kept body (sealed_state state)
action_alike layout kept limits mine yours (write it) state hides =
    mapped_alike state.content.mapping (λ m. write_step limits m it state) (λ m. write_step limits m it (elsewhere layout kept state)) (λ m. write_alike layout kept limits m it state)
action_alike layout kept limits mine yours (search body) state hides =
    mapped_alike state.content.mapping (λ m. search_step limits body m (sealed_state state)) (λ m. search_step limits body m (sealed_state (elsewhere layout kept state)))
    (λ m. search_alike (sealed layout) kept limits body m (sealed_state state))
action_alike layout kept limits mine yours refresh state hides =
    mapped_alike state.content.mapping (λ m. refresh_step m (sealed_state state)) (λ m. refresh_step m (sealed_state (elsewhere layout kept state)))
    (λ m. (refl, record { content = refl; points = refl }))
action_alike layout kept limits mine yours segments state hides = absurd (true≢false hides)
action_alike layout kept limits mine yours open_pit state hides =
    mapped_alike state.content.mapping (λ m. open_step m (sealed_state state)) (λ m. open_step m (sealed_state (elsewhere layout kept state)))
    (λ m. open_alike (sealed layout) kept m (sealed_state state))
action_alike layout kept limits mine yours (close_pit id) state hides =
    mapped_alike state.content.mapping (λ m. close_step id m (sealed_state state)) (λ m. close_step id m (sealed_state (elsewhere layout kept state)))
    (λ m. close_alike (sealed layout) kept id m (sealed_state state))
action_alike layout kept limits mine yours (force_merge most) state hides = absurd (true≢false hides)
action_alike layout kept limits mine yours (start_merge from count) state hides = absurd (true≢false hides)
action_alike layout kept limits mine yours (advance_merge id roots) state hides = absurd (true≢false hides)
action_alike layout kept limits mine yours (finish_merge id) state hides = absurd (true≢false hides)
action_alike layout kept limits mine yours (abort_merge id) state hides = absurd (true≢false hides)
action_alike layout kept limits mine yours commit state hides = absurd (true≢false hides)
action_alike layout kept limits mine yours (compact most) state hides = absurd (true≢false hides)
action_alike layout kept limits mine yours trim state hides = absurd (true≢false hides)
action_alike layout kept limits mine yours (automerge factor) state hides =
    mapped_alike state.content.mapping (λ m. automerge_step factor m state) (λ m. automerge_step factor m (elsewhere layout kept state))
    (λ m. automerge_alike layout kept factor m state)

asked_alike : (layout : Layout Tree) (kept : Kept) (limits : Limits) (mine yours : List ℕ) (asked : Asked) (state : State) → asks_so shows_layout asked ≡ false
    → Alike (asked_step limits mine asked state) (asked_step limits yours asked (elsewhere layout kept state))
asked_alike layout kept limits mine yours (refused why) state hides = refl
asked_alike layout kept limits mine yours (asks action) state hides = action_alike layout kept limits mine yours action state hides

-- ---- steps

-- the same reply, for which as much is needed of the disk, and states that agree
pub record OutcomesAlike (one other : Outcome) : Type 0 where
  pub need : other.need ≡ one.need
  pub reply : other.reply ≡ one.reply
  pub state : AgreeBeside one.state other.state

outcomes_alike : (one other : Answer) (before before2 : State) → AgreeBeside before before2 → Alike one other → OutcomesAlike (outcome_of before one) (outcome_of before2 other)
outcomes_alike (refuses why) (refuses why2) before before2 agree alike = record { need = refl; reply = ap Refused alike; state = agree }
outcomes_alike (refuses why) (answers reply after) before before2 agree alike = absurd alike
outcomes_alike (refuses why) (stores need reply after) before before2 agree alike = absurd alike
outcomes_alike (answers reply after) (refuses why) before before2 agree alike = absurd alike
outcomes_alike (answers reply after) (answers reply2 after2) before before2 agree alike = record { need = refl; reply = alike.0; state = alike.1 }
outcomes_alike (answers reply after) (stores need reply2 after2) before before2 agree alike = absurd alike
outcomes_alike (stores need reply after) (refuses why) before before2 agree alike = absurd alike
outcomes_alike (stores need reply after) (answers reply2 after2) before before2 agree alike = absurd alike
outcomes_alike (stores need reply after) (stores need2 reply2 after2) before before2 agree alike = absurd alike

abbrev StepsAlike : Limits → List ℕ → List ℕ → Asked → State → State → Type 0
StepsAlike limits mine yours asked one other = OutcomesAlike (step limits mine one asked) (step limits yours other asked)

elsewhere_alike : (layout : Layout Tree) (kept : Kept) (limits : Limits) (mine yours : List ℕ) (state : State) (asked : Asked) → asks_so shows_layout asked ≡ false
    → StepsAlike limits mine yours asked state (elsewhere layout kept state)
unfolding step
elsewhere_alike layout kept limits mine yours state asked hides =
    outcomes_alike (asked_step limits mine asked state) (asked_step limits yours asked (elsewhere layout kept state)) state (elsewhere layout kept state)
    (record { content = refl; points = refl }) (asked_alike layout kept limits mine yours asked state hides)

same_elsewhere : (one other : State) → AgreeBeside one other → elsewhere other.layout other.kept one ≡ other
same_elsewhere one other agree = λ i. record { content = sym agree.content i; points = sym agree.points i; layout = other.layout; kept = other.kept }

-- where states agree but for the layout and for what is stored, each reply that doesn't show these is the same, and they agree so afterwards
pub step_alike : (limits : Limits) (mine yours : List ℕ) (one other : State) (asked : Asked) → AgreeBeside one other → asks_so shows_layout asked ≡ false → StepsAlike limits mine yours asked one other
step_alike limits mine yours one other asked agree hides =
    subst (StepsAlike limits mine yours asked one) (same_elsewhere one other agree) (elsewhere_alike other.layout other.kept limits mine yours one asked hides)

-- ---- whatever is answered

kept_or_sealed_alike : (one other after : State) → AgreeBeside one other → AsOrSealed one after → (after2 : State) × AsOrSealed other after2 × AgreeBeside after after2
kept_or_sealed_alike one other after agree (inl same) =
    (other, inl refl, subst (λ state. AgreeBeside state other) (sym same) agree)
kept_or_sealed_alike one other after agree (inr seals) =
    (sealed_state other, inr refl, subst (λ state. AgreeBeside state (sealed_state other)) (sym seals) (record { content = agree.content; points = agree.points }))

left_alike : (need : Need) (one other after : State) → AgreeBeside one other → MayLeave need one after → (after2 : State) × MayLeave need other after2 × AgreeBeside after after2
left_alike nothing one other after agree left = absurd left
left_alike closing one other after agree left = kept_or_sealed_alike one other after agree left
left_alike writing one other after agree (inl left) = let same = kept_or_sealed_alike one other after agree left in (same.0, inl same.1, same.2)
left_alike writing one other after agree (inr left) =
    let same = kept_or_sealed_alike (tried_state one) (tried_state other) after (record { content = agree.content; points = agree.points }) left in
    (same.0, inr same.1, same.2)

end_alike : (one other : State) (own theirs : Outcome) (reply : Reply) (after : State) → AgreeBeside one other → OutcomesAlike own theirs → MayEnd one own reply after
    → (after2 : State) × MayEnd other theirs reply after2 × AgreeBeside after after2
end_alike one other own theirs reply after agree alike (inl stepped) =
    (theirs.state, inl (record { reply_is = stepped.reply_is ∙ sym alike.reply; state_is = refl }), subst (λ state. AgreeBeside state theirs.state) (sym stepped.state_is) alike.state)
end_alike one other own theirs reply after agree alike (inr (inl wants)) =
    let same = kept_or_sealed_alike one other after agree wants.state_is in
    (same.0, inr (inl (record { reply_is = wants.reply_is; state_is = same.1 })), same.2)
end_alike one other own theirs reply after agree alike (inr (inr failed)) =
    let same = left_alike own.need one other after agree failed.state_is in
    (same.0, inr (inr (record { reply_is = failed.reply_is; state_is = subst (λ need. MayLeave need other same.0) (sym alike.need) same.1 })), same.2)

-- no bytes are counted for what shows neither the layout nor the store
no_sizes : (asked : Asked) (state : State) (sizes : List ℕ) → asks_so shows_layout asked ≡ false → AreSizesFor asked state sizes
no_sizes (refused why) state sizes hides = tt
no_sizes (asks (map_body body)) state sizes hides = tt
no_sizes (asks (write it)) state sizes hides = tt
no_sizes (asks (search body)) state sizes hides = tt
no_sizes (asks refresh) state sizes hides = tt
no_sizes (asks segments) state sizes hides = tt
no_sizes (asks open_pit) state sizes hides = tt
no_sizes (asks (close_pit id)) state sizes hides = tt
no_sizes (asks (force_merge most)) state sizes hides = tt
no_sizes (asks (start_merge from count)) state sizes hides = tt
no_sizes (asks (advance_merge id roots)) state sizes hides = tt
no_sizes (asks (finish_merge id)) state sizes hides = tt
no_sizes (asks (abort_merge id)) state sizes hides = tt
no_sizes (asks commit) state sizes hides = absurd (true≢false hides)
no_sizes (asks (compact most)) state sizes hides = absurd (true≢false hides)
no_sizes (asks trim) state sizes hides = tt
no_sizes (asks (automerge factor)) state sizes hides = tt

-- what may be answered in one may be answered in the other
pub may_alike : (limits : Limits) (one other : State) (asked : Asked) (reply : Reply) (after : State) → AgreeBeside one other → asks_so shows_layout asked ≡ false
    → MayAnswer limits one asked reply after → (after2 : State) × MayAnswer limits other asked reply after2 × AgreeBeside after after2
may_alike limits one other asked reply after agree hides may =
    let same = end_alike one other (step limits may.sizes one asked) (step limits may.sizes other asked) reply after agree (step_alike limits may.sizes may.sizes one other asked agree hides) may.may in
    (same.0, record { sizes = may.sizes; are = inr (no_sizes asked other may.sizes hides); may = same.1 }, same.2)

-- ---- commits

-- a commit is full, or tells the next number
abbrev FullOrNext : ℕ → Reply → Type 0
FullOrNext next reply = (reply ≡ Refused StoreFull) ⊎ (reply ≡ Committed next)

abbrev TellsSo : ℕ → Outcome → Type 0
TellsSo next outcome = FullOrNext next outcome.reply

-- by the mapping
abbrev CommitTells : Option Mapping → ℕ → Reply → Type 0
CommitTells None next reply = reply ≡ Refused NoMapping
CommitTells (Some m) next reply = FullOrNext next reply

mapped_tells : (before : State) (limits : Limits) (sizes : List ℕ) (m : Option Mapping) (state : State)
    → CommitTells m state.content.next (outcome_of before (with_mapping m (λ own. commit_step limits sizes own state))).reply
mapped_tells before limits sizes None state = refl
mapped_tells before limits sizes (Some m) state = commit_by (TellsSo state.content.next) before limits sizes m state (inl refl) (inl refl) (λ room found. inr refl)

step_tells : (limits : Limits) (sizes : List ℕ) (state : State) → CommitTells state.content.mapping state.content.next (step limits sizes state (asks commit)).reply
unfolding step
step_tells limits sizes state = mapped_tells state limits sizes state.content.mapping (sealed_state state)

same_told : (m : Option Mapping) (next : ℕ) (mine yours : Reply) → CommitTells m next mine → CommitTells m next yours → mine ≢ Refused StoreFull → yours ≢ Refused StoreFull → yours ≡ mine
same_told None next mine yours one other room room2 = other ∙ sym one
same_told (Some m) next mine yours (inl full) other room room2 = absurd (room full)
same_told (Some m) next mine yours (inr told) (inl full) room room2 = absurd (room2 full)
same_told (Some m) next mine yours (inr told) (inr told2) room room2 = told2 ∙ sym told

-- where both have room, commits are answered alike
pub commits_alike : (limits : Limits) (mine yours : List ℕ) (one other : State) → AgreeBeside one other → (step limits mine one (asks commit)).reply ≢ Refused StoreFull
    → (step limits yours other (asks commit)).reply ≢ Refused StoreFull → (step limits yours other (asks commit)).reply ≡ (step limits mine one (asks commit)).reply
commits_alike limits mine yours one other agree room room2 =
    same_told one.content.mapping one.content.next (step limits mine one (asks commit)).reply (step limits yours other (asks commit)).reply (step_tells limits mine one)
    (subst (λ content. CommitTells content.mapping content.next (step limits yours other (asks commit)).reply) agree.content (step_tells limits yours other))
    room room2

-- ---- what the disk is needed for

abbrev NeedsNothing : Outcome → Type 0
NeedsNothing outcome = outcome.need ≡ nothing

alike_needs : (one other : Answer) (before : State) → Alike one other → NeedsNothing (outcome_of before one)
alike_needs (refuses why) other before alike = refl
alike_needs (answers reply after) other before alike = refl
alike_needs (stores need reply after) (refuses why) before alike = absurd alike
alike_needs (stores need reply after) (answers reply2 after2) before alike = absurd alike
alike_needs (stores need reply after) (stores need2 reply2 after2) before alike = absurd alike

merge_needs : (before state : State) (answer : LayoutAnswer Tree) → NeedsNothing (outcome_of before (answer_of state answer))
merge_needs before state (declined why) = refl
merge_needs before state (relaid reply layout) = refl

merges_need : (before : State) (command : MergeCommand) → NeedsNothing (outcome_of before (with_mapping before.content.mapping (λ m. merge_step command m (sealed_state before))))
merges_need before command =
    mapped_by NeedsNothing before before.content.mapping (λ m. merge_step command m (sealed_state before)) refl (λ m. merge_needs before (sealed_state before) (merged_by command (sealed before.layout)))

rows_need : (before : State) (limits : Limits) → NeedsNothing (outcome_of before (with_mapping before.content.mapping (λ m. segments_step limits m (sealed_state before))))
unfolding segments_step
rows_need before limits = mapped_by NeedsNothing before before.content.mapping (λ m. segments_step limits m (sealed_state before)) refl (λ m. refl)

hidden_needs : (limits : Limits) (sizes : List ℕ) (action : Action) (before : State) → shows_layout action ≡ false → NeedsNothing (outcome_of before (action_step limits sizes action before))
hidden_needs limits sizes action before hides =
    alike_needs (action_step limits sizes action before) (action_step limits sizes action (elsewhere before.layout before.kept before)) before
    (action_alike before.layout before.kept limits sizes sizes action before hides)

action_needs : (limits : Limits) (sizes : List ℕ) (action : Action) (before : State) → is_of_store action ≡ false → NeedsNothing (outcome_of before (action_step limits sizes action before))
action_needs limits sizes (map_body body) before other = hidden_needs limits sizes (map_body body) before refl
action_needs limits sizes (write it) before other = hidden_needs limits sizes (write it) before refl
action_needs limits sizes (search body) before other = hidden_needs limits sizes (search body) before refl
action_needs limits sizes refresh before other = hidden_needs limits sizes refresh before refl
action_needs limits sizes segments before other = rows_need before limits
action_needs limits sizes open_pit before other = hidden_needs limits sizes open_pit before refl
action_needs limits sizes (close_pit id) before other = hidden_needs limits sizes (close_pit id) before refl
action_needs limits sizes (force_merge most) before other = merges_need before (Force most)
action_needs limits sizes (start_merge from count) before other = merges_need before (Start from count)
action_needs limits sizes (advance_merge id roots) before other = merges_need before (Advance id roots)
action_needs limits sizes (finish_merge id) before other = merges_need before (Finish id)
action_needs limits sizes (abort_merge id) before other = merges_need before (Abort id)
action_needs limits sizes commit before other = absurd (true≢false other)
action_needs limits sizes (compact most) before other = absurd (true≢false other)
action_needs limits sizes trim before other = absurd (true≢false other)
action_needs limits sizes (automerge factor) before other = hidden_needs limits sizes (automerge factor) before refl

-- what isn't asked of the store needs nothing of the disk
pub step_needs : (limits : Limits) (sizes : List ℕ) (state : State) (asked : Asked) → asks_so is_of_store asked ≡ false → (step limits sizes state asked).need ≡ nothing
unfolding step
step_needs limits sizes state (refused why) other = refl
step_needs limits sizes state (asks action) other = action_needs limits sizes action state other

-- and is never answered that it failed
pub never_failed : (before : State) (outcome : Outcome) (reply : Reply) (after : State) → outcome.need ≡ nothing → MayEnd before outcome reply after → Stepped outcome reply after ⊎ WantsMemory before reply after
never_failed before outcome reply after needs (inl stepped) = inl stepped
never_failed before outcome reply after needs (inr (inl wants)) = inr wants
never_failed before outcome reply after needs (inr (inr failed)) = absurd (subst (λ need. MayLeave need before after) needs failed.state_is)

-- ---- what is asked of the layout and of the store

unseen_laid : (before : State) → StaysLaid (AgreeBeside before)
unseen_laid before = record {
  sealed = λ state agree. record { content = agree.content; points = agree.points };
  relaid = λ layout state same agree. record { content = agree.content; points = agree.points };
  stored = λ kept state agree. record { content = agree.content; points = agree.points };
}

asked_unseen : (limits : Limits) (sizes : List ℕ) (asked : Asked) (state : State) → asks_so is_of_layout asked ≡ true → After (AgreeBeside state) (asked_step limits sizes asked state)
asked_unseen limits sizes (refused why) state is = tt
asked_unseen limits sizes (asks action) state is = layout_so (AgreeBeside state) limits sizes action state is (unseen_laid state) (agree_same state)

-- this leaves all else as it was
pub step_unseen : (limits : Limits) (sizes : List ℕ) (state : State) (asked : Asked) → asks_so is_of_layout asked ≡ true → AgreeBeside state (step limits sizes state asked).state
unfolding step
step_unseen limits sizes state asked is =
    outcome_so (AgreeBeside state) (asked_step limits sizes asked state) state (agree_same state) (asked_unseen limits sizes asked state is)

pub may_unseen : (limits : Limits) (before : State) (asked : Asked) (reply : Reply) (after : State) → asks_so is_of_layout asked ≡ true → MayAnswer limits before asked reply after → AgreeBeside before after
may_unseen limits before asked reply after is may =
    end_so (AgreeBeside before) before (step limits may.sizes before asked) reply after (unseen_laid before) (agree_same before) (step_unseen limits may.sizes before asked is) may.may

-- ---- runs

hides_beside : (action : Action) → is_of_layout action ≡ false → shows_layout action ≡ false
hides_beside (map_body body) is = refl
hides_beside (write it) is = refl
hides_beside (search body) is = refl
hides_beside refresh is = refl
hides_beside segments is = is
hides_beside open_pit is = refl
hides_beside (close_pit id) is = refl
hides_beside (force_merge most) is = is
hides_beside (start_merge from count) is = is
hides_beside (advance_merge id roots) is = is
hides_beside (finish_merge id) is = is
hides_beside (abort_merge id) is = is
hides_beside commit is = is
hides_beside (compact most) is = is
hides_beside trim is = is
hides_beside (automerge factor) is = refl

hides_asked : (asked : Asked) → asks_so is_of_layout asked ≡ false → asks_so shows_layout asked ≡ false
hides_asked (refused why) is = refl
hides_asked (asks action) is = hides_beside action is

runs_alike : (limits : Limits) (one other : State) (run : List Asking) → AgreeBeside one other
    → replies_to is_beside limits other (those_beside run) ≡ replies_to is_beside limits one run
runs_alike limits one other [] agree = refl
runs_alike limits one other (it ∷ run) agree =
    by (asks_so is_of_layout it.asked) refl (λ first second later. runs_alike limits first second run later)
  where
    by : (b : Bool) → asks_so is_of_layout it.asked ≡ b
        → ((first second : State) → AgreeBeside first second → replies_to is_beside limits second (those_beside run) ≡ replies_to is_beside limits first run)
        → replies_to is_beside limits other (cond (not b) (it ∷ those_beside run) (those_beside run))
        ≡ cond (not b) ((step limits it.sizes one it.asked).reply ∷ replies_to is_beside limits (step limits it.sizes one it.asked).state run)
        (replies_to is_beside limits (step limits it.sizes one it.asked).state run)
    by true is more = more (step limits it.sizes one it.asked).state other (agree_from one other (step limits it.sizes one it.asked).state agree (step_unseen limits it.sizes one it.asked is))
    by false is more =
        let alike = step_alike limits it.sizes it.sizes one other it.asked agree (hides_asked it.asked is) in
        let rest = more (step limits it.sizes one it.asked).state (step limits it.sizes other it.asked).state alike.state in
        ap (λ b. cond (not b) ((step limits it.sizes other it.asked).reply ∷ replies_to is_beside limits (step limits it.sizes other it.asked).state (those_beside run))
        (replies_to is_beside limits (step limits it.sizes other it.asked).state (those_beside run))) is
        ∙ (λ i. alike.reply i ∷ rest i)

-- what is asked of the layout and of the store changes no reply to what isn't, where it is put in or left out
pub run_beside : (limits : Limits) (state : State) (run : List Asking) → replies_to is_beside limits state (those_beside run) ≡ replies_to is_beside limits state run
run_beside limits state run = runs_alike limits state state run (agree_same state)

exchanges_alike : (limits : Limits) (one other : State) (run : List Exchange) → AgreeBeside one other → MayExchange limits one run → MayExchange limits other (exchanges_beside run)
exchanges_alike limits one other [] agree goes = tt
exchanges_alike limits one other (it ∷ run) agree goes =
    by (asks_so is_of_layout it.asked) refl (λ second later. exchanges_alike limits goes.0 second run later goes.2)
  where
    by : (b : Bool) → asks_so is_of_layout it.asked ≡ b → ((second : State) → AgreeBeside goes.0 second → MayExchange limits second (exchanges_beside run))
        → MayExchange limits other (cond (not b) (it ∷ exchanges_beside run) (exchanges_beside run))
    by true is more = more other (agree_from one other goes.0 agree (may_unseen limits one it.asked it.reply goes.0 is goes.1))
    by false is more =
        let same = may_alike limits one other it.asked it.reply goes.0 agree (hides_asked it.asked is) goes.1 in
        (same.0, same.1, more same.0 same.2)

-- the others may be answered the same, whatever is answered
pub exchange_beside : (limits : Limits) (state : State) (run : List Exchange) → MayExchange limits state run → MayExchange limits state (exchanges_beside run)
exchange_beside limits state run goes = exchanges_alike limits state state run (agree_same state) goes
