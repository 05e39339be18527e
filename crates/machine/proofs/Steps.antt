-- What stays true of the states of the machine, whatever is asked for and however it is answered.
use Rattle.std.proofs.Common.{◌≡◌, inl, inr, ◌==◌, ℕ, Bool, true, false, not, cond, nat_le, List, [], ◌∷◌, length, Option, Some, None, refl, sym, subst}
use Rattle.std.proofs.lemmas.Bool.{true≢false}
use Rattle.layout.specs.Layout.{Layout, live_items}
use Rattle.layout.specs.Merges.{with_factor}
use Rattle.extent_pool.specs.Placing.{Room}
use Rattle.mapping.specs.Mapping.{Mapping}
use Rattle.reply_text.specs.declared.refusal.Refusal.{Refusal}
use Rattle.reply_text.specs.declared.refusal.Refusal.TheVariants.{StoreFull, TooManyPits, UnknownPit}
use Rattle.reply_text.specs.declared.reply.Reply.{Reply}
use Rattle.reply_text.specs.declared.reply.Reply.TheVariants.{Committed, Refused}
use Rattle.reply_text.specs.declared.reply.WriteResult.TheVariants.{Deleted}
use Rattle.request_form.specs.Asked.{Asked, refused, asks}
use Rattle.request_form.specs.Command.{Action, map_body, write, search, refresh, segments, open_pit, close_pit, force_merge, start_merge, advance_merge, finish_merge, abort_merge, commit, compact, trim, automerge, Write}
use Rattle.tree_json.specs.Value.{JsonValue}
use Rattle.tree_objects.specs.Tree.{Tree, without}
use Rattle.query_ast.specs.declared.search.SearchBody.{SearchBody}
use Rattle.query_parser.specs.Search.{search_of}
use Rattle.search_walk.specs.Refusal.{first_refusal}
use Rattle.machine.specs.Answer.{Answer, refuses, answers, stores, Need, nothing, closing, writing, Outcome, outcome_of, first_of, refused_if, unless, when, with_mapping}
use Rattle.machine.specs.Beside.{is_of_layout}
use Rattle.machine.specs.May.{AsOrSealed, MayAnswer, MayEnd, MayLeave, tried_state}
use Rattle.machine.specs.declared.limits.Limits.{Limits}
use Rattle.machine.specs.Merging.{LayoutAnswer, declined, relaid, with_layout, merged_by, answer_of, merge_step, automerge_step, segments_step}
use Rattle.machine.specs.declared.merge_command.MergeCommand.{MergeCommand}
use Rattle.machine.specs.declared.merge_command.MergeCommand.TheVariants.{Start, Advance, Finish, Abort, Force}
use Rattle.machine.proofs.Merged.{LaysLive, merged_keeps}
use Rattle.machine.specs.Points.{most_points, with_points, with_point, without_point, is_open, open_done, open_step, close_done, close_step}
use Rattle.machine.specs.MappingLine.{first_refusals, first_done, first_mapping, growing_refusals, growing_done, grown_mapping, mapping_by, mapping_step, with_content_mapping}
use Rattle.machine.specs.Searching.{searched, search_over, search_by, body_refusal, search_step}
use Rattle.machine.specs.State.{Kept, State, sealed_state}
use Rattle.machine.specs.Step.{refresh_step, action_step, asked_step, step}
use Rattle.machine.specs.Storing.{room_in, moves_in, kept_by, with_kept, last_generation, if_room, commit_done, commit_step, compact_done, compact_step, trim_step}
use Rattle.machine.specs.Write.{live_tree, live_number, early_refusals, nothing_to_do, leaves_source, new_source, added_body, grown_by, put_refusals, put_result, changed, changed_state, put_tree, new_tree, full, with_put, take_out, change, answered_or, change_or_nothing, write_step}

-- it stays so by sealing, by another layout of the same live trees, and whatever the store keeps
pub record StaysLaid (P : State → Type 0) : Type 0 where
  pub sealed : (state : State) → P state → P (sealed_state state)
  pub relaid : (layout : Layout Tree) (state : State) → live_items layout ≡ live_items state.layout → P state → P (with_layout layout state)
  pub stored : (kept : Kept) (state : State) → P state → P (with_kept kept state)

-- it stays so besides by a mapping, by a tree that is put with the next number, by one that is taken out, and, where that is
-- asked for, by a point in time that is opened or closed
pub record Stays (P : State → Type 0) (asked : Asked) : Type 0 where
  pub laid : StaysLaid P
  pub mapped : (m : Mapping) (state : State) → P state → P (with_content_mapping m state)
  pub put : (m : Mapping) (tree : Tree) (state : State) → tree.number ≡ state.content.next → P state → P (changed_state m tree.id (with_put tree state.content.live) (tree ∷ []) state)
  pub taken : (m : Mapping) (id : List ℕ) (state : State) → P state → P (changed_state m id (without id state.content.live) [] state)
  pub opened : asked ≡ asks open_pit → (state : State) → P state → P (with_points (with_point state.content.live state.points) state)
  pub closed : (id : ℕ) → asked ≡ asks (close_pit id) → (state : State) → P state → P (with_points (without_point id state.points) state)

-- where nothing is refused it is so of the state afterwards
abbrev pub After : (State → Type 0) → Answer → Type 0
After P (refuses why) = Unit {0}
After P (answers reply after) = P after
After P (stores need reply after) = P after

refused_so : (P : State → Type 0) (why : Option Refusal) (answer : Answer) → After P answer → After P (refused_if why answer)
refused_so P None answer so = so
refused_so P (Some why) answer so = tt

unless_so : (P : State → Type 0) (refusals : List (Option Refusal)) (answer : Answer) → After P answer → After P (unless refusals answer)
unless_so P refusals answer so = refused_so P (first_of refusals) answer so

mapped_so : (P : State → Type 0) (m : Option Mapping) (command : Mapping → Answer) → ((m : Mapping) → After P (command m)) → After P (with_mapping m command)
mapped_so P None command so = tt
mapped_so P (Some m) command so = so m

-- ---- writes

put_so : (P : State → Type 0) (asked : Asked) (limits : Limits) (m : Mapping) (body : Option JsonValue) (tree : Tree) (live : Option Tree) (state : State) → Stays P asked → tree.number ≡ state.content.next → P state
    → After P (put_tree limits m body tree live state)
put_so P asked limits m body tree live state stays next so =
    unless_so P (put_refusals limits m body tree state) (changed (grown_by m body) tree.id (with_put tree state.content.live) (tree ∷ []) (put_result live) state)
    (stays.put (grown_by m body) tree state next so)

take_so : (P : State → Type 0) (asked : Asked) (limits : Limits) (m : Mapping) (id : List ℕ) (state : State) → Stays P asked → P state → After P (take_out limits m id state)
take_so P asked limits m id state stays so =
    unless_so P (full limits m (without id state.content.live) state.content.next ∷ []) (changed m id (without id state.content.live) [] Deleted state)
    (stays.taken m id state so)

changes_so : (P : State → Type 0) (asked : Asked) (limits : Limits) (m : Mapping) (id : List ℕ) (source : Option JsonValue) (live : Option Tree) (state : State) → Stays P asked → P state
    → After P (change limits m id source live state)
changes_so P asked limits m id None live state stays so = take_so P asked limits m id state stays so
changes_so P asked limits m id (Some source) live state stays so =
    put_so P asked limits m (added_body m source) (new_tree id source (grown_by m (added_body m source)) state.content.next) live state stays refl so

answered_so : (P : State → Type 0) (reply : Option Reply) (state : State) (answer : Answer) → P state → After P answer → After P (answered_or reply state answer)
answered_so P None state answer before after = after
answered_so P (Some reply) state answer before after = before

write_so : (P : State → Type 0) (asked : Asked) (limits : Limits) (m : Mapping) (it : Write) (state : State) → Stays P asked → P state → After P (write_step limits m it state)
unfolding write_step
write_so P asked limits m it state stays so =
    let live = live_tree it.target.id state.content.live in
    refused_so P (first_of (early_refusals m it (live_number live))) (change_or_nothing limits m it live state)
    (answered_so P (nothing_to_do (leaves_source it.operation live) it.target.id it.operation live) state (change limits m it.target.id (new_source it.operation live) live state) so
    (changes_so P asked limits m it.target.id (new_source it.operation live) live state stays so))

-- ---- the other commands

mapping_so : (P : State → Type 0) (asked : Asked) (body : JsonValue) (m : Option Mapping) (state : State) → Stays P asked → P state → After P (mapping_by body m state)
mapping_so P asked body None state stays so = unless_so P (first_refusals body) (first_done body state) (stays.mapped (first_mapping body) state so)
mapping_so P asked body (Some m) state stays so = unless_so P (growing_refusals m body) (growing_done m body state) (stays.mapped (grown_mapping m body) state so)

line_so : (P : State → Type 0) (asked : Asked) (body : JsonValue) (state : State) → Stays P asked → P state → After P (mapping_step body state)
unfolding mapping_step
line_so P asked body state stays so = mapping_so P asked body state.content.mapping state stays so

over_so : (P : State → Type 0) (limits : Limits) (m : Mapping) (body : SearchBody) (live : Option (List Tree)) (state : State) → P state → After P (search_over limits m body live state)
over_so P limits m body None state so = tt
over_so P limits m body (Some live) state so = so

search_so : (P : State → Type 0) (limits : Limits) (body : JsonValue) (m : Mapping) (state : State) → P state → After P (search_step limits body m state)
unfolding search_step
search_so P limits body m state so =
    refused_so P (body_refusal (first_refusal m body)) (search_by limits m (search_of m body) state)
    (over_so P limits m (search_of m body) (searched (search_of m body).pit state) state so)

-- ---- points in time

open_so : (P : State → Type 0) (asked : Asked) (m : Mapping) (state : State) → Stays P asked → asked ≡ asks open_pit → P state → After P (open_step m state)
unfolding open_step
open_so P asked m state stays is so =
    unless_so P (when (nat_le most_points (length state.points.points)) TooManyPits ∷ []) (open_done state) (stays.opened is state so)

close_so : (P : State → Type 0) (asked : Asked) (id : ℕ) (m : Mapping) (state : State) → Stays P asked → asked ≡ asks (close_pit id) → P state → After P (close_step id m state)
unfolding close_step
close_so P asked id m state stays is so =
    unless_so P (when (not (is_open id state.points)) UnknownPit ∷ []) (close_done id state) (stays.closed id is state so)

-- ---- the layout

merge_so : (P : State → Type 0) (state : State) (answer : LayoutAnswer Tree) → StaysLaid P → LaysLive state.layout answer → P state → After P (answer_of state answer)
merge_so P state (declined why) laid lives so = tt
merge_so P state (relaid reply layout) laid lives so = laid.relaid layout state lives so

command_so : (P : State → Type 0) (command : MergeCommand) (m : Mapping) (state : State) → StaysLaid P → P state → After P (merge_step command m state)
command_so P command m state laid so = merge_so P state (merged_by command state.layout) laid (merged_keeps command state.layout) so

automerge_so : (P : State → Type 0) (factor : Option ℕ) (m : Mapping) (state : State) → StaysLaid P → P state → After P (automerge_step factor m state)
unfolding automerge_step
automerge_so P factor m state laid so =
    laid.sealed (with_layout (with_factor factor state.layout) state) (laid.relaid (with_factor factor state.layout) state refl so)

segments_so : (P : State → Type 0) (limits : Limits) (m : Mapping) (state : State) → P state → After P (segments_step limits m state)
unfolding segments_step
segments_so P limits m state so = so

-- ---- the store

either_so : (P : State → Type 0) (b : Bool) (one other : Answer) → After P one → After P other → After P (cond b one other)
either_so P true one other first second = first
either_so P false one other first second = second

room_so : (P : State → Type 0) (room : Option Room) (command : Room → Answer) (state : State) → P state → ((room : Room) → After P (command room)) → After P (if_room room command state)
room_so P None command state so done = so
room_so P (Some room) command state so done = done room

commit_so : (P : State → Type 0) (limits : Limits) (sizes : List ℕ) (m : Mapping) (state : State) → StaysLaid P → P state → After P (commit_step limits sizes m state)
unfolding commit_step
commit_so P limits sizes m state laid so =
    let done : Room → Answer = λ room. commit_done room [] (Committed state.content.next) state in
    either_so P (state.kept.generation == last_generation) (answers (Refused StoreFull) state) (if_room (room_in limits sizes m state) done state) so
    (room_so P (room_in limits sizes m state) done state so (λ room. laid.stored (kept_by room [] state) state so))

compact_so : (P : State → Type 0) (limits : Limits) (sizes : List ℕ) (most : ℕ) (m : Mapping) (state : State) → StaysLaid P → P state → After P (compact_step limits sizes most m state)
unfolding compact_step
compact_so P limits sizes most m state laid so =
    either_so P (state.kept.generation == last_generation) (answers (Refused StoreFull) state) (if_room (room_in limits sizes m state) (compact_done limits most state) state) so
    (room_so P (room_in limits sizes m state) (compact_done limits most state) state so (λ room. laid.stored (kept_by room (moves_in limits most room state) state) state so))

trim_so : (P : State → Type 0) (m : Mapping) (state : State) → P state → After P (trim_step m state)
unfolding trim_step
trim_so P m state so = so

-- what is asked of the layout lays the same live trees out in another way, and what is asked of the store changes what that keeps
pub layout_so : (P : State → Type 0) (limits : Limits) (sizes : List ℕ) (action : Action) (state : State) → is_of_layout action ≡ true → StaysLaid P → P state → After P (action_step limits sizes action state)
layout_so P limits sizes (map_body body) state is laid so = absurd (true≢false (sym is))
layout_so P limits sizes (write it) state is laid so = absurd (true≢false (sym is))
layout_so P limits sizes (search body) state is laid so = absurd (true≢false (sym is))
layout_so P limits sizes refresh state is laid so = absurd (true≢false (sym is))
layout_so P limits sizes segments state is laid so =
    mapped_so P state.content.mapping (λ m. segments_step limits m (sealed_state state)) (λ m. segments_so P limits m (sealed_state state) (laid.sealed state so))
layout_so P limits sizes open_pit state is laid so = absurd (true≢false (sym is))
layout_so P limits sizes (close_pit id) state is laid so = absurd (true≢false (sym is))
layout_so P limits sizes (force_merge most) state is laid so =
    mapped_so P state.content.mapping (λ m. merge_step (Force most) m (sealed_state state)) (λ m. command_so P (Force most) m (sealed_state state) laid (laid.sealed state so))
layout_so P limits sizes (start_merge from count) state is laid so =
    mapped_so P state.content.mapping (λ m. merge_step (Start from count) m (sealed_state state)) (λ m. command_so P (Start from count) m (sealed_state state) laid (laid.sealed state so))
layout_so P limits sizes (advance_merge id roots) state is laid so =
    mapped_so P state.content.mapping (λ m. merge_step (Advance id roots) m (sealed_state state)) (λ m. command_so P (Advance id roots) m (sealed_state state) laid (laid.sealed state so))
layout_so P limits sizes (finish_merge id) state is laid so =
    mapped_so P state.content.mapping (λ m. merge_step (Finish id) m (sealed_state state)) (λ m. command_so P (Finish id) m (sealed_state state) laid (laid.sealed state so))
layout_so P limits sizes (abort_merge id) state is laid so =
    mapped_so P state.content.mapping (λ m. merge_step (Abort id) m (sealed_state state)) (λ m. command_so P (Abort id) m (sealed_state state) laid (laid.sealed state so))
layout_so P limits sizes commit state is laid so =
    mapped_so P state.content.mapping (λ m. commit_step limits sizes m (sealed_state state)) (λ m. commit_so P limits sizes m (sealed_state state) laid (laid.sealed state so))
layout_so P limits sizes (compact most) state is laid so =
    mapped_so P state.content.mapping (λ m. compact_step limits sizes most m (sealed_state state)) (λ m. compact_so P limits sizes most m (sealed_state state) laid (laid.sealed state so))
layout_so P limits sizes trim state is laid so =
    mapped_so P state.content.mapping (λ m. trim_step m (sealed_state state)) (λ m. trim_so P m (sealed_state state) (laid.sealed state so))
layout_so P limits sizes (automerge factor) state is laid so =
    mapped_so P state.content.mapping (λ m. automerge_step factor m state) (λ m. automerge_so P factor m state laid so)

action_so : (P : State → Type 0) (limits : Limits) (sizes : List ℕ) (action : Action) (state : State) → Stays P (asks action) → P state → After P (action_step limits sizes action state)
action_so P limits sizes (map_body body) state stays so = line_so P (asks (map_body body)) body (sealed_state state) stays (stays.laid.sealed state so)
action_so P limits sizes (write it) state stays so = mapped_so P state.content.mapping (λ m. write_step limits m it state) (λ m. write_so P (asks (write it)) limits m it state stays so)
action_so P limits sizes (search body) state stays so =
    mapped_so P state.content.mapping (λ m. search_step limits body m (sealed_state state)) (λ m. search_so P limits body m (sealed_state state) (stays.laid.sealed state so))
action_so P limits sizes refresh state stays so = mapped_so P state.content.mapping (λ m. refresh_step m (sealed_state state)) (λ m. stays.laid.sealed state so)
action_so P limits sizes segments state stays so = layout_so P limits sizes segments state refl stays.laid so
action_so P limits sizes open_pit state stays so =
    mapped_so P state.content.mapping (λ m. open_step m (sealed_state state)) (λ m. open_so P (asks open_pit) m (sealed_state state) stays refl (stays.laid.sealed state so))
action_so P limits sizes (close_pit id) state stays so =
    mapped_so P state.content.mapping (λ m. close_step id m (sealed_state state)) (λ m. close_so P (asks (close_pit id)) id m (sealed_state state) stays refl (stays.laid.sealed state so))
action_so P limits sizes (force_merge most) state stays so = layout_so P limits sizes (force_merge most) state refl stays.laid so
action_so P limits sizes (start_merge from count) state stays so = layout_so P limits sizes (start_merge from count) state refl stays.laid so
action_so P limits sizes (advance_merge id roots) state stays so = layout_so P limits sizes (advance_merge id roots) state refl stays.laid so
action_so P limits sizes (finish_merge id) state stays so = layout_so P limits sizes (finish_merge id) state refl stays.laid so
action_so P limits sizes (abort_merge id) state stays so = layout_so P limits sizes (abort_merge id) state refl stays.laid so
action_so P limits sizes commit state stays so = layout_so P limits sizes commit state refl stays.laid so
action_so P limits sizes (compact most) state stays so = layout_so P limits sizes (compact most) state refl stays.laid so
action_so P limits sizes trim state stays so = layout_so P limits sizes trim state refl stays.laid so
action_so P limits sizes (automerge factor) state stays so = layout_so P limits sizes (automerge factor) state refl stays.laid so

asked_so : (P : State → Type 0) (limits : Limits) (sizes : List ℕ) (asked : Asked) (state : State) → Stays P asked → P state → After P (asked_step limits sizes asked state)
asked_so P limits sizes (refused why) state stays so = tt
asked_so P limits sizes (asks action) state stays so = action_so P limits sizes action state stays so

pub outcome_so : (P : State → Type 0) (answer : Answer) (state : State) → P state → After P answer → P (outcome_of state answer).state
outcome_so P (refuses why) state before after = before
outcome_so P (answers reply later) state before after = after
outcome_so P (stores need reply later) state before after = after

pub step_so : (P : State → Type 0) (limits : Limits) (sizes : List ℕ) (state : State) (asked : Asked) → Stays P asked → P state → P (step limits sizes state asked).state
unfolding step
step_so P limits sizes state asked stays so = outcome_so P (asked_step limits sizes asked state) state so (asked_so P limits sizes asked state stays so)

-- ---- whatever is answered

kept_or_sealed_so : (P : State → Type 0) (before after : State) → StaysLaid P → P before → AsOrSealed before after → P after
kept_or_sealed_so P before after laid so (inl same) = subst P (sym same) so
kept_or_sealed_so P before after laid so (inr seals) = subst P (sym seals) (laid.sealed before so)

left_so : (P : State → Type 0) (need : Need) (before after : State) → StaysLaid P → P before → MayLeave need before after → P after
left_so P nothing before after laid so left = absurd left
left_so P closing before after laid so left = kept_or_sealed_so P before after laid so left
left_so P writing before after laid so (inl left) = kept_or_sealed_so P before after laid so left
left_so P writing before after laid so (inr left) = kept_or_sealed_so P (tried_state before) after laid (laid.stored (tried_state before).kept before so) left

pub end_so : (P : State → Type 0) (before : State) (outcome : Outcome) (reply : Reply) (after : State) → StaysLaid P → P before → P outcome.state → MayEnd before outcome reply after → P after
end_so P before outcome reply after laid so done (inl stepped) = subst P (sym stepped.state_is) done
end_so P before outcome reply after laid so done (inr (inl wants)) = kept_or_sealed_so P before after laid so wants.state_is
end_so P before outcome reply after laid so done (inr (inr failed)) = left_so P outcome.need before after laid so failed.state_is

pub may_so : (P : State → Type 0) (limits : Limits) (before : State) (asked : Asked) (reply : Reply) (after : State) → Stays P asked → P before → MayAnswer limits before asked reply after → P after
may_so P limits before asked reply after stays so may =
    end_so P before (step limits may.sizes before asked) reply after stays.laid so (step_so P limits may.sizes before asked stays so) may.may
