-- What isn't asked of the store acknowledges no commit, doesn't tell of a failure of the disk, and writes no segment.
use Rattle.std.proofs.Common.{◌≡◌, ◌≢◌, inl, inr, Bool, true, false, not, cond, nat_lt, nat_le, ℕ, List, [], ◌∷◌, length, Option, Some, None, refl, sym, ap, subst, ◌∙◌}
use Rattle.std.proofs.lemmas.Bool.{true≢false}
use Rattle.std.specs.List.{AllByRecursion}
use Rattle.std.specs.Option.{option_and_then}
use Rattle.flattener.specs.Block.{block_refusal}
use Rattle.flattener.specs.declared.refusal.FlattenRefusal.{FlattenRefusal}
use Rattle.flattener.specs.declared.refusal.FlattenRefusal.TheVariants as flat
use Rattle.layout.specs.Layout.{Layout, OpenMerge}
use Rattle.layout.specs.Merges.{MergeFault, bad_range, overlaps, too_many, unknown, not_done, finish_fault, force_fault, merge_named, start_fault}
use Rattle.machine.specs.Answer.{Answer, answers, first_of, nothing, outcome_of, refused_if, refuses, stores, unless, when, with_mapping}
use Rattle.machine.specs.Beside.{asks_so}
use Rattle.machine.specs.MappingLine.{conflict_refusal, first_done, first_refusals, growing_done, growing_refusals, limit_refusal, mapping_by, mapping_step}
use Rattle.machine.specs.May.{AreSizesFor, MayEnd, MayLeave}
use Rattle.machine.specs.Merging.{LayoutAnswer, abort_done, advance_done, answer_of, automerge_step, declined, finish_done, force_done, layout_reply, merge_refusal, merge_step, merged_by, no_merge, relaid, segments_step, start_done, unless_faulty, with_open}
use Rattle.machine.specs.Points.{close_done, close_step, is_open, most_points, open_done, open_step}
use Rattle.machine.specs.Searching.{body_refusal, found_by, search_by, search_over, search_step, searched, within}
use Rattle.machine.specs.State.{State, sealed_state}
use Rattle.machine.specs.Step.{action_step, asked_step, is_of_store, refresh_step, refusal_formed}
use Rattle.machine.specs.Write.{added_body, answered_or, change, change_or_nothing, changed, conflict, early_refusals, exists_already, full, growth_refusal, leaves_source, live_number, live_tree, missing, new_source, new_tree, nothing_to_do, put_refusals, put_result, put_tree, refusal_flattened, take_out, with_put, write_step, wrong_index, grown_by}
use Rattle.machine.specs.declared.limits.Limits.{Limits}
use Rattle.machine.specs.declared.merge_command.MergeCommand.{MergeCommand}
use Rattle.machine.specs.declared.merge_command.MergeCommand.TheVariants.{Start, Advance, Finish, Abort, Force}
use Rattle.mapping.specs.Mapping.{Mapping}
use Rattle.mapping_body.specs.declared.refusal.Limit.{Limit}
use Rattle.query_ast.specs.declared.search.SearchBody.{SearchBody}
use Rattle.query_parser.specs.Search.{search_of}
use Rattle.reply_text.specs.Text.{line_of}
use Rattle.reply_text.specs.declared.refusal.Refusal.{Refusal}
use Rattle.reply_text.specs.declared.refusal.Refusal.TheVariants as why
use Rattle.reply_text.specs.declared.reply.Reply.{Reply}
use Rattle.reply_text.specs.declared.reply.Reply.TheVariants as reply
use Rattle.reply_text.specs.declared.reply.WriteResult.TheVariants.{Deleted}
use Rattle.request_form.specs.Asked.{Asked, refused, asks}
use Rattle.request_form.specs.Command as ask
use Rattle.request_form.specs.Command.{Action, Operation, Write}
use Rattle.request_form.specs.declared.refusal.FormRefusal.{FormRefusal}
use Rattle.request_form.specs.declared.refusal.FormRefusal.TheVariants as form
use Rattle.search_walk.specs.Refusal.{first_refusal}
use Rattle.search_walk.specs.declared.refusal.SearchRefusal.{SearchRefusal}
use Rattle.search_walk.specs.declared.refusal.SearchRefusal.TheVariants as body
use Rattle.tree_json.specs.Value.{JsonValue}
use Rattle.tree_objects.specs.Tree.{Tree, without}
use Rattle.engine.specs.Storing.{is_acknowledged}

-- a reply that tells nothing of the store
pub record IsPlain (given : Reply) : Type 0 where
  pub acknowledges : is_acknowledged given ≡ false
  pub fails : given ≢ reply.Refused why.DiskFailure

abbrev is_of_disk : Refusal → Bool
is_of_disk why.DiskFailure = true
is_of_disk refusal = false

abbrev fails_disk : Reply → Bool
fails_disk (reply.Refused refusal) = is_of_disk refusal
fails_disk given = false

abbrev Other : Refusal → Type 0
Other refusal = is_of_disk refusal ≡ false

plain_reply : (given : Reply) → is_acknowledged given ≡ false → fails_disk given ≡ false → IsPlain given
plain_reply given acknowledges other = record {
  acknowledges = acknowledges;
  fails = λ same. true≢false (sym (ap fails_disk same) ∙ other);
}

abbrev pub Plain : Answer → Type 0
Plain (refuses refusal) = Other refusal
Plain (answers given after) = IsPlain given
Plain (stores need given after) = ⊥

abbrev IfOther : Option Refusal → Type 0
IfOther None = Unit {0}
IfOther (Some refusal) = Other refusal

abbrev AllOther : List (Option Refusal) → Type 0
AllOther refusals = AllByRecursion IfOther refusals

when_other : (b : Bool) (refusal : Refusal) → Other refusal → IfOther (when b refusal)
when_other true refusal other = other
when_other false refusal other = tt

first_other : (refusals : List (Option Refusal)) → AllOther refusals → IfOther (first_of refusals)
first_other [] all = tt
first_other (None ∷ later) all = first_other later all.1
first_other (Some refusal ∷ later) all = all.0

refused_plain : (refusal : Option Refusal) (answer : Answer) → IfOther refusal → Plain answer → Plain (refused_if refusal answer)
refused_plain None answer other plain = plain
refused_plain (Some refusal) answer other plain = other

unless_plain : (refusals : List (Option Refusal)) (answer : Answer) → AllOther refusals → Plain answer → Plain (unless refusals answer)
unless_plain refusals answer all plain = refused_plain (first_of refusals) answer (first_other refusals all) plain

mapped_plain : (m : Option Mapping) (command : Mapping → Answer) → ((m : Mapping) → Plain (command m)) → Plain (with_mapping m command)
mapped_plain None command plain = refl
mapped_plain (Some m) command plain = plain m

-- ---- mapping lines

limit_other : (limit : Option Limit) → IfOther (limit_refusal limit)
limit_other None = tt
limit_other (Some limit) = refl

conflict_other : (path : Option (List ℕ)) → IfOther (conflict_refusal path)
conflict_other None = tt
conflict_other (Some path) = refl

mapping_plain : (line : JsonValue) (m : Option Mapping) (state : State) → Plain (mapping_by line m state)
mapping_plain line None state =
    unless_plain (first_refusals line) (first_done line state) (when_other _ why.BadRequest refl, (limit_other _, tt)) (plain_reply reply.Mapped refl refl)
mapping_plain line (Some m) state =
    unless_plain (growing_refusals m line) (growing_done m line state)
    (when_other _ why.BadRequest refl, (when_other _ why.IndexNotFound refl, (conflict_other _, (limit_other _, tt)))) (plain_reply reply.Mapped refl refl)

line_plain : (line : JsonValue) (state : State) → Plain (mapping_step line state)
unfolding mapping_step
line_plain line state = mapping_plain line state.content.mapping state

-- ---- writes

index_other : (m : Mapping) (name : Option (List ℕ)) → IfOther (wrong_index m name)
index_other m None = tt
index_other m (Some name) = when_other _ why.IndexNotFound refl

missing_other : (operation : Operation) (live : Option ℕ) → IfOther (missing operation live)
missing_other (ask.update changes) None = when_other _ why.DocumentMissing refl
missing_other (ask.update changes) (Some live) = tt
missing_other (ask.index source) live = tt
missing_other (ask.create source) live = tt
missing_other ask.delete live = tt

number_other : (wanted live : Option ℕ) → IfOther (conflict wanted live)
number_other None live = tt
number_other (Some number) None = refl
number_other (Some number) (Some own) = when_other _ (why.VersionConflict (Some own)) refl

exists_other : (operation : Operation) (live : Option ℕ) → IfOther (exists_already operation live)
exists_other (ask.create source) None = tt
exists_other (ask.create source) (Some live) = refl
exists_other (ask.index source) live = tt
exists_other (ask.update changes) live = tt
exists_other ask.delete live = tt

early_other : (m : Mapping) (it : Write) (live : Option ℕ) → AllOther (early_refusals m it live)
early_other m it live =
    (index_other m it.target.index, (when_other _ why.IdTooLong refl, (missing_other it.operation live, (number_other it.target.if_seq_no live, (exists_other it.operation live, tt)))))

growth_other : (m : Mapping) (added : Option JsonValue) → IfOther (growth_refusal m added)
growth_other m None = tt
growth_other m (Some added) = limit_other _

flattened_other : (m : Mapping) (refusal : FlattenRefusal) → IfOther (refusal_flattened m refusal)
flattened_other m flat.SourceTooLong = refl
flattened_other m (flat.WrongType field) = refl
flattened_other m (flat.TermTooLong field) = refl
flattened_other m flat.BadJoin = refl
flattened_other m flat.TooManyObjects = refl
flattened_other m flat.NoMemory = tt

block_other : (m : Mapping) (refusal : Option FlattenRefusal) → IfOther (option_and_then (refusal_flattened m) refusal)
block_other m None = tt
block_other m (Some refusal) = flattened_other m refusal

full_other : (limits : Limits) (m : Mapping) (live : List Tree) (next : ℕ) → IfOther (full limits m live next)
full_other limits m live next = when_other _ why.IndexFull refl

put_other : (limits : Limits) (m : Mapping) (added : Option JsonValue) (tree : Tree) (state : State) → AllOther (put_refusals limits m added tree state)
put_other limits m added tree state = (
  when_other _ why.SourceTooLong refl,
  (
    growth_other m added,
    (
      block_other (grown_by m added) (block_refusal (grown_by m added) tree),
      (full_other limits (grown_by m added) (with_put tree state.content.live) state.content.next, tt),
    ),
  ),
)

put_plain : (limits : Limits) (m : Mapping) (added : Option JsonValue) (tree : Tree) (live : Option Tree) (state : State) → Plain (put_tree limits m added tree live state)
put_plain limits m added tree live state =
    unless_plain (put_refusals limits m added tree state) (changed (grown_by m added) tree.id (with_put tree state.content.live) (tree ∷ []) (put_result live) state)
    (put_other limits m added tree state) (plain_reply (reply.Written tree.id state.content.next (put_result live)) refl refl)

take_plain : (limits : Limits) (m : Mapping) (id : List ℕ) (state : State) → Plain (take_out limits m id state)
take_plain limits m id state =
    unless_plain (full limits m (without id state.content.live) state.content.next ∷ []) (changed m id (without id state.content.live) [] Deleted state)
    (full_other limits m (without id state.content.live) state.content.next, tt) (plain_reply (reply.Written id state.content.next Deleted) refl refl)

changes_plain : (limits : Limits) (m : Mapping) (id : List ℕ) (source : Option JsonValue) (live : Option Tree) (state : State) → Plain (change limits m id source live state)
changes_plain limits m id None live state = take_plain limits m id state
changes_plain limits m id (Some source) live state =
    put_plain limits m (added_body m source) (new_tree id source (grown_by m (added_body m source)) state.content.next) live state

abbrev IfPlain : Option Reply → Type 0
IfPlain None = Unit {0}
IfPlain (Some given) = IsPlain given

same_plain : (same : Bool) (id : List ℕ) (operation : Operation) (live : Option Tree) → IfPlain (nothing_to_do same id operation live)
same_plain true id (ask.update changes) (Some tree) = plain_reply _ refl refl
same_plain false id (ask.update changes) (Some tree) = tt
same_plain same id (ask.update changes) None = tt
same_plain same id ask.delete None = plain_reply (reply.NotFound id) refl refl
same_plain same id ask.delete (Some tree) = tt
same_plain same id (ask.index source) live = tt
same_plain same id (ask.create source) live = tt

answered_plain : (given : Option Reply) (state : State) (answer : Answer) → IfPlain given → Plain answer → Plain (answered_or given state answer)
answered_plain None state answer given plain = plain
answered_plain (Some reply) state answer given plain = given

write_plain : (limits : Limits) (m : Mapping) (it : Write) (state : State) → Plain (write_step limits m it state)
unfolding write_step
write_plain limits m it state =
    let live = live_tree it.target.id state.content.live in
    refused_plain (first_of (early_refusals m it (live_number live))) (change_or_nothing limits m it live state)
    (first_other (early_refusals m it (live_number live)) (early_other m it (live_number live)))
    (answered_plain (nothing_to_do (leaves_source it.operation live) it.target.id it.operation live) state (change limits m it.target.id (new_source it.operation live) live state)
    (same_plain (leaves_source it.operation live) it.target.id it.operation live) (changes_plain limits m it.target.id (new_source it.operation live) live state))

-- ---- searches and rows

within_by : (b : Bool) (given : Reply) → IsPlain given → IsPlain (cond b (reply.Refused why.ReplyTooLarge) given)
within_by true given plain = plain_reply (reply.Refused why.ReplyTooLarge) refl refl
within_by false given plain = plain

within_plain : (limits : Limits) (given : Reply) → IsPlain given → IsPlain (within limits given)
within_plain limits given plain = within_by (nat_lt limits.reply_bytes (length (line_of given))) given plain

body_other : (refusal : Option SearchRefusal) → IfOther (body_refusal refusal)
body_other None = tt
body_other (Some body.UnknownPath) = refl
body_other (Some body.PathOutOfScope) = refl
body_other (Some body.UnknownRelation) = refl
body_other (Some body.BadValue) = refl
body_other (Some body.SortFieldUnmapped) = refl
body_other (Some body.BadSort) = refl
body_other (Some body.DuplicateInnerName) = refl
body_other (Some body.WindowTooLarge) = refl
body_other (Some body.InnerWindowTooLarge) = refl
body_other (Some body.TooManyClauses) = refl
body_other (Some body.QueryTooDeep) = refl
body_other (Some body.TooManyTerms) = refl
body_other (Some body.NoMemory) = tt

over_plain : (limits : Limits) (m : Mapping) (search : SearchBody) (live : Option (List Tree)) (state : State) → Plain (search_over limits m search live state)
over_plain limits m search None state = refl
over_plain limits m search (Some live) state = within_plain limits (found_by m live search) (plain_reply (found_by m live search) refl refl)

search_plain : (limits : Limits) (line : JsonValue) (m : Mapping) (state : State) → Plain (search_step limits line m state)
unfolding search_step
search_plain limits line m state =
    refused_plain (body_refusal (first_refusal m line)) (search_by limits m (search_of m line) state) (body_other (first_refusal m line))
    (over_plain limits m (search_of m line) (searched (search_of m line).pit state) state)

segments_plain : (limits : Limits) (m : Mapping) (state : State) → Plain (segments_step limits m state)
unfolding segments_step
segments_plain limits m state = within_plain limits (layout_reply m state.layout) (plain_reply (layout_reply m state.layout) refl refl)

-- ---- points in time

open_plain : (m : Mapping) (state : State) → Plain (open_step m state)
unfolding open_step
open_plain m state =
    unless_plain (when (nat_le most_points (length state.points.points)) why.TooManyPits ∷ []) (open_done state) (when_other _ why.TooManyPits refl, tt)
    (plain_reply _ refl refl)

close_plain : (id : ℕ) (m : Mapping) (state : State) → Plain (close_step id m state)
unfolding close_step
close_plain id m state =
    unless_plain (when (not (is_open id state.points)) why.UnknownPit ∷ []) (close_done id state) (when_other _ why.UnknownPit refl, tt) (plain_reply (reply.PitClosed id) refl refl)

-- ---- merges

abbrev PlainLayout : LayoutAnswer Tree → Type 0
PlainLayout (declined refusal) = Other refusal
PlainLayout (relaid given layout) = IsPlain given

merge_other : (id : ℕ) (fault : MergeFault) → Other (merge_refusal id fault)
merge_other id bad_range = refl
merge_other id (overlaps other) = refl
merge_other id too_many = refl
merge_other id unknown = refl
merge_other id (not_done left) = refl

faultless_plain : (id : ℕ) (fault : Option MergeFault) (answer : LayoutAnswer Tree) → PlainLayout answer → PlainLayout (unless_faulty id fault answer)
faultless_plain id None answer plain = plain
faultless_plain id (Some fault) answer plain = merge_other id fault

with_open_plain : (merge : Option OpenMerge) (command : OpenMerge → LayoutAnswer Tree) → ((merge : OpenMerge) → PlainLayout (command merge)) → PlainLayout (with_open merge command)
with_open_plain None command plain = refl
with_open_plain (Some merge) command plain = plain merge

merged_plain : (command : MergeCommand) (layout : Layout Tree) → PlainLayout (merged_by command layout)
unfolding merged_by
merged_plain (Start from count) layout = faultless_plain no_merge (start_fault from count layout) (start_done from count layout) (plain_reply _ refl refl)
merged_plain (Advance id roots) layout = with_open_plain (merge_named id layout) (advance_done id roots layout) (λ merge. plain_reply _ refl refl)
merged_plain (Finish id) layout =
    faultless_plain id (finish_fault id layout) (with_open (merge_named id layout) (finish_done id layout))
    (with_open_plain (merge_named id layout) (finish_done id layout) (λ merge. plain_reply _ refl refl))
merged_plain (Abort id) layout = with_open_plain (merge_named id layout) (abort_done id layout) (λ merge. plain_reply _ refl refl)
merged_plain (Force most) layout = faultless_plain no_merge (force_fault most layout) (force_done most layout) (plain_reply _ refl refl)

layout_plain : (state : State) (answer : LayoutAnswer Tree) → PlainLayout answer → Plain (answer_of state answer)
layout_plain state (declined refusal) plain = plain
layout_plain state (relaid given layout) plain = plain

merge_plain : (command : MergeCommand) (m : Mapping) (state : State) → Plain (merge_step command m state)
merge_plain command m state = layout_plain state (merged_by command state.layout) (merged_plain command state.layout)

automerge_plain : (factor : Option ℕ) (m : Mapping) (state : State) → Plain (automerge_step factor m state)
unfolding automerge_step
automerge_plain factor m state = plain_reply _ refl refl

-- ---- whatever is asked for

action_plain : (limits : Limits) (sizes : List ℕ) (action : Action) (state : State) → is_of_store action ≡ false → Plain (action_step limits sizes action state)
action_plain limits sizes (ask.map_body line) state other = line_plain line (sealed_state state)
action_plain limits sizes (ask.write it) state other = mapped_plain state.content.mapping (λ m. write_step limits m it state) (λ m. write_plain limits m it state)
action_plain limits sizes (ask.search line) state other =
    mapped_plain state.content.mapping (λ m. search_step limits line m (sealed_state state)) (λ m. search_plain limits line m (sealed_state state))
action_plain limits sizes ask.refresh state other =
    mapped_plain state.content.mapping (λ m. refresh_step m (sealed_state state)) (λ m. plain_reply reply.Refreshed refl refl)
action_plain limits sizes ask.segments state other =
    mapped_plain state.content.mapping (λ m. segments_step limits m (sealed_state state)) (λ m. segments_plain limits m (sealed_state state))
action_plain limits sizes ask.open_pit state other = mapped_plain state.content.mapping (λ m. open_step m (sealed_state state)) (λ m. open_plain m (sealed_state state))
action_plain limits sizes (ask.close_pit id) state other =
    mapped_plain state.content.mapping (λ m. close_step id m (sealed_state state)) (λ m. close_plain id m (sealed_state state))
action_plain limits sizes (ask.force_merge most) state other =
    mapped_plain state.content.mapping (λ m. merge_step (Force most) m (sealed_state state)) (λ m. merge_plain (Force most) m (sealed_state state))
action_plain limits sizes (ask.start_merge from count) state other =
    mapped_plain state.content.mapping (λ m. merge_step (Start from count) m (sealed_state state)) (λ m. merge_plain (Start from count) m (sealed_state state))
action_plain limits sizes (ask.advance_merge id roots) state other =
    mapped_plain state.content.mapping (λ m. merge_step (Advance id roots) m (sealed_state state)) (λ m. merge_plain (Advance id roots) m (sealed_state state))
action_plain limits sizes (ask.finish_merge id) state other =
    mapped_plain state.content.mapping (λ m. merge_step (Finish id) m (sealed_state state)) (λ m. merge_plain (Finish id) m (sealed_state state))
action_plain limits sizes (ask.abort_merge id) state other =
    mapped_plain state.content.mapping (λ m. merge_step (Abort id) m (sealed_state state)) (λ m. merge_plain (Abort id) m (sealed_state state))
action_plain limits sizes ask.commit state other = absurd (true≢false other)
action_plain limits sizes (ask.compact most) state other = absurd (true≢false other)
action_plain limits sizes ask.trim state other = absurd (true≢false other)
action_plain limits sizes (ask.automerge factor) state other =
    mapped_plain state.content.mapping (λ m. automerge_step factor m state) (λ m. automerge_plain factor m state)

form_other : (refusal : FormRefusal) → Other (refusal_formed refusal)
form_other form.BadJson = refl
form_other form.FractionNumber = refl
form_other form.LineTooLong = refl
form_other form.BadRequest = refl
form_other form.MissingSource = refl

pub asked_plain : (limits : Limits) (sizes : List ℕ) (asked : Asked) (state : State) → asks_so is_of_store asked ≡ false → Plain (asked_step limits sizes asked state)
asked_plain limits sizes (refused refusal) state other = form_other refusal
asked_plain limits sizes (asks action) state other = action_plain limits sizes action state other

pub lacking_plain : IsPlain reply.OutOfMemory
lacking_plain = plain_reply reply.OutOfMemory refl refl

-- ---- however it is answered

stepped_plain : (before : State) (answer : Answer) → Plain answer → IsPlain (outcome_of before answer).reply
stepped_plain before (refuses refusal) plain = plain_reply (reply.Refused refusal) refl plain
stepped_plain before (answers given after) plain = plain
stepped_plain before (stores need given after) plain = absurd plain

needs_nothing : (before : State) (answer : Answer) → Plain answer → (outcome_of before answer).need ≡ nothing
needs_nothing before (refuses refusal) plain = refl
needs_nothing before (answers given after) plain = refl
needs_nothing before (stores need given after) plain = absurd plain

pub end_plain : (before : State) (answer : Answer) (given : Reply) (after : State) → Plain answer → MayEnd before (outcome_of before answer) given after → IsPlain given
end_plain before answer given after plain (inl stepped) = subst IsPlain (sym stepped.reply_is) (stepped_plain before answer plain)
end_plain before answer given after plain (inr (inl wants)) = subst IsPlain (sym wants.reply_is) (plain_reply reply.OutOfMemory refl refl)
end_plain before answer given after plain (inr (inr failed)) = absurd (subst (λ need. MayLeave need before after) (needs_nothing before answer plain) failed.state_is)

-- ---- no bytes are counted

pub no_sizes : (asked : Asked) (state : State) → asks_so is_of_store asked ≡ false → AreSizesFor asked state []
no_sizes (refused refusal) state other = tt
no_sizes (asks (ask.map_body line)) state other = tt
no_sizes (asks (ask.write it)) state other = tt
no_sizes (asks (ask.search line)) state other = tt
no_sizes (asks ask.refresh) state other = tt
no_sizes (asks ask.segments) state other = tt
no_sizes (asks ask.open_pit) state other = tt
no_sizes (asks (ask.close_pit id)) state other = tt
no_sizes (asks (ask.force_merge most)) state other = tt
no_sizes (asks (ask.start_merge from count)) state other = tt
no_sizes (asks (ask.advance_merge id roots)) state other = tt
no_sizes (asks (ask.finish_merge id)) state other = tt
no_sizes (asks (ask.abort_merge id)) state other = tt
no_sizes (asks ask.commit) state other = absurd (true≢false other)
no_sizes (asks (ask.compact most)) state other = absurd (true≢false other)
no_sizes (asks ask.trim) state other = absurd (true≢false other)
no_sizes (asks (ask.automerge factor)) state other = tt
