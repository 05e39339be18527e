-- What a write does (Elasticsearch reference, index, create, update and delete APIs; optimistic concurrency control).
use Rattle.std.specs.Prelude.{ℕ, ◌+◌, ◌^◌, ◌==◌, nat_lt, Bool, false, not, ◌||◌, if◌then◌else◌, List, [], ◌∷◌, ◌++◌, length, sum_by, find, Option, Some, None, is_some, option_and_then, option_map, unwrap_or}
use Rattle.std.specs.Str.{bytes_eq}
use Rattle.flattener.specs.Block.{block_refusal}
use Rattle.flattener.specs.Fits.{most_source}
use Rattle.flattener.specs.declared.refusal.FlattenRefusal.{FlattenRefusal}
use Rattle.flattener.specs.declared.refusal.FlattenRefusal.TheVariants as flat
use Rattle.layout.specs.Layout.{with_change}
use Rattle.json_merge.specs.Merged.{merged}
use Rattle.json_merge.specs.Same.{is_same}
use Rattle.mapping.specs.Mapping.{Mapping, mapping_of, field_at}
use Rattle.mapping_growth.specs.Bodies.{exceeded}
use Rattle.reply_text.specs.declared.refusal.Refusal.{Refusal}
use Rattle.reply_text.specs.declared.refusal.Refusal.TheVariants as why
use Rattle.reply_text.specs.declared.reply.Reply.{Reply}
use Rattle.reply_text.specs.declared.reply.Reply.TheVariants.{Written, NotFound}
use Rattle.reply_text.specs.declared.reply.WriteResult.{WriteResult}
use Rattle.reply_text.specs.declared.reply.WriteResult.TheVariants.{Created, Updated, Deleted, Noop}
use Rattle.request_form.specs.Command.{Changes, Operation, index, create, update, delete, Write}
use Rattle.source_growth.specs.Growth.{growth}
use Rattle.tree_json.specs.Text.{compact}
use Rattle.tree_json.specs.Value.{JsonValue}
use Rattle.tree_objects.specs.Object.{block_objects}
use Rattle.tree_objects.specs.Tree.{Tree, has_id, without}
use Rattle.machine.specs.Answer.{Answer, answers, when, first_of, refused_if, unless}
use Rattle.machine.specs.declared.limits.Limits.{Limits}
use Rattle.machine.specs.MappingLine.{limit_refusal}
use Rattle.machine.specs.State.{State}

-- the live tree with an id
abbrev pub live_tree : List ℕ → List Tree → Option Tree
live_tree id live = find (has_id id) live

-- its sequence number
abbrev pub live_number : Option Tree → Option ℕ
live_number live = option_map (λ (tree : Tree). tree.number) live

-- ---- refusals before anything is looked at in a source, in their order

-- the most bytes of an id
abbrev pub longest_id : ℕ
longest_id = 512

abbrev pub wrong_index : Mapping → Option (List ℕ) → Option Refusal
wrong_index m None = None
wrong_index m (Some name) = when (not (bytes_eq name m.index)) why.IndexNotFound

abbrev pub long_id : List ℕ → Option Refusal
long_id id = when (nat_lt longest_id (length id)) why.IdTooLong

-- an update that says what is put where no tree is live
abbrev pub puts_anew : Changes → Bool
puts_anew changes = is_some changes.upsert || changes.doc_as_upsert

-- an update wants a live tree, or something to put in its place; by the number of the live tree
abbrev pub missing : Operation → Option ℕ → Option Refusal
missing (update changes) None = when (not (puts_anew changes)) why.DocumentMissing
missing operation live = None

-- the live tree hasn't the number that is asked for
abbrev pub conflict : Option ℕ → Option ℕ → Option Refusal
conflict None live = None
conflict (Some number) None = Some (why.VersionConflict None)
conflict (Some number) (Some own) = when (not (own == number)) (why.VersionConflict (Some own))

abbrev pub exists_already : Operation → Option ℕ → Option Refusal
exists_already (create source) (Some own) = Some (why.DocumentExists own)
exists_already operation live = None

abbrev pub early_refusals : Mapping → Write → Option ℕ → List (Option Refusal)
early_refusals m it live =
    wrong_index m it.target.index
    ∷ long_id it.target.id
    ∷ missing it.operation live
    ∷ conflict it.target.if_seq_no live
    ∷ exists_already it.operation live ∷ []

-- ---- what takes no number

-- an update that changes nothing, and a delete of what isn't there
abbrev pub nothing_to_do : Bool → List ℕ → Operation → Option Tree → Option Reply
nothing_to_do same id (update changes) (Some tree) = if same then Some (Written id tree.number Noop) else None
nothing_to_do same id delete None = Some (NotFound id)
nothing_to_do same id operation live = None

-- ---- changes

-- what an update puts: its `doc` merged into the live source; where none is live, the `doc` if it says so, or else the `upsert`
abbrev pub updated_source : Changes → Option Tree → JsonValue
updated_source changes (Some tree) = merged changes.doc tree.source
updated_source changes None = if changes.doc_as_upsert then changes.doc else unwrap_or changes.upsert changes.doc

-- the source that is put, and none where a tree is taken out
abbrev pub new_source : Operation → Option Tree → Option JsonValue
new_source (index source) live = Some source
new_source (create source) live = Some source
new_source (update changes) live = Some (updated_source changes live)
new_source delete live = None

-- the body that a source adds to the mapping
abbrev pub added_body : Mapping → JsonValue → Option JsonValue
added_body m source = if m.dynamic then growth m source else None

-- the mapping with a body that a source adds
abbrev pub grown_by : Mapping → Option JsonValue → Mapping
grown_by m None = m
grown_by m (Some body) = mapping_of (m.bodies ++ body ∷ []) m.dynamic

abbrev pub growth_refusal : Mapping → Option JsonValue → Option Refusal
growth_refusal m None = None
growth_refusal m (Some body) = limit_refusal (exceeded (m.bodies ++ body ∷ []))

abbrev pub long_source : JsonValue → Option Refusal
long_source source = when (nat_lt most_source (length (compact source))) why.SourceTooLong

-- the path of a field, which a refusal names
abbrev pub path_of : Mapping → ℕ → List ℕ
path_of m field = (field_at m field).path

abbrev pub refusal_flattened : Mapping → FlattenRefusal → Option Refusal
refusal_flattened m flat.SourceTooLong = Some why.SourceTooLong
refusal_flattened m (flat.WrongType field) = Some (why.WrongType (path_of m field))
refusal_flattened m (flat.TermTooLong field) = Some (why.TermTooLong (path_of m field))
refusal_flattened m flat.BadJoin = Some why.BadJoin
refusal_flattened m flat.TooManyObjects = Some why.TooManyObjects
refusal_flattened m flat.NoMemory = None

-- the first fault of a source, or too many objects
abbrev pub source_refusal : Mapping → Tree → Option Refusal
source_refusal m tree = option_and_then (refusal_flattened m) (block_refusal m tree)

-- how many objects trees have, their roots included
abbrev pub object_count : Mapping → List Tree → ℕ
object_count m trees = sum_by (λ (tree : Tree). length (block_objects m tree)) trees

-- the last sequence number that there is
abbrev pub last_number : ℕ
last_number = 2 ^ 62

-- the live trees after a change would have too many objects, or it has no number
abbrev pub full : Limits → Mapping → List Tree → ℕ → Option Refusal
full limits m live next = when (nat_lt limits.objects (object_count m live) || (next == last_number)) why.IndexFull

-- a tree put in place of the one with its id, or as a new one: it stands last
abbrev pub with_put : Tree → List Tree → List Tree
with_put tree live = without tree.id live ++ tree ∷ []

abbrev pub put_result : Option Tree → WriteResult
put_result None = Created
put_result (Some tree) = Updated

-- the state after a change of the tree with an id: its mapping and its live trees, and what is new in the layout
abbrev pub changed_state : Mapping → List ℕ → List Tree → List Tree → State → State
changed_state m id live new state = record state {
  content = record { mapping = Some m; live = live; next = state.content.next + 1 };
  layout = with_change (has_id id) new state.layout;
}

-- an accepted change takes the next number
abbrev pub changed : Mapping → List ℕ → List Tree → List Tree → WriteResult → State → Answer
changed m id live new result state = answers (Written id state.content.next result) (changed_state m id live new state)

-- the refusals of a source, under the mapping that would be, in their order
abbrev pub source_refusals : Mapping → Option JsonValue → Tree → List (Option Refusal)
source_refusals m body tree = long_source tree.source ∷ growth_refusal m body ∷ source_refusal (grown_by m body) tree ∷ []

-- and then that of the index that is full
abbrev pub put_refusals : Limits → Mapping → Option JsonValue → Tree → State → List (Option Refusal)
put_refusals limits m body tree state =
    source_refusals m body tree ++ full limits (grown_by m body) (with_put tree state.content.live) state.content.next ∷ []

abbrev pub put_tree : Limits → Mapping → Option JsonValue → Tree → Option Tree → State → Answer
put_tree limits m body tree live state =
    unless (put_refusals limits m body tree state)
    (changed (grown_by m body) tree.id (with_put tree state.content.live) (tree ∷ []) (put_result live) state)

abbrev pub new_tree : List ℕ → JsonValue → Mapping → ℕ → Tree
new_tree id source m next = record { id = id; number = next; source = source; generation = length m.bodies }

abbrev pub put_source : Limits → Mapping → List ℕ → JsonValue → Option JsonValue → Option Tree → State → Answer
put_source limits m id source body live state = put_tree limits m body (new_tree id source (grown_by m body) state.content.next) live state

abbrev pub take_out : Limits → Mapping → List ℕ → State → Answer
take_out limits m id state =
    unless (full limits m (without id state.content.live) state.content.next ∷ [])
    (changed m id (without id state.content.live) [] Deleted state)

abbrev pub change : Limits → Mapping → List ℕ → Option JsonValue → Option Tree → State → Answer
change limits m id None live state = take_out limits m id state
change limits m id (Some source) live state = put_source limits m id source (added_body m source) live state

abbrev pub answered_or : Option Reply → State → Answer → Answer
answered_or None state answer = answer
answered_or (Some reply) state answer = answers reply state

-- an update leaves the source as it is
abbrev pub leaves_source : Operation → Option Tree → Bool
leaves_source (update changes) (Some tree) = is_same (merged changes.doc tree.source) tree.source
leaves_source operation live = false

abbrev pub change_or_nothing : Limits → Mapping → Write → Option Tree → State → Answer
change_or_nothing limits m it live state =
    answered_or (nothing_to_do (leaves_source it.operation live) it.target.id it.operation live) state
    (change limits m it.target.id (new_source it.operation live) live state)

abbrev pub write_by : Limits → Mapping → Write → Option Tree → State → Answer
write_by limits m it live state = refused_if (first_of (early_refusals m it (live_number live))) (change_or_nothing limits m it live state)

-- the live tree of the id is looked up once
unfoldable pub write_step : Limits → Mapping → Write → State → Answer
write_step limits m it state = write_by limits m it (live_tree it.target.id state.content.live) state
