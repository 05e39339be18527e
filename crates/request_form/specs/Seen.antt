-- How the Rust types of requests are seen.
use Rattle.std.specs.Prelude.{◌≡◌, ⊤, Option, Some, None, option_map}
use Rattle.tree_json.specs.Value.{JsonValue}
use Rattle.tree_json.specs.View.{view}
use Rattle.tree_json.specs.declared.reader.JsonRefusal.{JsonRefusal}
use Rattle.tree_json.specs.declared.reader.JsonRefusal.TheVariants as Json
use Rattle.tree_json.specs.Reading.{Reading}
use Rattle.line_reader.specs.Request.{SourceLine}
use Rattle.request_form.specs.Command.{Target, Changes, Operation, index, create, update, delete, Write, Action, map_body, write, search, refresh, segments, open_pit, close_pit, force_merge, start_merge, advance_merge, finish_merge, abort_merge, commit, compact, trim, automerge, Command, alone, indexes, creates, updates}
use Rattle.request_form.specs.Asked.{Asked, refused, asked_in, asked_by, SourceValue, no_value}
use Rattle.request_form.specs.declared.action.Target as DeclaredTarget
use Rattle.request_form.specs.declared.action.Changes as DeclaredChanges
use Rattle.request_form.specs.declared.action.Operation as DeclaredOperation
use Rattle.request_form.specs.declared.action.Operation.TheVariants as op
use Rattle.request_form.specs.declared.action.Write as DeclaredWrite
use Rattle.request_form.specs.declared.action.Action as DeclaredAction
use Rattle.request_form.specs.declared.action.Action.TheVariants as act
use Rattle.request_form.specs.declared.command.Command as DeclaredCommand
use Rattle.request_form.specs.declared.command.Command.TheVariants as line
use Rattle.request_form.specs.declared.request.NoAction.{NoAction}
use Rattle.request_form.specs.declared.request.NoAction.TheVariants.{Refused, NoMemory}
use Rattle.request_form.specs.declared.refusal.FormRefusal.TheVariants.{BadJson, FractionNumber}

abbrev pub target_view : DeclaredTarget.Target → Target
target_view target = record { id = target.id; index = target.index; if_seq_no = target.if_seq_no }

abbrev pub changes_view : DeclaredChanges.Changes → Changes
changes_view changes = record { doc = view changes.doc; upsert = option_map view changes.upsert; doc_as_upsert = changes.doc_as_upsert }

abbrev pub operation_view : DeclaredOperation.Operation → Operation
operation_view (op.Index source) = index (view source)
operation_view (op.Create source) = create (view source)
operation_view (op.Update changes) = update (changes_view changes)
operation_view op.Delete = delete

abbrev pub write_view : DeclaredWrite.Write → Write
write_view it = record { target = target_view it.target; operation = operation_view it.operation }

abbrev pub action_view : DeclaredAction.Action → Action
action_view (act.Mapping body) = map_body (view body)
action_view (act.Write it) = write (write_view it)
action_view (act.Search body) = search (view body)
action_view act.Refresh = refresh
action_view act.Segments = segments
action_view act.OpenPit = open_pit
action_view (act.ClosePit id) = close_pit id
action_view (act.ForceMerge most) = force_merge most
action_view (act.StartMerge from count) = start_merge from count
action_view (act.AdvanceMerge id roots) = advance_merge id roots
action_view (act.FinishMerge id) = finish_merge id
action_view (act.AbortMerge id) = abort_merge id
action_view act.Commit = commit
action_view (act.Compact moves) = compact moves
action_view act.Trim = trim
action_view (act.Automerge factor) = automerge factor

abbrev pub command_view : DeclaredCommand.Command → Command
command_view (line.Alone action) = alone (action_view action)
command_view (line.Indexes target) = indexes (target_view target)
command_view (line.Creates target) = creates (target_view target)
command_view (line.Updates target) = updates (target_view target)

abbrev pub no_action_of : JsonRefusal → NoAction
no_action_of Json.BadJson = Refused BadJson
no_action_of Json.FractionNumber = Refused FractionNumber
no_action_of Json.NoMemory = NoMemory

-- what was found first
abbrev pub first_there : Option JsonValue → Option JsonValue → Option JsonValue
first_there None later = later
first_there (Some v) later = Some v

-- where memory didn't run out, the request is refused so
abbrev pub IsRefused : Asked → NoAction → Type 0
IsRefused asked (Refused why) = asked ≡ refused why
IsRefused asked NoMemory = ⊤

-- where memory didn't run out, a source line has no value for this reason
abbrev pub HasNoValue : SourceValue → NoAction → Type 0
HasNoValue source (Refused why) = source ≡ no_value why
HasNoValue source NoMemory = ⊤

-- a first line that reads so asks what the command asks, or what no command asks
pub record AsksAs (line : Reading) (command : Option Command) : Type 0 where
  pub asks : (source : SourceLine) → asked_in line source ≡ asked_by command source

-- it is refused so, whatever its source line is
pub record IsRefusedFirst (line : Reading) (why : NoAction) : Type 0 where
  pub refuses : (source : SourceLine) → IsRefused (asked_in line source) why
