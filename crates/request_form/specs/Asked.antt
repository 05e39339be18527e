-- What a request asks for: an action, or the refusal of what hasn't the form of one.
use Rattle.std.specs.Prelude.{Bool, ◌&&◌, ◌||◌, not, if◌then◌else◌, codes, Option, Some, None, is_some, unwrap_or}
use Rattle.tree_json.specs.Value.{JsonValue, null, Members, member_of, is_object}
use Rattle.tree_json.specs.Reading.{Reading, reading, bad_json, fraction, value}
use Rattle.line_reader.specs.Request.{ReadLine, in_full, too_long, SourceLine, not_taken, missing, given}
use Rattle.request_form.specs.declared.refusal.FormRefusal.{FormRefusal}
use Rattle.request_form.specs.declared.refusal.FormRefusal.TheVariants.{BadJson, FractionNumber, LineTooLong, BadRequest, MissingSource}
use Rattle.request_form.specs.Form.{has_lines, members_in}
use Rattle.request_form.specs.Table.{update_lines}
use Rattle.request_form.specs.Command.{Target, Changes, Operation, index, create, update, Action, write, Command, alone, indexes, creates, updates, flag_in, command_of}

pub data Asked : Type 0 where
  refused : FormRefusal → Asked
  asks : Action → Asked

abbrev pub asks_or_bad : Option Operation → Target → Asked
asks_or_bad None target = refused BadRequest
asks_or_bad (Some operation) target = asks (write (record { target = target; operation = operation }))

-- the source of an update is named `doc`, and one for the case that there is no tree `upsert`
abbrev pub changes_of : Members → Changes
changes_of ms = record {
  doc = unwrap_or (member_of ms (codes "doc")) null;
  upsert = member_of ms (codes "upsert");
  doc_as_upsert = flag_in (member_of ms (codes "doc_as_upsert"));
}

-- an update that wants a tree of a number puts none where there is none
abbrev pub is_at_odds : Target → Changes → Bool
is_at_odds target changes = is_some target.if_seq_no && (is_some changes.upsert || changes.doc_as_upsert)

abbrev pub update_in : Target → Option Members → Option Operation
update_in target None = None
update_in target (Some ms) = if has_lines update_lines ms && not (is_at_odds target (changes_of ms)) then Some (update (changes_of ms)) else None

-- the operation of a source line, which is an object
abbrev pub operation_of : Command → JsonValue → Option Operation
operation_of (alone action) v = None
operation_of (indexes target) v = if is_object v then Some (index v) else None
operation_of (creates target) v = if is_object v then Some (create v) else None
operation_of (updates target) v = update_in target (members_in v)

-- the value of a source line, or why there is none
pub data SourceValue : Type 0 where
  no_value : FormRefusal → SourceValue
  is_value : JsonValue → SourceValue

abbrev pub value_in : Reading → SourceValue
value_in bad_json = no_value BadJson
value_in fraction = no_value FractionNumber
value_in (value v) = is_value v

abbrev pub value_of : SourceLine → SourceValue
value_of not_taken = no_value BadRequest
value_of missing = no_value MissingSource
value_of (given too_long) = no_value LineTooLong
value_of (given (in_full bytes)) = value_in (reading bytes)

abbrev pub sourced : Command → Target → SourceValue → Asked
sourced command target (no_value why) = refused why
sourced command target (is_value v) = asks_or_bad (operation_of command v) target

abbrev pub asked_by : Option Command → SourceLine → Asked
asked_by None source = refused BadRequest
asked_by (Some (alone action)) source = asks action
asked_by (Some (indexes target)) source = sourced (indexes target) target (value_of source)
asked_by (Some (creates target)) source = sourced (creates target) target (value_of source)
asked_by (Some (updates target)) source = sourced (updates target) target (value_of source)

abbrev pub asked_in : Reading → SourceLine → Asked
asked_in bad_json source = refused BadJson
asked_in fraction source = refused FractionNumber
asked_in (value v) source = asked_by (command_of v) source

-- The first line's refusals come before those of the source line: too long, no JSON, a fraction, a form that isn't met.
unfoldable pub asked_of : ReadLine → SourceLine → Asked
asked_of too_long source = refused LineTooLong
asked_of (in_full bytes) source = asked_in (reading bytes) source
