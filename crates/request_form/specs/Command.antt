-- What a first line says: a command, whole or still without its source. The form is judged without the state.
use Rattle.std.specs.Prelude.{ℕ, nat_abs, Bool, false, if◌then◌else◌, List, [], ◌∷◌, codes, Option, Some, None, option_map, option_and_then, unwrap_or}
use Rattle.std.specs.Fmt.{signed_decimal}
use Rattle.std.specs.Str.{bytes_eq}
use Rattle.tree_json.specs.Value.{JsonValue, null, bool, whole, text, list, object, Members, member_of}
use Rattle.search_form.specs.Form.{is_search_body}
use Rattle.request_form.specs.declared.form.Name.{Name}
use Rattle.request_form.specs.declared.form.Name.TheVariants.{Index, Create, Update, Delete, Mapping, Search, Refresh, Segments, OpenPit, ClosePit, ForceMerge, Merge, Commit, Compact, Trim, Automerge}
use Rattle.request_form.specs.Form.{has_lines, single_of, members_in}
use Rattle.request_form.specs.Table.{names, create_lines, write_lines, close_pit_lines, force_merge_lines, start_lines, advance_lines, merge_id_lines, compact_lines, automerge_lines}

-- the tree that a write is about: its id, the index that is named, and the sequence number that it has to have
pub record Target : Type 0 where
  pub id : List ℕ
  pub index : Option (List ℕ)
  pub if_seq_no : Option ℕ

-- the source line of an update: what is merged into the tree, what is put where there is none, and whether `doc` is
pub record Changes : Type 0 where
  pub doc : JsonValue
  pub upsert : Option JsonValue
  pub doc_as_upsert : Bool

-- what is done to a tree
pub data Operation : Type 0 where
  index : JsonValue → Operation
  create : JsonValue → Operation
  update : Changes → Operation
  delete : Operation

pub record Write : Type 0 where
  pub target : Target
  pub operation : Operation

-- what is asked for
pub data Action : Type 0 where
  map_body : JsonValue → Action
  write : Write → Action
  search : JsonValue → Action
  refresh : Action
  segments : Action
  open_pit : Action
  close_pit : ℕ → Action
  force_merge : ℕ → Action
  start_merge : ℕ → ℕ → Action
  advance_merge : ℕ → ℕ → Action
  finish_merge : ℕ → Action
  abort_merge : ℕ → Action
  commit : Action
  compact : ℕ → Action
  trim : Action
  automerge : Option ℕ → Action

-- a command that stands alone, or one that still lacks its source line
pub data Command : Type 0 where
  alone : Action → Command
  indexes : Target → Command
  creates : Target → Command
  updates : Target → Command

-- ---- values under names, in objects of a form

abbrev pub id_by : JsonValue → List ℕ
id_by null = []
id_by (bool b) = []
id_by (whole z) = signed_decimal z
id_by (text s) = s
id_by (list ds) = []
id_by (object ms) = []

abbrev pub text_by : JsonValue → Option (List ℕ)
text_by null = None
text_by (bool b) = None
text_by (whole z) = None
text_by (text s) = Some s
text_by (list ds) = None
text_by (object ms) = None

abbrev pub number_by : JsonValue → Option ℕ
number_by null = None
number_by (bool b) = None
number_by (whole z) = Some (nat_abs z)
number_by (text s) = None
number_by (list ds) = None
number_by (object ms) = None

abbrev pub flag_by : JsonValue → Bool
flag_by null = false
flag_by (bool b) = b
flag_by (whole z) = false
flag_by (text s) = false
flag_by (list ds) = false
flag_by (object ms) = false

-- the id: a text, or the digits of a whole number
abbrev pub id_in : Option JsonValue → List ℕ
id_in None = []
id_in (Some v) = id_by v

abbrev pub text_under : Members → List ℕ → Option (List ℕ)
text_under ms name = option_and_then text_by (member_of ms name)

abbrev pub number_under : Members → List ℕ → Option ℕ
number_under ms name = option_and_then number_by (member_of ms name)

-- a number that is left out has a default
abbrev pub number_or : ℕ → Members → List ℕ → ℕ
number_or default ms name = unwrap_or (number_under ms name) default

abbrev pub flag_in : Option JsonValue → Bool
flag_in None = false
flag_in (Some v) = flag_by v

-- ---- commands

abbrev pub target_of : Members → Target
target_of ms = record {
  id = id_in (member_of ms (codes "_id"));
  index = text_under ms (codes "_index");
  if_seq_no = number_under ms (codes "if_seq_no");
}

abbrev pub if_formed : {A : Type 0} → Bool → A → Option A
if_formed {A} formed it = if formed then Some it else None

abbrev pub delete_of : Target → Action
delete_of target = write (record { target = target; operation = delete })

abbrev pub start_of : Members → Action
start_of ms = start_merge (number_or 0 ms (codes "from")) (number_or 0 ms (codes "count"))

abbrev pub advance_of : Members → Action
advance_of ms = advance_merge (number_or 0 ms (codes "id")) (number_or 0 ms (codes "roots"))

-- one part of a merge, by its name
abbrev pub part_of : List ℕ → Members → Option Action
part_of name ms =
    if bytes_eq name (codes "start") then if_formed (has_lines start_lines ms) (start_of ms)
    else (if bytes_eq name (codes "advance") then if_formed (has_lines advance_lines ms) (advance_of ms)
    else (if bytes_eq name (codes "finish") then if_formed (has_lines merge_id_lines ms) (finish_merge (number_or 0 ms (codes "id")))
    else (if bytes_eq name (codes "abort") then if_formed (has_lines merge_id_lines ms) (abort_merge (number_or 0 ms (codes "id")))
    else None)))

abbrev pub part_in : Option (List ℕ × JsonValue) → Option Action
part_in None = None
part_in (Some it) = option_and_then (part_of it.0) (members_in it.1)

-- one segment is moved, where it isn't said how many
abbrev pub compact_of : Members → Action
compact_of ms = compact (number_or 1 ms (codes "moves"))

-- a factor that is left out is 2
abbrev pub automerge_of : Members → Action
automerge_of ms = automerge (if flag_in (member_of ms (codes "on")) then Some (number_or 2 ms (codes "factor")) else None)

-- the command of a name, with the object that stands under it
abbrev pub command_by : Name → Members → Option Command
command_by Index ms = if_formed (has_lines write_lines ms) (indexes (target_of ms))
command_by Create ms = if_formed (has_lines create_lines ms) (creates (target_of ms))
command_by Update ms = if_formed (has_lines write_lines ms) (updates (target_of ms))
command_by Delete ms = if_formed (has_lines write_lines ms) (alone (delete_of (target_of ms)))
command_by Mapping ms = Some (alone (map_body (object ms)))
command_by Search ms = if_formed (is_search_body (object ms)) (alone (search (object ms)))
command_by Refresh ms = if_formed (has_lines [] ms) (alone refresh)
command_by Segments ms = if_formed (has_lines [] ms) (alone segments)
command_by OpenPit ms = if_formed (has_lines [] ms) (alone open_pit)
command_by ClosePit ms = if_formed (has_lines close_pit_lines ms) (alone (close_pit (number_or 0 ms (codes "id"))))
command_by ForceMerge ms = if_formed (has_lines force_merge_lines ms) (alone (force_merge (number_or 1 ms (codes "max_num_segments"))))
command_by Merge ms = option_map alone (part_in (single_of ms))
command_by Commit ms = if_formed (has_lines [] ms) (alone commit)
command_by Compact ms = if_formed (has_lines compact_lines ms) (alone (compact_of ms))
command_by Trim ms = if_formed (has_lines [] ms) (alone trim)
command_by Automerge ms = if_formed (has_lines automerge_lines ms) (alone (automerge_of ms))

abbrev pub name_among : List ℕ → List (List ℕ × Name) → Option Name
name_among word [] = None
name_among word (known ∷ rest) = if bytes_eq word known.0 then Some known.1 else name_among word rest

abbrev pub command_under : Members → Option Name → Option Command
command_under ms None = None
command_under ms (Some name) = command_by name ms

abbrev pub command_named : List ℕ → Members → Option Command
command_named word ms = command_under ms (name_among word names)

abbrev pub command_in : Option (List ℕ × JsonValue) → Option Command
command_in None = None
command_in (Some it) = option_and_then (command_named it.0) (members_in it.1)

-- a first line is an object with one name, the command's, and an object under it
unfoldable pub command_of : JsonValue → Option Command
command_of v = command_in (option_and_then single_of (members_in v))
