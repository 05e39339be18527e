-- The forms of requests as tables, after the bulk and search APIs of the Elasticsearch reference: which names the object of a
-- command has, whether each has to be there, and which values stand under it.
use Rattle.std.specs.Prelude.{ℕ, ℤ, pos, Bool, true, false, ◌&&◌, nat_lt, int_le, List, [], ◌∷◌, length, codes}
use Rattle.tree_json.specs.Value.{JsonValue, null, bool, whole, text, list, object, is_object}
use Rattle.request_form.specs.declared.form.Form.{Form}
use Rattle.request_form.specs.declared.form.Form.TheVariants.{Id, Text, Whole, Positive, One, Flag, Object, Factor, Moves}
use Rattle.request_form.specs.declared.form.Name.{Name}
use Rattle.request_form.specs.declared.form.Name.TheVariants.{Index, Create, Update, Delete, Mapping, Search, Refresh, Segments, OpenPit, ClosePit, ForceMerge, Merge, Commit, Compact, Trim, Automerge}
use Rattle.request_form.specs.declared.form.Presence.{Presence}
use Rattle.request_form.specs.declared.form.Presence.TheVariants.{Required, Optional}

-- ---- single values

-- a whole number from one to another
abbrev pub is_between : ℤ → ℤ → JsonValue → Bool
is_between least most null = false
is_between least most (bool b) = false
is_between least most (whole z) = int_le least z && int_le z most
is_between least most (text s) = false
is_between least most (list ds) = false
is_between least most (object ms) = false

-- a whole number from this one on
abbrev pub is_from : ℤ → JsonValue → Bool
is_from least null = false
is_from least (bool b) = false
is_from least (whole z) = int_le least z
is_from least (text s) = false
is_from least (list ds) = false
is_from least (object ms) = false

abbrev pub is_text : JsonValue → Bool
is_text null = false
is_text (bool b) = false
is_text (whole z) = false
is_text (text s) = true
is_text (list ds) = false
is_text (object ms) = false

abbrev pub is_flag : JsonValue → Bool
is_flag null = false
is_flag (bool b) = true
is_flag (whole z) = false
is_flag (text s) = false
is_flag (list ds) = false
is_flag (object ms) = false

-- an id is a text that isn't empty, or a whole number from 0 on
abbrev pub is_id : JsonValue → Bool
is_id null = false
is_id (bool b) = false
is_id (whole z) = int_le (pos 0) z
is_id (text s) = nat_lt 0 (length s)
is_id (list ds) = false
is_id (object ms) = false

-- whether a value has a form
abbrev pub takes : Form → JsonValue → Bool
takes Id v = is_id v
takes Text v = is_text v
takes Whole v = is_from (pos 0) v
takes Positive v = is_from (pos 1) v
takes One v = is_between (pos 1) (pos 1) v
takes Flag v = is_flag v
takes Object v = is_object v
takes Factor v = is_between (pos 2) (pos 10) v
takes Moves v = is_between (pos 1) (pos 1000) v

-- ---- the names of objects

-- `create` puts a tree where its id is free, so it names no sequence number
abbrev pub create_lines : List (List ℕ × Presence × Form)
create_lines =
    (codes "_id", Required, Id)
    ∷ (codes "_index", Optional, Text)
    ∷ (codes "routing", Optional, Text)
    ∷ (codes "if_primary_term", Optional, One) ∷ []

abbrev pub write_lines : List (List ℕ × Presence × Form)
write_lines = (codes "if_seq_no", Optional, Whole) ∷ create_lines

abbrev pub close_pit_lines : List (List ℕ × Presence × Form)
close_pit_lines = (codes "id", Required, Whole) ∷ []

abbrev pub force_merge_lines : List (List ℕ × Presence × Form)
force_merge_lines = (codes "max_num_segments", Optional, Positive) ∷ []

-- of these one is there
abbrev pub merge_lines : List (List ℕ × Presence × Form)
merge_lines =
    (codes "start", Optional, Object)
    ∷ (codes "advance", Optional, Object)
    ∷ (codes "finish", Optional, Object)
    ∷ (codes "abort", Optional, Object) ∷ []

abbrev pub start_lines : List (List ℕ × Presence × Form)
start_lines = (codes "from", Required, Whole) ∷ (codes "count", Required, Whole) ∷ []

abbrev pub advance_lines : List (List ℕ × Presence × Form)
advance_lines = (codes "id", Required, Whole) ∷ (codes "roots", Required, Whole) ∷ []

abbrev pub merge_id_lines : List (List ℕ × Presence × Form)
merge_id_lines = (codes "id", Required, Whole) ∷ []

abbrev pub compact_lines : List (List ℕ × Presence × Form)
compact_lines = (codes "moves", Optional, Moves) ∷ []

abbrev pub automerge_lines : List (List ℕ × Presence × Form)
automerge_lines = (codes "on", Required, Flag) ∷ (codes "factor", Optional, Factor) ∷ []

-- the source line of `update`
abbrev pub update_lines : List (List ℕ × Presence × Form)
update_lines = (codes "doc", Required, Object) ∷ (codes "upsert", Optional, Object) ∷ (codes "doc_as_upsert", Optional, Flag) ∷ []

-- ---- the names of commands

abbrev pub names : List (List ℕ × Name)
names =
    (codes "index", Index)
    ∷ (codes "create", Create)
    ∷ (codes "update", Update)
    ∷ (codes "delete", Delete)
    ∷ (codes "mapping", Mapping)
    ∷ (codes "search", Search)
    ∷ (codes "refresh", Refresh)
    ∷ (codes "segments", Segments)
    ∷ (codes "open_pit", OpenPit)
    ∷ (codes "close_pit", ClosePit)
    ∷ (codes "forcemerge", ForceMerge)
    ∷ (codes "merge", Merge)
    ∷ (codes "commit", Commit)
    ∷ (codes "compact", Compact)
    ∷ (codes "trim", Trim)
    ∷ (codes "automerge", Automerge) ∷ []
