-- What holds of every write that is asked for: its id has a byte or more, and its sources are objects that nest no deeper
-- than what is read. And what holds of every factor by which segments are to be merged, and of how many are to be moved.
use Rattle.std.specs.Prelude.{◌≡◌, ◌≤◌, ℕ, true, length, IfSome}
use Rattle.tree_json.specs.Levels.{levels, most_levels}
use Rattle.tree_json.specs.Value.{JsonValue, is_object}
use Rattle.request_form.specs.Command.{Operation, index, create, update, delete, Write}

abbrev pub IsSourceValue : JsonValue → Type 0
IsSourceValue v = (is_object v ≡ true) × (levels v ≤ most_levels)

abbrev pub HasSources : Operation → Type 0
HasSources (index source) = IsSourceValue source
HasSources (create source) = IsSourceValue source
HasSources (update changes) = IsSourceValue changes.doc × IfSome changes.upsert IsSourceValue
HasSources delete = Unit {0}

pub record IsFormed (it : Write) : Type 0 where
  pub id : 1 ≤ length it.target.id
  pub sources : HasSources it.operation

abbrev pub IsFactor : ℕ → Type 0
IsFactor factor = (2 ≤ factor) × (factor ≤ 10)

abbrev pub AreMoves : ℕ → Type 0
AreMoves moves = (1 ≤ moves) × (moves ≤ 1000)
