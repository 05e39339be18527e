-- Rows of places and ordinals while they are made, and ids that are only ever added.
use Rattle.std.specs.Prelude.{ℕ, ◌≡◌, ◌<◌, List, length, map, slice_get, Option, None, Some, Vec}
use Rattle.segment.specs.Live.{EntryState}
use Rattle.join_ordinals.specs.Ordinals.{IsNumbered, flat, own_id, parent_id}
use Rattle.join_ordinals.specs.declared.rows.Whose.{Whose}
use Rattle.join_ordinals.specs.declared.rows.Whose.TheVariants.{Own, Parent}

-- the id that a row numbers
abbrev pub id_by : Whose → EntryState → ℕ → Option (List ℕ)
id_by Own = own_id
id_by Parent = parent_id

-- each id keeps its index
abbrev pub Keep : List (List ℕ) → List (List ℕ) → Type 0
Keep old new = (n : ℕ) (id : List ℕ) → slice_get old n ≡ Some id → slice_get new n ≡ Some id

-- rows of the code, as lists
abbrev pub rows_seen : {A : Type 0} → List (Vec (Option ℕ) A) → List (List (Option ℕ))
rows_seen {A} rows = map (λ (row : Vec (Option ℕ) A). row.items) rows

-- the number at a place
abbrev pub renumbered : List ℕ → Option ℕ → Option ℕ
renumbered numbers None = None
renumbered numbers (Some place) = slice_get numbers place

-- the places of the ids of an entry's roots so far
pub record IsRow (ids : List (List ℕ)) (id_of : ℕ → Option (List ℕ)) (row : List (Option ℕ)) : Type 0 where
  pub numbered : (root : ℕ) → root < length row → IsNumbered ids (id_of root) (flat (slice_get row root))
