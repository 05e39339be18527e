-- Points in time: the entries of a view each, under ids.
use Rattle.std.specs.Prelude.{ℕ, ◌+◌, ◌≤◌, ◌==◌, nat_le, not, Bool, List, [], ◌∷◌, ◌++◌, length, filter, find, Option}
use Rattle.std.specs.List.{AllByRecursion, list_any}
use Rattle.std.specs.Option.{option_map}
use Rattle.segment.specs.Live.{EntryState}

-- a point in time: its id, and the entries that it was opened on
pub record KeptPoint : Type 0 where
  pub id : ℕ
  pub entries : List EntryState

-- those that are open, in the order in which they were opened, and how many were opened
pub record KeptPoints : Type 0 where
  pub points : List KeptPoint
  pub opened : ℕ

abbrev pub no_points : KeptPoints
no_points = record { points = []; opened = 0 }

-- the most that may be open
abbrev pub most_open : ℕ
most_open = 500

abbrev pub is_full : KeptPoints → Bool
is_full kept = nat_le most_open (length kept.points)

abbrev pub has_point_id : ℕ → KeptPoint → Bool
has_point_id id point = point.id == id

abbrev pub is_open : ℕ → List KeptPoint → Bool
is_open id points = list_any (has_point_id id) points

abbrev pub entries_at : KeptPoint → List EntryState
entries_at point = point.entries

-- the entries of the point in time with an id
abbrev pub entries_under : ℕ → List KeptPoint → Option (List EntryState)
entries_under id points = option_map entries_at (find (has_point_id id) points)

-- one more is opened, under the next id
abbrev pub with_point : List EntryState → KeptPoints → KeptPoints
with_point entries kept = record { points = kept.points ++ record { id = kept.opened + 1; entries = entries } ∷ []; opened = kept.opened + 1 }

abbrev pub is_other : ℕ → KeptPoint → Bool
is_other id point = not (has_point_id id point)

-- one is closed
abbrev pub without_point : ℕ → KeptPoints → KeptPoints
without_point id kept = record { points = filter (is_other id) kept.points; opened = kept.opened }

-- what is so at all times: no id is beyond those that were opened, and not too many are open
pub record ArePoints (kept : KeptPoints) : Type 0 where
  pub ids : AllByRecursion (λ (point : KeptPoint). point.id ≤ kept.opened) kept.points
  pub few : length kept.points ≤ most_open

-- an entry of the map as a point in time
abbrev pub point_of : ℕ × List EntryState → KeptPoint
point_of entry = record { id = entry.0; entries = entry.1 }
