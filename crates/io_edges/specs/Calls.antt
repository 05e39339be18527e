-- The calls of an object in memory, by their numbers from 0.
use Rattle.std.specs.Prelude.{ℕ, ◌+◌, ◌==◌, min, Bool, List}
use Rattle.std.specs.List.{list_any}
use Rattle.io_edges.specs.Faults.{greatest_count}

-- the call of this number is one of those that are to fail
abbrev pub is_listed : List ℕ → ℕ → Bool
is_listed fails call = list_any (λ listed. listed == call) fails

-- one more, as a u64 counts that stays at its greatest number
abbrev pub one_more : ℕ → ℕ
one_more count = min (count + 1) greatest_count
