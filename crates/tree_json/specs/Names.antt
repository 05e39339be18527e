-- The order of an object's names.
use Rattle.std.specs.Prelude.{ℕ, List, map}
use Rattle.std.specs.Ordering.{nat_cmp}
use Rattle.std.specs.Cmp.Lexicographic.{slice_cmp}
use Rattle.std.specs.List.Sorted.{IsStrictlySortedBy}
use Rattle.tree_json.specs.Value.{JsonValue}

-- the names strictly ascend in byte order, so that no name comes twice
abbrev pub IsAscending : List (List ℕ × JsonValue) → Type 0
IsAscending ms = IsStrictlySortedBy (slice_cmp nat_cmp) (map (λ m. m.0) ms)
