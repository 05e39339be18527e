-- Serves proofs: the best of values of one type.
use Rattle.std.specs.Prelude.{ℕ, Bool, List, [], ◌∷◌, Option, Some, None}
use Rattle.std.specs.List.{best_of}
use Rattle.std.specs.Ordering.{nat_cmp, is_lt}
use Rattle.std.specs.declared.cmp.Ordering.{Ordering}
use Rattle.query_ast.specs.declared.sort.SortMode.{SortMode}
use Rattle.query_ast.specs.declared.sort.SortMode.TheVariants.{Min, Max, Sum, Avg, Median}

module _ {A : Type 0} where
  abbrev pub is_before : (A → A → Ordering) → A → A → Bool
  is_before cmp a b = is_lt (cmp a b)

  abbrev pub is_behind : (A → A → Ordering) → A → A → Bool
  is_behind cmp a b = is_lt (cmp b a)

  abbrev pub best : (A → A → Bool) → List A → Option A
  best beats [] = None
  best beats (x ∷ xs) = Some (best_of beats x xs)

-- the ordinal that stands for several
abbrev pub ordinal_by : SortMode → List ℕ → Option ℕ
ordinal_by Min ordinals = best (is_before nat_cmp) ordinals
ordinal_by Max ordinals = best (is_behind nat_cmp) ordinals
ordinal_by Sum ordinals = best (is_before nat_cmp) ordinals
ordinal_by Avg ordinals = best (is_before nat_cmp) ordinals
ordinal_by Median ordinals = best (is_before nat_cmp) ordinals
