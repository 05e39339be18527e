-- Numbers in byte order of the names that they stand for.
use Rattle.std.specs.Prelude.{ℕ, ◌≡◌, ◌-◌, ◌<◌, ◌≤◌, List, [], length, map, get_or}
use Rattle.std.specs.List.{All, Contains, range_with_len}
use Rattle.mapping_body.specs.Names.{in_byte_order, AreAscending}

abbrev pub name_at : List (List ℕ) → ℕ → List ℕ
name_at names n = get_or names n []

-- the numbers of names from one on, in byte order of the names
abbrev pub order_from : ℕ → List (List ℕ) → List ℕ
order_from first names = in_byte_order (name_at names) (range_with_len first (length names - first))

-- no two numbers stand for the same name
abbrev pub AreDistinct : List (List ℕ) → Type 0
AreDistinct names = (a b : ℕ) → a < length names → b < length names → name_at names a ≡ name_at names b → a ≡ b

-- each number from one on is there, by ascending names
pub record IsOrderFrom (first : ℕ) (names : List (List ℕ)) (order : List ℕ) : Type 0 where
  pub ascending : AreAscending (map (name_at names) order)
  pub in_range : All (λ (n : ℕ). n < length names) order
  pub covers : (n : ℕ) → first ≤ n → n < length names → Contains order n
  pub distinct : AreDistinct names
