-- The tree of scopes: the root is scope 0, and each nested path is a scope inside the one around it.
use Rattle.std.specs.Prelude.{◌≡◌, ◌==◌, ℕ, ◌<◌, zero, suc, Bool, false, ◌||◌, List, length, slice_index_or, Option, None, IsSomeAnd}
use Rattle.std.specs.Option.{option_map_or}

-- the scope around a scope; the root has none
abbrev pub enclosing : List (Option ℕ) → ℕ → Option ℕ
enclosing parents scope = slice_index_or parents scope None

-- the root alone has no scope around it, and the scope around any other has a smaller number
pub record IsScopeTree (parents : List (Option ℕ)) : Type 0 where
  pub root : enclosing parents 0 ≡ None
  pub nested : (scope : ℕ) → 0 < scope → scope < length parents → IsSomeAnd (enclosing parents scope) (λ outer. outer < scope)

-- whether `upper` is met within so many steps outwards from `lower`
abbrev pub is_above_within : List (Option ℕ) → ℕ → ℕ → ℕ → Bool
is_above_within parents zero upper lower = false
is_above_within parents (suc steps) upper lower =
    option_map_or (λ outer. (outer == upper) || is_above_within parents steps upper outer) (enclosing parents lower) false

-- Whether `upper` lies strictly above `lower`: it is the scope around it, or lies above that one.
-- Numbers fall on the way outwards, so that no way has more steps than `lower`.
abbrev pub is_above : List (Option ℕ) → ℕ → ℕ → Bool
is_above parents upper lower = is_above_within parents lower upper lower
