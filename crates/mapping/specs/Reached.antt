-- How names lead from the root to the fields of a mapping.
use Rattle.std.specs.Prelude.{◌≡◌, ℕ, ◌<◌, ◌≤◌, true, List, [], length, Some}
use Rattle.std.specs.List.{All}
use Rattle.mapping_body.specs.Names.{lies_above, names_of}
use Rattle.mapping.specs.Mapping.{Mapping, field_at, field_named, scope_at}

-- Every field and every nested scope is reached from the root by names, at each of which a field stands that was added no
-- later.
pub record AreReached (m : Mapping) : Type 0 where
  -- the field at the path of a field is that field, and no name of the path is empty
  pub named : (f : ℕ) → f < length m.fields → field_named m (field_at m f).path ≡ Some f
  pub names : (f : ℕ) → f < length m.fields → All (λ (name : List ℕ). 0 < length name) (names_of (field_at m f).path)
  -- at each path above it there is a field
  pub above : (f : ℕ) (path : List ℕ) → f < length m.fields → lies_above [] path ≡ true → lies_above path (field_at m f).path ≡ true
      → (e : ℕ) × (e < length m.fields) × (field_named m path ≡ Some e) × ((field_at m e).since ≤ (field_at m f).since)
  -- and at the path of a nested scope
  pub scopes : (n : ℕ) → 0 < n → n < length m.scopes → (f : ℕ) × (f < length m.fields) × ((field_at m f).path ≡ (scope_at m n).path) × ((field_at m f).since ≤ (scope_at m n).since)
