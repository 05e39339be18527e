-- How the scopes and the fields of a mapping stand to one another: what proofs about the objects of a tree ask of it.
use Rattle.std.specs.Prelude.{ℕ, ◌-◌, ◌<◌, ◌≤◌, ◌≡◌, true, false, List, length, map, Some}
use Rattle.std.specs.List.{range_with_len}
use Rattle.std.specs.List.Sorted.{IsPermutation}
use Rattle.mapping_body.specs.Names.{AreAscending, lies_above, names_between}
use Rattle.mapping.specs.Mapping.{Mapping, field_at, field_named, kind_at, relation_at, scope_at, home_of, outer, root_scope, IsAbove}
use Rattle.mapping_body.specs.declared.kind.Kind.TheVariants.{Nested}
use Rattle.mapping_growth.specs.Relations.{IsAncestor}

-- of the scopes that lie above a path, the nearest: no other lies between
pub record IsNearestAbove (m : Mapping) (path : List ℕ) (scope : ℕ) : Type 0 where
  pub in_range : scope < length m.scopes
  pub above : lies_above (scope_at m scope).path path ≡ true
  pub none_between : (other : ℕ) → IsAbove m scope other → lies_above (scope_at m other).path path ≡ false

-- What holds of the scopes and the fields of every mapping that was read.
pub record IsMapping (m : Mapping) : Type 0 where
  -- scope 0 is the root, and no two scopes have the same path
  pub root : scope_at m 0 ≡ root_scope
  pub some : 0 < length m.scopes
  pub distinct : (a b : ℕ) → a < length m.scopes → b < length m.scopes → (scope_at m a).path ≡ (scope_at m b).path → a ≡ b
  -- around a nested path is the nearest scope above it, which has a smaller number, and the names lead from there
  pub around : (n : ℕ) → 0 < n → n < length m.scopes → IsNearestAbove m (scope_at m n).path (outer m n)
  pub behind : (n : ℕ) → 0 < n → outer m n < n
  pub names : (n : ℕ) → n < length m.scopes → (scope_at m n).names ≡ names_between (scope_at m (outer m n)).path (scope_at m n).path
  -- the home of a field is the nearest scope above it
  pub home : (f : ℕ) → f < length m.fields → IsNearestAbove m (field_at m f).path (home_of m f)
  -- no scope and no field was added before the scope around it, nor after the last body
  pub since : (n : ℕ) → 0 < n → n < length m.scopes → (scope_at m (outer m n)).since ≤ (scope_at m n).since
  pub known : (f : ℕ) → f < length m.fields → (scope_at m (home_of m f)).since ≤ (field_at m f).since
  pub scope_added : (n : ℕ) → n < length m.scopes → (scope_at m n).since ≤ length m.bodies
  pub field_added : (f : ℕ) → f < length m.fields → (field_at m f).since ≤ length m.bodies
  -- the order has the number of each nested path once, by the byte order of the paths
  pub numbers : IsPermutation (range_with_len 1 (length m.scopes - 1)) m.order
  pub ascending : AreAscending (map (λ n. (scope_at m n).path) m.order)
  -- a scope is nested exactly where a field of kind nested has its path
  pub has_field : (n : ℕ) → 0 < n → n < length m.scopes → (f : ℕ) × (f < length m.fields) × (field_named m (scope_at m n).path ≡ Some f) × (kind_at m f ≡ Nested)
  pub has_scope : (f : ℕ) → f < length m.fields → kind_at m f ≡ Nested → (n : ℕ) × (0 < n) × (n < length m.scopes) × ((scope_at m n).path ≡ (field_at m f).path)
  -- a parent is a relation of the mapping, and none is its own ancestor
  pub parents : (r p : ℕ) → (relation_at m r).parent ≡ Some p → p < length m.relations
  pub founded : (r : ℕ) → IsAncestor m.relations r r → ⊥
