-- The scope of each document, as the bits of the scopes show it.
use Rattle.std.specs.Prelude.{◌≡◌, ℕ, ◌^◌, ◌<◌, Some, Bool, false, List, [], length, map, slice_index_or, Option}
use Rattle.std.specs.List.{position_or_len, range_with_len}
use Rattle.block_bits.specs.Scopes.{IsScopeTree, enclosing}
use Rattle.block_bits.specs.Blocks.{AreBits, EnclosesAt, IsBlocks, scope_at}

-- the first scope that has the document
unfoldable pub scope_seen : List (List Bool) → ℕ → ℕ
scope_seen bits doc = position_or_len (λ set. slice_index_or set doc false) bits

-- the scope of each document; scope 0 has a flag for each
unfoldable pub scopes_seen : List (List Bool) → List ℕ
scopes_seen bits = map (scope_seen bits) (range_with_len 0 (length (slice_index_or bits 0 [])))

-- the part of being blocks that speaks of the documents of one scope
pub record IsEnclosed (parents : List (Option ℕ)) (scopes : List ℕ) (scope : ℕ) : Type 0 where
  pub enclosed : (doc outer : ℕ) → doc < length scopes → scope_at scopes doc ≡ scope → enclosing parents scope ≡ Some outer
      → (at : ℕ) × EnclosesAt parents scopes doc outer at

-- the scopes are a tree, and the bits give each document, numbered by u32, one of them
pub record AreScopes (parents : List (Option ℕ)) (bits : List (List Bool)) : Type 0 where
  pub tree : IsScopeTree parents
  pub long : length bits ≡ length parents
  pub bits_are : AreBits (length parents) bits (scopes_seen bits)
  pub small : length (scopes_seen bits) < 2 ^ 32

-- and the documents are blocks
pub record IsNested (parents : List (Option ℕ)) (bits : List (List Bool)) : Type 0 where
  pub scopes : AreScopes parents bits
  pub blocks : IsBlocks parents (scopes_seen bits)
