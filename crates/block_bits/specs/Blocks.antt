-- Blocks: the documents of a tree's objects, each object after the objects inside it, the root last.
use Rattle.std.specs.Prelude.{◌≡◌, ◌==◌, ℕ, ◌+◌, ◌<◌, Bool, false, List, length, map, slice_index, Option, Some, None, if◌then◌else◌}
use Rattle.std.specs.List.{All, range_with_len}
use Rattle.std.specs.Option.{option_map_or}
use Rattle.block_bits.specs.Places.{next_place, previous_place}
use Rattle.block_bits.specs.Scopes.{enclosing, is_above}

-- which scope lies around which, and the scope of each document
pub record Nesting : Type 0 where
  pub parents : List (Option ℕ)
  pub scopes : List ℕ

-- the scope of a document
abbrev pub scope_at : List ℕ → ℕ → ℕ
scope_at scopes doc = slice_index scopes doc

abbrev pub has_scope : ℕ → ℕ → Bool
has_scope scope other = other == scope

-- the documents of a scope, one flag a document
abbrev pub documents_of : List ℕ → ℕ → List Bool
documents_of scopes scope = map (has_scope scope) scopes

-- the bits of each of so many scopes are exactly its documents, and each document has one of these scopes
pub record AreBits (count : ℕ) (bits : List (List Bool)) (scopes : List ℕ) : Type 0 where
  pub sets : bits ≡ map (documents_of scopes) (range_with_len 0 count)
  pub in_range : All (λ scope. scope < count) scopes

-- so many documents, each of exactly one scope
abbrev pub HaveOneScope : ℕ → List (List Bool) → Type 0
HaveOneScope count bits = (scopes : List ℕ) × AreBits (length bits) bits scopes × (length scopes ≡ count)

-- a later document of the scope `outer`, with no document of a scope above `outer` on the way
pub record EnclosesAt (parents : List (Option ℕ)) (scopes : List ℕ) (doc outer at : ℕ) : Type 0 where
  pub later : doc < at
  pub within : at < length scopes
  pub of_outer : scope_at scopes at ≡ outer
  pub first : (between : ℕ) → doc < between → between < at → is_above parents (scope_at scopes between) outer ≡ false

-- The documents are a list of blocks: each has, after it, a document of the scope around its own before any
-- document of a scope above that one, and the last document is a root.
pub record IsBlocks (parents : List (Option ℕ)) (scopes : List ℕ) : Type 0 where
  pub enclosed : (doc outer : ℕ) → doc < length scopes → enclosing parents (scope_at scopes doc) ≡ Some outer
      → (at : ℕ) × EnclosesAt parents scopes doc outer at
  pub last : (doc : ℕ) → doc + 1 ≡ length scopes → scope_at scopes doc ≡ 0

-- the document of the object at `scope` around a document, for a scope strictly above the document's own
abbrev pub enclosing_document : Nesting → ℕ → ℕ → Option ℕ
enclosing_document nesting doc scope =
    if is_above nesting.parents scope (scope_at nesting.scopes doc)
    then next_place (has_scope scope) (doc + 1) nesting.scopes
    else None

-- the document after the previous one of that scope, or 0: where the documents inside `parent` begin
abbrev pub child_start : Nesting → ℕ → ℕ → ℕ
child_start nesting parent scope = option_map_or (λ previous. previous + 1) (previous_place (has_scope scope) parent nesting.scopes) 0
