-- Which documents of a segment are live.
use Rattle.std.specs.Prelude.{◌≡◌, ℕ, ◌+◌, ◌-◌, ◌==◌, Bool, true, false, List, length, map, take, count_by, slice_index, slice_index_or, slice_set, if◌then◌else◌}
use Rattle.std.specs.List.{range_with_len}
use Rattle.block_bits.specs.Flags.{is_marked, cleared}
use Rattle.segment_parts.specs.Parts.{root_flags}
use Rattle.segment.specs.Roots.{root_documents}
use Rattle.segment_parts.specs.declared.columns.Columns.{Columns}

-- the live documents and the live roots, one flag each
pub record LiveState : Type 0 where
  pub docs : List Bool
  pub roots : List Bool

-- a segment under its id, with its live bits
pub record EntryState : Type 0 where
  pub id : ℕ
  pub columns : Columns
  pub live : LiveState

-- the root of a document's block: as many roots come before the document
abbrev pub root_of : List Bool → ℕ → ℕ
root_of flags doc = count_by is_marked (take doc flags)

-- a document is live exactly where the root of its block is
unfoldable pub live_docs : List Bool → List Bool → List Bool
live_docs flags roots = map (λ doc. slice_index_or roots (root_of flags doc) true) (range_with_len 0 (length flags))

-- live bits of a segment's documents and roots
pub record IsLiveOver (columns : Columns) (live : LiveState) : Type 0 where
  pub roots : length live.roots ≡ length columns.roots
  pub documents : length live.docs ≡ columns.documents
  pub docs : live.docs ≡ live_docs (root_flags columns.scopes) live.roots

-- where the block of a root begins: after the document of the root before it
abbrev pub block_start : List (List Bool) → ℕ → ℕ
block_start scopes root = if root == 0 then 0 else slice_index (root_documents scopes) (root - 1) + 1

-- and ends: behind its own document
abbrev pub block_end : List (List Bool) → ℕ → ℕ
block_end scopes root = slice_index (root_documents scopes) root + 1

-- a root and the documents of its block are dead, and all else is as it was
abbrev pub killed : Columns → ℕ → LiveState → LiveState
killed columns root live = record {
  docs = cleared (block_start columns.scopes root) (block_end columns.scopes root) live.docs;
  roots = slice_set live.roots root false;
}
