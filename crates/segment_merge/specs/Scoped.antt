-- The scopes of a merged segment.
use Rattle.std.specs.Prelude.{◌≡◌, ℕ, ◌-◌, ◌<◌, Bool, List, length, map, Contains}
use Rattle.std.specs.List.{All, flat_map, range_with_len}
use Rattle.block_bits.specs.Blocks.{documents_of}
use Rattle.segment_merge.specs.Merged.{live_roots_in, live_scopes_in}
use Rattle.segment_merge.specs.Numbering.{PartState}
use Rattle.stored_sources.specs.declared.root.Root.{Root}

-- the documents of each scope up to the greatest one, where each document has one of these scopes
pub record AreScopesOf (scopes : List ℕ) (sets : List (List Bool)) : Type 0 where
  pub are : sets ≡ map (documents_of scopes) (range_with_len 0 (length sets))
  pub within : All (λ scope. scope < length sets) scopes
  pub greatest : 0 < length scopes → Contains scopes (length sets - 1)

-- the scopes of parts' live documents, and their live roots
abbrev pub scopes_in : List PartState → List ℕ
scopes_in parts = flat_map (λ (part : PartState). live_scopes_in part.entry) parts

abbrev pub roots_in : List PartState → List Root
roots_in parts = flat_map (λ (part : PartState). live_roots_in part.entry) parts
