-- Bytes in the form before mappings grew, with today's first bytes, and the bytes in today's form.
use Rattle.std.specs.Prelude.{◌≡◌, ℕ, ◌+◌, ◌-◌, ◌<◌, ◌≤◌, ◌^◌, Bool, List, [], ◌++◌, length, take, count_by, slice_index_or}
use Rattle.std.specs.List.{All, flat_map}
use Rattle.block_bits.specs.Flags.{is_marked}
use Rattle.stored_sources.specs.declared.root.Root.{Root}
use Rattle.stored_sources.specs.Text.{old_root_text, roots_text}
use Rattle.stored_sources.specs.Stands.{IsOldRoot}
use Rattle.segment_parts.specs.Text.{magic, head_text}
use Rattle.segment_parts.specs.Parts.{root_flags, IsHead}
use Rattle.segment_parts.specs.Agree.{AreColumns}
use Rattle.segment_parts.specs.Once.{IsReading}
use Rattle.segment.specs.Old.{old_parts}
use Rattle.segment_parts.specs.declared.columns.Columns.{Columns}

-- the scopes before `count` are those up to the last that has documents
pub record IsShown (scopes : List (List Bool)) (count : ℕ) : Type 0 where
  pub within : count ≤ length scopes
  pub empty : (at : ℕ) → count ≤ at → at < length scopes → count_by is_marked (slice_index_or scopes at []) ≡ 0
  pub last : 0 < count → 1 ≤ count_by is_marked (slice_index_or scopes (count - 1) [])

-- roots that were read without a generation and written with one
pub record ArePut (bytes rest old now : List ℕ) (at : ℕ) : Type 0 where
  pub roots : List Root
  pub reading : IsReading old_root_text IsOldRoot bytes roots rest at
  pub put : now ≡ old ++ roots_text roots

-- the bytes of the older form part by part, and those that were made of them
pub record IsRenewal (own new : List ℕ) : Type 0 where
  pub documents : ℕ
  pub scopes : List (List Bool)
  pub count : ℕ
  pub roots : List Root
  pub rest : List ℕ
  pub head : IsHead documents scopes
  pub shown : IsShown scopes count
  pub some : 0 < count
  pub old : All IsOldRoot roots
  pub rooted : length roots ≡ count_by is_marked (root_flags scopes)
  pub parts : own ≡ head_text documents scopes ++ (flat_map old_root_text roots ++ rest)
  pub text : new ≡ head_text documents (take count scopes) ++ (roots_text roots ++ rest)

-- the bytes are those of no segment in the older form
abbrev pub NoOld : List ℕ → Type 0
NoOld own = (columns : Columns) (more : ℕ) → AreColumns columns → All (λ (root : Root). root.generation ≡ 1) columns.roots → length columns.scopes + more < 2 ^ 32 → own ≡ magic ++ old_parts columns more → ⊥
