-- Which roots can be written, and where roots stand in the bytes of a segment.
use Rattle.std.specs.Prelude.{◌≡◌, ℕ, ◌+◌, ◌<◌, ◌≤◌, ◌^◌, List, ◌++◌, length, drop}
use Rattle.std.specs.List.{All}
use Rattle.part_text.specs.Places.{places_from}
use Rattle.stored_sources.specs.declared.root.Join.{Join}
use Rattle.stored_sources.specs.declared.root.Join.TheVariants.{Unjoined, Named, Child}
use Rattle.stored_sources.specs.declared.root.Root.{Root}
use Rattle.stored_sources.specs.Text.{root_text, roots_text}

-- a join value whose numbers fit their bytes
abbrev pub IsJoin : Join → Type 0
IsJoin Unjoined = Unit {0}
IsJoin (Named relation) = relation < 2 ^ 32
IsJoin (Child relation parent) = (relation < 2 ^ 32) × (length parent < 2 ^ 32)

-- a root whose numbers and lengths fit their bytes
pub record IsRoot (root : Root) : Type 0 where
  pub id : length root.id < 2 ^ 32
  pub number : root.number < 2 ^ 64
  pub generation : root.generation < 2 ^ 32
  pub source : length root.source < 2 ^ 32
  pub join : IsJoin root.join

-- a root of the first mapping, as each is that was written without a mapping generation
pub record IsOldRoot (root : Root) : Type 0 where
  pub is : IsRoot root
  pub generation : root.generation ≡ 1

-- roots, numbered by u32
pub record AreRoots (roots : List Root) : Type 0 where
  pub fewer : length roots < 2 ^ 32
  pub each : All IsRoot roots

-- roots stand at a place of bytes: from there on their text up to `end`, and these are their places
pub record Stands (bytes : List ℕ) (at : ℕ) (roots : List Root) (places : List ℕ) (end : ℕ) : Type 0 where
  pub are : AreRoots roots
  pub there : drop at bytes ≡ roots_text roots ++ drop end bytes
  pub ends : end ≡ at + length (roots_text roots)
  pub within : end ≤ length bytes
  pub placed : places ≡ places_from root_text at roots

-- the places are those of these roots
pub record Belong (bytes places : List ℕ) (roots : List Root) : Type 0 where
  pub at : ℕ
  pub end : ℕ
  pub stands : Stands bytes at roots places end
