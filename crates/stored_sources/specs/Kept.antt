-- How roots are read in place: each from the bytes between its place and the next.
use Rattle.std.specs.Prelude.{◌≡◌, ℕ, ◌+◌, ◌<◌, ◌≤◌, ◌^◌, List, length, map, Option, Some, None}
use Rattle.part_text.specs.Places.{row, rows_of, ArePlaces}
use Rattle.stored_sources.specs.declared.root.Root.{Root}
use Rattle.stored_sources.specs.Roots.{no_root}
use Rattle.stored_sources.specs.Text.{root_text}
use Rattle.stored_sources.specs.Stands.{IsRoot}
use Rattle.stored_sources.specs.Reading.{root_at}

abbrev pub root_read : Option (Root × List ℕ) → Root
root_read None = no_root
root_read (Some read) = read.0

-- the root that bytes are the text of
unfoldable pub root_in : List ℕ → Root
root_in bytes = root_read (root_at bytes)

-- all roots, in order
unfoldable pub roots_in : List ℕ → List ℕ → List Root
roots_in places bytes = map root_in (rows_of places bytes)

-- bytes that are the text of a root
pub record IsRootText (bytes : List ℕ) : Type 0 where
  pub root : Root
  pub is : IsRoot root
  pub text : bytes ≡ root_text root

-- the places belong to the bytes: between them stand roots, fewer than 2^32
pub record AreKept (places bytes : List ℕ) : Type 0 where
  pub places_are : ArePlaces places (length bytes)
  pub fewer : length places ≤ 2 ^ 32
  pub texts : (at : ℕ) → at + 1 < length places → IsRootText (row places bytes at)
