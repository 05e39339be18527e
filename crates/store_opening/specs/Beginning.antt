-- What the beginning of a file says.
use Rattle.std.specs.Prelude.{◌≡◌, ◌≢◌, ℕ, ◌<◌, ◌≤◌, false, if◌then◌else◌, List, [], length, Option, None, Some}
use Rattle.store_text.specs.Pieces.{Stands}
use Rattle.store_text.specs.Header.{header_size, magic, is_open}
use Rattle.store_text.specs.Read.{IsHeader}
use Rattle.store_text.specs.declared.header.Side.TheVariants.{A, B}
use Rattle.store_text.specs.declared.header.Slot.{Slot}
use Rattle.store_text.specs.declared.header.Header.{Header}

-- a file begins with a header of a store, which says this
pub record HasHeader (header : Header) (file : List ℕ) : Type 0 where
  pub long : header_size ≤ length file
  pub magic_stands : Stands file magic
  pub says : IsHeader header file

-- a file is empty, or begins with a header
abbrev pub IsBeginning : List ℕ → Option Header → Type 0
IsBeginning file None = file ≡ []
IsBeginning file (Some header) = HasHeader header file

-- bytes that aren't a store's
pub record IsOther (file : List ℕ) : Type 0 where
  pub some : file ≢ []
  pub magic_lacks : Stands file magic → ⊥

-- bytes that begin as a store's and end within the header
pub record IsShort (file : List ℕ) : Type 0 where
  pub magic_stands : Stands file magic
  pub short : length file < header_size

-- both gates are closed
pub record AreClosed (file : List ℕ) : Type 0 where
  pub a : is_open A file ≡ false
  pub b : is_open B file ≡ false

-- the generation that a slot names where its gate is open
abbrev pub open_generation : Slot → ℕ
open_generation slot = if slot.is_open then slot.generation else 0
