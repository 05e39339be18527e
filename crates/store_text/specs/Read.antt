-- What was read of a header.
use Rattle.std.specs.Prelude.{◌≡◌, ℕ, List}
use Rattle.store_text.specs.Pieces.{Stands}
use Rattle.store_text.specs.Header.{slot, is_open, generation_in}
use Rattle.store_text.specs.declared.header.Side.{Side}
use Rattle.store_text.specs.declared.header.Side.TheVariants.{A, B}
use Rattle.store_text.specs.declared.header.Slot.{Slot}
use Rattle.store_text.specs.declared.header.Header.{Header}

-- what the file says of a side, whether its gate is open or not
pub record IsSlot (side : Side) (own : Slot) (file : List ℕ) : Type 0 where
  pub gate : own.is_open ≡ is_open side file
  pub generation : own.generation ≡ generation_in side file
  pub stands : Stands file (slot side own.generation own.at own.len)

-- what the file says of both sides
pub record IsHeader (header : Header) (file : List ℕ) : Type 0 where
  pub a : IsSlot A header.a file
  pub b : IsSlot B header.b file
