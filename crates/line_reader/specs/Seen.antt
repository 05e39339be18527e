-- What contracts see of a reader.
use Rattle.std.specs.Prelude.{◌≡◌, ℕ, Bool, IsTrue, List, [], Option, ◌+◌, length}
use Rattle.std.specs.Io.KnownBytes.{IsAtEnd}
use Rattle.line_reader.specs.Request.{Request}

-- the input: the bytes read and not used yet, how many more may be read, and whether its end was met
pub record InputState : Type 0 where
  pub unread : List ℕ
  pub allowance : ℕ
  pub ended : Bool

-- a reader: its input, and the request that it read last
pub record ReaderState : Type 0 where
  pub input : InputState
  pub request : Request

-- the most bytes that are read at once
abbrev pub longest_piece : ℕ
longest_piece = 65536

-- how many bytes may still be used
abbrev pub ahead : InputState → ℕ
ahead input = input.allowance + length input.unread

-- where the end was met, nothing is unread and the source has none left
abbrev pub KnowsEnd : InputState → Option (List ℕ) → Type 0
KnowsEnd input left = IsTrue input.ended → (input.unread ≡ []) × IsAtEnd left
