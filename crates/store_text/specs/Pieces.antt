-- Bytes that stand at their place in a file.
use Rattle.std.specs.Prelude.{◌≡◌, ℕ, ◌+◌, ◌≤◌, ◌⊎◌, List, length, take, drop}
use Rattle.std.specs.List.{AllByRecursion}

-- bytes, and the place of the first of them
pub record Piece : Type 0 where
  pub at : ℕ
  pub bytes : List ℕ

-- the file has the bytes at their place
abbrev pub Stands : List ℕ → Piece → Type 0
Stands file piece = take (length piece.bytes) (drop piece.at file) ≡ piece.bytes

abbrev pub AllStand : List Piece → List ℕ → Type 0
AllStand pieces file = AllByRecursion (Stands file) pieces

-- no byte of the piece is one of `n` bytes from a place on
abbrev pub IsApart : ℕ → ℕ → Piece → Type 0
IsApart at n piece = (piece.at + length piece.bytes ≤ at) ⊎ (at + n ≤ piece.at)

-- `n` bytes from a place on touch none of the pieces
abbrev pub Spares : ℕ → ℕ → List Piece → Type 0
Spares at n pieces = AllByRecursion (IsApart at n) pieces
