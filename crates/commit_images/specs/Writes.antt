-- Several writes, one behind another: what they leave to be read, and what a stop among them leaves.
use Rattle.std.specs.Prelude.{◌≡◌, ℕ, ⊤, List, [], ◌∷◌, length, Option, None, Some}
use Rattle.std.specs.List.{AllByRecursion}
use Rattle.disk.specs.Memory.{written}
use Rattle.disk.specs.Stops.{Torn}
use Rattle.store_text.specs.Pieces.{Piece, IsApart}
use Rattle.commit_images.specs.declared.block.Block.{Block}

abbrev pub piece_of : Block → Piece
piece_of block = record { at = block.at; bytes = block.bytes.now }

abbrev pub written_each : List Piece → List ℕ → List ℕ
written_each [] file = file
written_each (piece ∷ pieces) file = written_each pieces (written piece.at piece.bytes file)

-- after all of the writes, in order, a read gives what each left
abbrev pub TakesEach : List Piece → Option (List ℕ) → Option (List ℕ) → Type 0
TakesEach pieces None new = new ≡ None
TakesEach pieces (Some file) new = new ≡ Some (written_each pieces file)

-- what the writes, each of them torn, may leave of a file
abbrev pub TornByEach : List Piece → List ℕ → List ℕ → Type 0
TornByEach [] old new = new ≡ old
TornByEach (piece ∷ pieces) old new = (mid : List ℕ) × Torn piece.at (length piece.bytes) old mid × TornByEach pieces mid new

-- of one of these images they may have left this one
abbrev pub LeftBy : List Piece → (List ℕ → Type 0) → List ℕ → Type 0
LeftBy pieces images image = (before : List ℕ) × images before × TornByEach pieces before image

-- a write of each of these pieces leaves this one
abbrev pub AllApart : List Piece → Piece → Type 0
AllApart pieces kept = AllByRecursion (λ it. IsApart it.at (length it.bytes) kept) pieces

-- no write goes over one before it
abbrev pub AreApart : List Piece → Type 0
AreApart [] = ⊤
AreApart (piece ∷ pieces) = AllApart pieces piece × AreApart pieces
