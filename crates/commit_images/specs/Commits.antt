-- What a file holds: commits, of which it may show one.
--
-- A commit is the pieces that it has in a file, and what it says. `A` is what is said, and `IsGood` what of it must hold besides
-- that its pieces stand: nothing of that looks into the file again, so no write changes it.
use Rattle.std.specs.Prelude.{◌≡◌, ℕ, ◌<◌, ◌≤◌, ◌⊎◌, true, false, List, [], ◌∷◌, length, Option, None, Some}
use Rattle.store_text.specs.Pieces.{Piece, Stands, AllStand}
use Rattle.store_text.specs.Header.{header_size, magic, other, gate, slot, is_open, generation_in}
use Rattle.store_text.specs.declared.header.Side.{Side}
use Rattle.store_text.specs.declared.header.Side.TheVariants.{A, B}

-- a commit: its slot, its generation, its record and its segments as pieces, and what it says
pub record Commit (X : Type 0) : Type 0 where
  pub side : Side
  pub generation : ℕ
  pub body : Piece
  pub segments : List Piece
  pub says : X

abbrev pub slot_of : {X : Type 0} → Commit X → Piece
slot_of c = slot c.side c.generation c.body.at (length c.body.bytes)

abbrev pub pieces_of : {X : Type 0} → Commit X → List Piece
pieces_of c = magic ∷ gate c.side ∷ slot_of c ∷ c.body ∷ c.segments

-- Of two open slots that of the greater generation counts, and A where they are equal.
abbrev pub IsAhead : Side → ℕ → ℕ → Type 0
IsAhead A own of_other = of_other ≤ own
IsAhead B own of_other = of_other < own

-- the slot of this side counts, as one of this generation
pub record Counts (side : Side) (generation : ℕ) (file : List ℕ) : Type 0 where
  pub opened : is_open side file ≡ true
  pub ahead : is_open (other side) file ≡ true → IsAhead side generation (generation_in (other side) file)

-- The file shows the commit: its pieces stand there, its slot counts, and it is good.
pub record Finds {X : Type 0} (IsGood : Commit X → Type 0) (file : List ℕ) (c : Commit X) : Type 0 where
  pub long : header_size ≤ length file
  pub stand : AllStand (pieces_of c) file
  pub counts : Counts c.side c.generation file
  pub good : IsGood c

-- A store that has no commit: a header with both gates closed.
pub record IsBlank (file : List ℕ) : Type 0 where
  pub long : header_size ≤ length file
  pub stands : Stands file magic
  pub a_closed : is_open A file ≡ false
  pub b_closed : is_open B file ≡ false

-- what a file holds: no commit, or one
abbrev pub Found : {X : Type 0} → (Commit X → Type 0) → List ℕ → Option (Commit X) → Type 0
Found IsGood file None = (file ≡ []) ⊎ IsBlank file
Found IsGood file (Some c) = Finds IsGood file c
