-- What a store knows of the images of its disk while it commits.
use Rattle.std.specs.Prelude.{◌≡◌, ℕ, ◌+◌, ◌^◌, ◌<◌, ◌≤◌, Bool, true, false, ⊤, List, [], ◌∷◌, length, Option, None, Some}
use Rattle.std.specs.List.{AllByRecursion}
use Rattle.disk.specs.Memory.{written}
use Rattle.store_text.specs.Pieces.{Piece, Stands, AllStand, Spares}
use Rattle.store_text.specs.Header.{header_size, magic, other, gate_at, open_byte, is_open}
use Rattle.store_text.specs.declared.header.Side.{Side}
use Rattle.store_text.specs.declared.header.Side.TheVariants.{A, B}
use Rattle.commit_images.specs.Commits.{Commit, slot_of, pieces_of, Found}

-- ---- one commit behind another

-- the slot that the next commit writes
abbrev pub idle : {X : Type 0} → Option (Commit X) → Side
idle None = A
idle (Some c) = other c.side

-- what of a commit stands behind the header: its record, and its segments
abbrev pub extents_of : {X : Type 0} → Commit X → List Piece
extents_of c = c.body ∷ c.segments

abbrev pub named_by : {X : Type 0} → Option (Commit X) → List Piece
named_by None = []
named_by (Some c) = extents_of c

abbrev pub IsBehind : Piece → Type 0
IsBehind piece = header_size ≤ piece.at

-- A commit that a slot can name: its numbers are a u64 each, and its extents stand behind the header.
pub record IsPlaced {X : Type 0} (c : Commit X) : Type 0 where
  pub generation : c.generation < 2 ^ 64
  pub end : c.body.at + length c.body.bytes < 2 ^ 64
  pub behind : AllByRecursion IsBehind (extents_of c)

abbrev pub ArePlaced : {X : Type 0} → Option (Commit X) → Type 0
ArePlaced None = ⊤
ArePlaced (Some c) = IsPlaced c

abbrev pub IsAbove : {X : Type 0} → Option (Commit X) → ℕ → Type 0
IsAbove None generation = ⊤
IsAbove (Some c) generation = c.generation < generation

-- a commit that may come behind this one: in the idle slot, with a greater generation
pub record IsNext {X : Type 0} (active : Option (Commit X)) (new : Commit X) : Type 0 where
  pub side : new.side ≡ idle active
  pub above : IsAbove active new.generation
  pub placed : IsPlaced new

-- no commit comes before this one
abbrev pub is_first : {X : Type 0} → Option (Commit X) → Bool
is_first None = true
is_first (Some c) = false

-- A new extent: behind the header, and it touches none that the last commit names.
pub record IsFree {X : Type 0} (active : Option (Commit X)) (piece : Piece) : Type 0 where
  pub behind : IsBehind piece
  pub spares : Spares piece.at (length piece.bytes) (named_by active)

abbrev pub AreFree : {X : Type 0} → Option (Commit X) → List Piece → Type 0
AreFree active pieces = AllByRecursion (IsFree active) pieces

-- all that the last commit names ends by this length
abbrev pub EndsBy : ℕ → Piece → Type 0
EndsBy len piece = piece.at + length piece.bytes ≤ len

abbrev pub LastEndsBy : {X : Type 0} → ℕ → Option (Commit X) → Type 0
LastEndsBy len active = AllByRecursion (EndsBy len) (named_by active)

-- two commits in the same slot, with the same generation and the same record
pub record SameBody {X : Type 0} (c d : Commit X) : Type 0 where
  pub side : c.side ≡ d.side
  pub generation : c.generation ≡ d.generation
  pub body : c.body ≡ d.body

-- A good commit is one that a slot can name, and its slot, its record and what stands in the file where its segments are tell all
-- the rest of it.
pub record AreToldByRecords {X : Type 0} (IsGood : Commit X → Type 0) : Type 0 where
  pub placed : (c : Commit X) → IsGood c → IsPlaced c
  pub rest : (file : List ℕ) (c d : Commit X) → IsGood c → IsGood d → SameBody c d → AllStand c.segments file → AllStand d.segments file → c ≡ d

-- all of a commit but its open gate
abbrev pub but_gate : {X : Type 0} → Commit X → List Piece
but_gate c = magic ∷ slot_of c ∷ extents_of c

-- ---- what is known of an image

-- the pieces of the last commit stand; without one the header's magic does, and the gate of B is closed
abbrev pub StandsIn : {X : Type 0} → Option (Commit X) → List ℕ → Type 0
StandsIn None file = Stands file magic × (is_open B file ≡ false)
StandsIn (Some c) file = AllStand (pieces_of c) file

-- What is known of each image: the last commit stands in it, and its idle gate is closed where that is known.
pub record IsKnown {X : Type 0} (active : Option (Commit X)) (closed : Bool) (file : List ℕ) : Type 0 where
  pub long : header_size ≤ length file
  pub stands : StandsIn active file
  pub shut : closed ≡ true → is_open (idle active) file ≡ false

-- the image opens as one of these does: both show the same commit, or none
pub record FoundAs {X : Type 0} (IsGood : Commit X → Type 0) (images : List ℕ → Type 0) (file : List ℕ) : Type 0 where
  pub image : List ℕ
  pub is : images image
  pub found : Option (Commit X)
  pub there : Found IsGood image found
  pub here : Found IsGood file found

-- What a store keeps true of all images of its disk: the last commit stands in each, and each shows that commit or one that was
-- tried since; some image shows the last one; and where the idle gate isn't known to be closed, an image with that gate open is
-- an image too. That the last commit is good follows from `some`.
pub record KeepsCommit {X : Type 0} (IsGood : Commit X → Type 0) (active : Option (Commit X)) (closed : Bool) (images : List ℕ → Type 0) : Type 0 where
  pub placed : ArePlaced active
  pub each : (image : List ℕ) → images image → IsKnown active closed image
  pub some : (image : List ℕ) × images image × Found IsGood image active
  pub all_found : (image : List ℕ) → images image → (found : Option (Commit X)) × Found IsGood image found
  pub put : closed ≡ false → (image : List ℕ) → images image → images (written (gate_at (idle active)) (open_byte ∷ []) image)
