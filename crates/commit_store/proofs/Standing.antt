-- What stands behind the writes of a commit: all of its extents.
use Rattle.std.proofs.Common.{◌≡◌, ℕ, ◌+◌, ◌≤◌, ◌⊎◌, inl, inr, ⊎_elim, true, List, [], ◌∷◌, length, Option, None, Some, refl, sym, ◌∙◌, ap, subst, arith}
use Rattle.std.specs.List.{AllByRecursion}
use Rattle.disk.specs.Stops.{IsTold}
use Rattle.store_text.specs.Pieces.{Piece, Stands, AllStand, IsApart, Spares}
use Rattle.commit_images.specs.Commits.{pieces_of}
use Rattle.commit_images.specs.Keeping.{AreFree, IsFree, IsKnown, KeepsCommit, StandsIn, extents_of, named_by}
use Rattle.commit_images.specs.Written.{each_keeps, each_stands}
use Rattle.commit_images.specs.Writes.{AllApart, TakesEach, written_each}
use Rattle.commit_store.specs.Ready.{Among, IsWrittenBy}
use Rattle.commit_store.specs.Saying.{StoreCommit, IsGood}

stands_among : (pieces : List Piece) (piece : Piece) (file : List ℕ) → Among piece pieces → AllStand pieces file → Stands file piece
stands_among [] piece file among stand = absurd among
stands_among (it ∷ pieces) piece file (inl same) stand = subst (λ (own : Piece). Stands file own) same stand.0
stands_among (it ∷ pieces) piece file (inr among) stand = stands_among pieces piece file among stand.1

named_stand : (found : Option StoreCommit) (file : List ℕ) → StandsIn found file → AllStand (named_by found) file
named_stand None file stands = tt
named_stand (Some c) file stands = stands.1.1.1

spared_among : (named : List Piece) (piece written : Piece) → Among piece named → Spares written.at (length written.bytes) named → IsApart written.at (length written.bytes) piece
spared_among [] piece written among spares = absurd among
spared_among (it ∷ named) piece written (inl same) spares = subst (λ (own : Piece). IsApart written.at (length written.bytes) own) same spares.0
spared_among (it ∷ named) piece written (inr among) spares = spared_among named piece written among spares.1

free_apart : (found : Option StoreCommit) (pieces : List Piece) (piece : Piece) → Among piece (named_by found) → AreFree found pieces → AllApart pieces piece
free_apart found [] piece among free = tt
free_apart found (written ∷ pieces) piece among free =
    (spared_among (named_by found) piece written among free.0.spares, free_apart found pieces piece among free.1)

covered_stand : (found : Option StoreCommit) (pieces : List Piece) (file : List ℕ) → AllStand pieces (written_each pieces file) → AreFree found pieces
    → AllStand (named_by found) file → (extents : List Piece) → AllByRecursion (λ (piece : Piece). Among piece pieces ⊎ Among piece (named_by found)) extents
    → AllStand extents (written_each pieces file)
covered_stand found pieces file stand free named [] covered = tt
covered_stand found pieces file stand free named (piece ∷ extents) covered = (
  ⊎_elim
      (λ (own : Among piece pieces). stands_among pieces piece (written_each pieces file) own stand)
      (λ (old : Among piece (named_by found)). each_keeps pieces piece file (free_apart found pieces piece old free) (stands_among (named_by found) piece file old named))
      covered.0,
  covered_stand found pieces file stand free named extents covered.1,
)

-- Behind the writes all extents of the commit stand in what a read gives.
pub all_stand : (limit : ℕ) (found : Option StoreCommit) (c : StoreCommit) (pieces : List Piece) (old new : Option (List ℕ)) (images : List ℕ → Type 0)
    → ((file : List ℕ) → old ≡ Some file → images file) → IsTold old → KeepsCommit (IsGood limit) found true images → IsWrittenBy limit found c pieces
    → TakesEach pieces old new → (file : List ℕ) → new ≡ Some file → AllStand (extents_of c) file
all_stand limit found c pieces None new images gives told keeps whole takes file same = absurd told
all_stand limit found c pieces (Some before) new images gives told keeps whole takes file same =
    let here : Some (written_each pieces before) ≡ Some file = sym takes ∙ same in
    let file_is : written_each pieces before ≡ file = cc in
    subst (λ (it : List ℕ). AllStand (extents_of c) it) file_is
    (covered_stand found pieces before (each_stands pieces before whole.apart) whole.free
    (named_stand found before (keeps.each before (gives before refl)).stands) (extents_of c) whole.covered)
