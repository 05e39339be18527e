-- A commit whose new extents are written.
use Rattle.std.specs.Prelude.{◌≡◌, ℕ, ◌+◌, ◌⊎◌, Bool, true, List, [], ◌∷◌, Option}
use Rattle.std.specs.List.{AllByRecursion}
use Rattle.std.specs.Option.{is_none}
use Rattle.extent_pool.specs.declared.extent.Extent.{Extent}
use Rattle.store_text.specs.Header.{slot}
use Rattle.store_text.specs.Pieces.{Piece}
use Rattle.commit_images.specs.Commits.{slot_of}
use Rattle.commit_images.specs.Keeping.{AreFree, IsNext, KeepsCommit, extents_of, idle, is_first, named_by}
use Rattle.commit_images.specs.Writes.{AreApart}
use Rattle.commit_store.specs.Saying.{StoreCommit, IsGood}
use Rattle.commit_store.specs.Known.{StoreState}
use Rattle.commit_store.specs.Preparing.{idle_side}

-- the piece is one of these
abbrev pub Among : Piece → List Piece → Type 0
Among piece [] = ⊥
Among piece (it ∷ others) = (it ≡ piece) ⊎ Among piece others

-- each extent of the commit is one of these pieces, which are new and apart from one another, or one that the last commit names
pub record IsWrittenBy (limit : ℕ) (found : Option StoreCommit) (c : StoreCommit) (pieces : List Piece) : Type 0 where
  pub next : IsNext found c
  pub good : IsGood limit c
  pub free : AreFree found pieces
  pub apart : AreApart pieces
  pub covered : AllByRecursion (λ (piece : Piece). Among piece pieces ⊎ Among piece (named_by found)) (extents_of c)

-- these pieces are what a store writes for a commit, with its record in this extent, and the images keep the last one
pub record IsWriting (store : StoreState) (pieces : List Piece) (record_extent : Extent) (found : Option StoreCommit) (c : StoreCommit) (images : List ℕ → Type 0) : Type 0 where
  pub side : idle_side store.side ≡ idle found
  pub first : is_none store.side ≡ is_first found
  pub whole : IsWrittenBy store.limit found c pieces
  pub slot_is : slot (idle_side store.side) (store.tried + 1) record_extent.at record_extent.len ≡ slot_of c
  pub keeps : KeepsCommit (IsGood store.limit) found true images
