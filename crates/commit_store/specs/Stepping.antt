-- What the calls of a store leave of it and of its disk.
use Rattle.std.specs.Prelude.{ℕ, ◌⊎◌, List, Option, Some}
use Rattle.mapping.specs.Mapping.{Mapping}
use Rattle.segment.specs.Live.{EntryState}
use Rattle.commit_images.specs.Commits.{Finds}
use Rattle.commit_images.specs.Steps as steps
use Rattle.commit_store.specs.Saying.{StoreCommit, IsGood, Found, FoundAs}
use Rattle.commit_store.specs.Known.{StoreState, IsLast}
use Rattle.commit_store.specs.Preparing.{SaysView}

-- The image holds the commit, as a store of at most so many bytes.
abbrev pub Holds : ℕ → StoreCommit → List ℕ → Type 0
Holds limit c image = Finds (IsGood limit) image c

-- it holds the last commit, or none where there is none; or it holds this one
abbrev pub HoldsEither : ℕ → Option StoreCommit → StoreCommit → List ℕ → Type 0
HoldsEither limit found c image = Found limit image found ⊎ Holds limit c image

-- the image holds a commit that says this mapping, this next number and this view
pub record HoldsView (limit : ℕ) (m : Mapping) (next : ℕ) (view : List EntryState) (image : List ℕ) : Type 0 where
  pub commit : StoreCommit
  pub says : SaysView m next view commit
  pub holds : Holds limit commit image

-- it opens as one of these images does, or holds a commit of this view
abbrev pub FoundAsOrView : ℕ → (List ℕ → Type 0) → Mapping → ℕ → List EntryState → List ℕ → Type 0
FoundAsOrView limit images m next view image = FoundAs limit images image ⊎ HoldsView limit m next view image

-- Calls on the disk of a store whose last commit was `found`. Behind them `last` is the last one, and all images keep it; each
-- image on the way shows what it may, and all bytes of `found` still stand in it.
pub record IsStep (now : StoreState) (found last : Option StoreCommit) (Shows images : List ℕ → Type 0) (from to : ℕ) (past since : ℕ → List ℕ → Type 0) : Type 0 where
  pub knows : IsLast now last
  pub step : steps.Step (IsGood now.limit) found last now.closed Shows images from to past since

-- The same where the last one behind them is a commit of this view, and each image holds it.
pub record IsDone (limit : ℕ) (now : StoreState) (found : Option StoreCommit) (m : Mapping) (next : ℕ) (view : List EntryState) (Shows images : List ℕ → Type 0) (from to : ℕ) (past since : ℕ → List ℕ → Type 0) : Type 0 where
  pub commit : StoreCommit
  pub says : SaysView m next view commit
  pub step : IsStep now found (Some commit) Shows images from to past since
  pub all : (image : List ℕ) → images image → Holds limit commit image
