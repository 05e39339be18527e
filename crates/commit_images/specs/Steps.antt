-- What the steps of a commit leave, at each moment: what is kept of the images, and what a stop on the way shows.
use Rattle.std.specs.Prelude.{ℕ, ◌⊎◌, Bool, List, Option}
use Rattle.disk.specs.Stops.{Passes}
use Rattle.store_text.specs.Pieces.{AllStand}
use Rattle.commit_images.specs.Commits.{Commit, Finds, Found}
use Rattle.commit_images.specs.Keeping.{but_gate, StandsIn, FoundAs, KeepsCommit}

-- ---- what an image shows

-- the last commit, or none where there is none
abbrev pub ShowsLast : {X : Type 0} → (Commit X → Type 0) → Option (Commit X) → List ℕ → Type 0
ShowsLast IsGood active image = Found IsGood image active

-- the last commit or the one that is tried
abbrev pub ShowsEither : {X : Type 0} → (Commit X → Type 0) → Option (Commit X) → Commit X → List ℕ → Type 0
ShowsEither IsGood active new image = Found IsGood image active ⊎ Finds IsGood image new

-- what one of these images shows, or the commit that is tried
abbrev pub ShowsAsOr : {X : Type 0} → (Commit X → Type 0) → (List ℕ → Type 0) → Commit X → List ℕ → Type 0
ShowsAsOr IsGood images new image = FoundAs IsGood images image ⊎ Finds IsGood image new

-- all of a commit but its gate stands in each image, so that its gate alone is left to be opened
abbrev pub IsReady : {X : Type 0} → Commit X → (List ℕ → Type 0) → Type 0
IsReady new images = (image : List ℕ) → images image → AllStand (but_gate new) image

-- ---- a step

-- a stop on the way: the image shows what it may, and all pieces of the last commit still stand in it
pub record OnTheWay {X : Type 0} (active : Option (Commit X)) (Shows : List ℕ → Type 0) (image : List ℕ) : Type 0 where
  pub shows : Shows image
  pub stands : StandsIn active image

-- One step or several, from a store whose last commit is `active` on: behind them the store keeps `last`, with its idle gate
-- known to be closed or not, and each image since is on the way.
pub record Step {X : Type 0} (IsGood : Commit X → Type 0) (active last : Option (Commit X)) (closed : Bool) (Shows : List ℕ → Type 0)
    (images : List ℕ → Type 0) (before now : ℕ) (past since : ℕ → List ℕ → Type 0) : Type 0 where
  pub keeps : KeepsCommit IsGood last closed images
  pub passes : Passes before now past since (OnTheWay active Shows)
