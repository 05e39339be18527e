-- What a stop leaves behind a command, and on its way.
use Rattle.std.proofs.Common.{◌≡◌, ◌⊎◌, inl, inr, ℕ, List, [], Option, arith}
use Rattle.commit_images.specs.Steps.{OnTheWay}
use Rattle.commit_store.specs.Known.{StoreState, KeepsStore}
use Rattle.commit_store.specs.Saying.{StoreCommit}
use Rattle.commit_store.specs.Stepping.{FoundAsOrView, IsStep}
use Rattle.index_core.specs.Kept.{IndexState}
use Rattle.mapping.specs.Mapping.{Mapping}
use Rattle.store_commands.specs.Commands.{FoundAsOrSealed, KeepsOn}

-- no call of the disk was made
pub kept_as_before : (store : StoreState) (found : Option StoreCommit) (Shows image : List ℕ → Type 0) (at : ℕ) (since : ℕ → List ℕ → Type 0) → KeepsStore store found image → KeepsOn store Shows image at at since since
kept_as_before store found Shows image at since keeps = record {
  last = found;
  keeps = keeps;
  passes = record { later = omega arith; only = λ moment file before there. inl there };
}

-- a step shows what it may
pub kept_on : (store : StoreState) (found last : Option StoreCommit) (Shows image : List ℕ → Type 0) (from to : ℕ) (past since : ℕ → List ℕ → Type 0) → IsStep store found last Shows image from to past since
    → KeepsOn store Shows image from to past since
kept_on store found last Shows image from to past since step = record {
  last = last;
  keeps = record { last = step.knows; keeps = step.step.keeps };
  passes = record {
    later = step.step.passes.later;
    only = λ moment file before there. shown file (past moment file) (step.step.passes.only moment file before there);
  };
}
  where
    shown : (file : List ℕ) (Before : Type 0) → Before ⊎ OnTheWay found Shows file → Before ⊎ Shows file
    shown file Before (inl before) = inl before
    shown file Before (inr way) = inr way.shows

-- what is shown may be said otherwise
shown_as : (store : StoreState) (Shows Shows' image : List ℕ → Type 0) (from to : ℕ) (past since : ℕ → List ℕ → Type 0) → ((file : List ℕ) → Shows file → Shows' file) → KeepsOn store Shows image from to past since
    → KeepsOn store Shows' image from to past since
shown_as store Shows Shows' image from to past since says on = record {
  last = on.last;
  keeps = on.keeps;
  passes = record {
    later = on.passes.later;
    only = λ moment file before there. shown file (past moment file) (on.passes.only moment file before there);
  };
}
  where
    shown : (file : List ℕ) (Before : Type 0) → Before ⊎ Shows file → Before ⊎ Shows' file
    shown file Before (inl before) = inl before
    shown file Before (inr so) = inr (says file so)

-- a step of a sealed index
pub kept_sealed : (limit : ℕ) (images : List ℕ → Type 0) (m : Mapping) (index : IndexState) (store : StoreState) (found last : Option StoreCommit) (image : List ℕ → Type 0) (from to : ℕ) (past since : ℕ → List ℕ → Type 0)
    → index.buffer ≡ [] → IsStep store found last (FoundAsOrView limit images m index.next index.entries) image from to past since
    → KeepsOn store (FoundAsOrSealed limit images m index) image from to past since
kept_sealed limit images m index store found last image from to past since emptied step =
    shown_as store (FoundAsOrView limit images m index.next index.entries) (FoundAsOrSealed limit images m index) image from to past since says
    (kept_on store found last (FoundAsOrView limit images m index.next index.entries) image from to past since step)
  where
    says : (file : List ℕ) → FoundAsOrView limit images m index.next index.entries file → FoundAsOrSealed limit images m index file
    says file (inl was) = inl was
    says file (inr holds) = inr (emptied, holds)
