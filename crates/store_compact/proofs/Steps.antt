-- The calls of a commit on its disk, one behind another.
use Rattle.std.proofs.Common.{◌≡◌, ℕ, inl, inr, Bool, List, Option, sym, subst}
use Rattle.disk.specs.Stops.{Within}
use Rattle.commit_images.specs.Going.{shows_as, step_on, step_with}
use Rattle.commit_images.specs.Keeping as keeping
use Rattle.commit_images.specs.Steps.{Step}
use Rattle.mapping.specs.Mapping.{Mapping}
use Rattle.segment.specs.Live.{EntryState}
use Rattle.commit_store.specs.Known.{StoreState, KeepsStore}
use Rattle.commit_store.specs.Preparing.{SaysView}
use Rattle.commit_store.specs.Saying.{StoreCommit, IsGood, FoundAs}
use Rattle.commit_store.specs.Stepping.{IsStep, HoldsEither, FoundAsOrView}

-- what holds the last commit opens as an image of before does, and what holds the new one holds the view
view_of : (limit : ℕ) (m : Mapping) (next : ℕ) (view : List EntryState) (found : Option StoreCommit) (c : StoreCommit) (closed : Bool) (before : List ℕ → Type 0) → SaysView m next view c
    → keeping.KeepsCommit (IsGood limit) found closed before → Within (HoldsEither limit found c) (FoundAsOrView limit before m next view)
view_of limit m next view found c closed before says keeps image (inl here) = inl (shows_as (IsGood limit) found closed before keeps image here)
view_of limit m next view found c closed before says keeps image (inr holds) = inr (record { commit = c; says = says; holds = holds })

-- the gate is closed, and then a commit of the view is made
pub commit_on : (m : Mapping) (next : ℕ) (view : List EntryState) (old mid now : StoreState) (found last : Option StoreCommit) (c : StoreCommit) (before between after : List ℕ → Type 0)
    (from turn to : ℕ) (past then since : ℕ → List ℕ → Type 0) → mid.limit ≡ old.limit → now.limit ≡ old.limit → SaysView m next view c → KeepsStore old found before
    → IsStep mid found found (FoundAs old.limit before) between from turn past then → IsStep now found last (HoldsEither mid.limit found c) after turn to then since
    → IsStep now found last (FoundAsOrView old.limit before m next view) after from to past since
commit_on m next view old mid now found last c before between after from turn to past then since first then_is says keeps one two = record {
  knows = two.knows;
  step =
      subst (λ (it : ℕ). Step (IsGood it) found last now.closed (FoundAsOrView old.limit before m next view) after from to past since) (sym then_is)
      (step_on
      (subst (λ (it : ℕ). Step (IsGood it) found found mid.closed (FoundAs old.limit before) between from turn past then) first one.step)
      (subst (λ (it : ℕ). Step (IsGood old.limit) found last now.closed (HoldsEither it found c) after turn to then since) first
      (subst (λ (it : ℕ). Step (IsGood it) found last now.closed (HoldsEither mid.limit found c) after turn to then since) then_is two.step))
      (λ image it. inl it)
      (view_of old.limit m next view found c old.closed before says keeps.keeps));
}

-- the gate alone was closed
pub closed_alone : (m : Mapping) (next : ℕ) (view : List EntryState) (limit : ℕ) (now : StoreState) (found : Option StoreCommit) (before after : List ℕ → Type 0)
    (from to : ℕ) (past since : ℕ → List ℕ → Type 0) → IsStep now found found (FoundAs limit before) after from to past since
    → IsStep now found found (FoundAsOrView limit before m next view) after from to past since
closed_alone m next view limit now found before after from to past since one = record { knows = one.knows; step = step_with one.step (λ image it. inl it) }
