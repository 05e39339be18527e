-- What `check` has read before it prints. It serves private calls and the proofs alone.
use Rattle.std.specs.Prelude.{ℕ, List, Option, None, Some, ⊤}
use Rattle.std.specs.List.{All}
use Rattle.commit_store.specs.Saying.{StoreCommit, Found}
use Rattle.mapping.specs.Mapping.{Mapping}
use Rattle.segment.specs.Live.{EntryState}
use Rattle.store_check.specs.Held.{IsHeld}
use Rattle.store_opening.specs.Opening.{IsInspected}
use Rattle.store_opening.specs.declared.opened.Inspected.{Inspected}
use Rattle.line_engine.specs.Printing.{IsSound}

-- the segments of a view are those of their sources; without a mapping there are none
abbrev pub AreHeld : Option Mapping → List EntryState → Type 0
AreHeld None view = ⊤
AreHeld (Some m) view = All (IsHeld m) view

-- the file holds a sound commit, or none, and this was read of it
pub record IsOfFile (limit : ℕ) (bytes : List ℕ) (it : Inspected) : Type 0 where
  pub found : Option StoreCommit
  pub holds : Found limit bytes found
  pub sound : IsSound found
  pub is : IsInspected found it
