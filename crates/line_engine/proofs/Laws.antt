-- The laws of the crates below, as those lemmas take them that need one.
use Rattle.std.proofs.Common.{◌≡◌, ℕ, List, Option}
use Rattle.std.specs.Prelude.{IfSome}
use Rattle.commit_store.specs.Known.{StoreState}
use Rattle.commit_store.specs.Saying.{Found, IsGood, StoreCommit}
use Rattle.index_trees.specs.Content.{OpensTo}
use Rattle.index_trees.specs.Faithful.{AreFaithful, PointsStandFor}
use Rattle.index_trees.specs.Given.{IsOpenedAs, index_found}
use Rattle.index_trees.specs.Starting.{OpensIn, StartsFrom}
use Rattle.machine.specs.State.{State}
use Rattle.mapping.specs.Mapping.{Mapping}
use Rattle.point_in_time.specs.Points.{no_points}
use Rattle.segment.specs.Live.{EntryState}
use Rattle.store_compact.specs.Compacting.{kept_of}

-- a file holds one commit at most, as a store of at most so many bytes
abbrev pub HoldsOne : ℕ → Type 0
HoldsOne limit = (file : List ℕ) (one other : Option StoreCommit) → Found limit file one → Found limit file other → one ≡ other

-- What was opened stands for the trees that a file of its commit may be opened with, and so does the file.
pub record OpensTrees (limit : ℕ) : Type 0 where
  pub faithful : (objects : ℕ) (found : Option StoreCommit) (store : StoreState) (mapping : Option Mapping) (next : ℕ) (view : List EntryState) (start : State)
      → IfSome found (IsGood limit) → IsOpenedAs limit found store mapping next view → OpensIn limit found start
      → AreFaithful mapping (index_found view next objects) start × PointsStandFor mapping no_points start.points × (start.kept ≡ kept_of store)
  pub good : (file : List ℕ) (found : Option StoreCommit) → Found limit file found → IfSome found (IsGood limit)
  pub starts : (file : List ℕ) (start : State) → StartsFrom limit file start → OpensTo limit start.content file
