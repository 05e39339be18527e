-- A cut behind what the last commit names.
use Rattle.std.proofs.Common.{◌≡◌, ℕ, ◌≤◌, true, List, [], ◌∷◌, map, Option, None, Some, sym, subst, arith}
use Rattle.std.specs.List.{AllByRecursion}
use Rattle.extent_pool.specs.declared.extent.Extent.{Extent}
use Rattle.store_text.specs.Header.{header_size}
use Rattle.store_text.specs.Pieces.{Piece}
use Rattle.commit_images.specs.Going.{shows_as, step_on}
use Rattle.commit_images.specs.Keeping.{EndsBy, LastEndsBy, extents_of}
use Rattle.commit_images.specs.Steps.{ShowsLast, Step}
use Rattle.commit_store.specs.Known.{StoreState, IsLast, KeepsStore}
use Rattle.commit_store.specs.Preparing.{end_named, with_closed}
use Rattle.commit_store.specs.Saying.{StoreCommit, IsGood, FoundAs, extent_of}
use Rattle.commit_store.specs.Stepping.{IsStep}

pub behind_header : (extents : List Extent) → header_size ≤ end_named extents
behind_header [] = omega arith
behind_header (extent ∷ extents) = let more = behind_header extents in omega (arith, more)

later_ends : (less more : ℕ) (pieces : List Piece) → less ≤ more → AllByRecursion (EndsBy less) pieces → AllByRecursion (EndsBy more) pieces
later_ends less more [] before all = tt
later_ends less more (piece ∷ pieces) before all = (omega (arith, all.0, before), later_ends less more pieces before all.1)

pieces_end : (pieces : List Piece) → AllByRecursion (EndsBy (end_named (map extent_of pieces))) pieces
pieces_end [] = tt
pieces_end (piece ∷ pieces) =
    (omega arith, later_ends (end_named (map extent_of pieces)) (end_named (map extent_of (piece ∷ pieces))) pieces (omega arith) (pieces_end pieces))

last_ends : (store : StoreState) (found : Option StoreCommit) → IsLast store found → LastEndsBy (end_named store.named) found
last_ends store None last = tt
last_ends store (Some c) last = subst (λ (named : List Extent). LastEndsBy (end_named named) (Some c)) (sym last.named) (pieces_end (extents_of c))

-- the gate is closed, and the file cut
pub cut_on : (old : StoreState) (found : Option StoreCommit) (before between after : List ℕ → Type 0) (from turn to : ℕ) (past then since : ℕ → List ℕ → Type 0)
    → KeepsStore old found before → IsStep (with_closed old) found found (FoundAs old.limit before) between from turn past then
    → Step (IsGood old.limit) found found true (ShowsLast (IsGood old.limit) found) after turn to then since
    → IsStep (with_closed old) found found (FoundAs old.limit before) after from to past since
cut_on old found before between after from turn to past then since keeps one two = record {
  knows = one.knows;
  step = step_on one.step two (λ image it. it) (shows_as (IsGood old.limit) found old.closed before keeps.keeps);
}

pub ends_behind : (store : StoreState) (found : Option StoreCommit) (len : ℕ) → IsLast store found → len ≡ end_named store.named → LastEndsBy len found
ends_behind store found len last is = subst (λ (n : ℕ). LastEndsBy n found) (sym is) (last_ends store found last)
