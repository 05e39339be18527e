-- What a store knows behind a commit is again what a store knows.
use Rattle.std.proofs.Common.{◌≡◌, ℕ, ◌+◌, ◌<◌, ◌≤◌, inr, Bool, true, false, List, [], ◌∷◌, length, map, Some, refl, sym, ◌∙◌, ap, subst, arith}
use Rattle.std.specs.List.{AllByRecursion, AllZip}
use Rattle.extent_pool.specs.declared.extent.Extent.{Extent}
use Rattle.mapping.specs.Mapping.{Mapping}
use Rattle.segment.specs.Live.{EntryState}
use Rattle.segment_parts.specs.Text.{segment_text}
use Rattle.segment_view.specs.Views.{HaveOwnIds}
use Rattle.store_text.specs.Pieces.{Piece}
use Rattle.store_text.specs.declared.header.Side.{Side}
use Rattle.commit_store.specs.declared.known.KnownSegment.{KnownSegment}
use Rattle.commit_store.specs.Known.{StoreState, IsStore, IsKnownSegment, IsOfSegment, AreOfSegments, IsOfCommit, entry_of, known_extents}
use Rattle.commit_store.specs.Preparing.{PlannedSegment, PreparedState, IsCommitOf, IsPreparedBy, committed, known_of, piece_of, stored_of}
use Rattle.commit_store.specs.Saying.{StoredSegment, StoreCommit, AreExtents, IsNewSegment, IsOfForm, IsSegmentOf, extent_of, extents_of, mapping_said}

abbrev pub IsLong : PlannedSegment → Type 0
IsLong segment = segment.extent.len ≡ length (segment_text segment.entry.columns)

pub planned_extents : (segments : List PlannedSegment) → AllByRecursion IsLong segments
    → map extent_of (map (λ (it : StoredSegment). it.piece) (map stored_of segments)) ≡ map (λ (segment : PlannedSegment). segment.extent) segments
planned_extents [] long = refl
planned_extents (segment ∷ segments) long =
    ap (λ (n : ℕ). record { at = segment.extent.at; len = n } ∷ map extent_of (map (λ (it : StoredSegment). it.piece) (map stored_of segments))) (sym long.0)
    ∙ ap (λ (extents : List Extent). segment.extent ∷ extents) (planned_extents segments long.1)

-- the extents that the commit names are those that were planned
pub extents_are : (store : StoreState) (prepared : PreparedState) (c : StoreCommit) → IsPreparedBy store prepared → IsCommitOf store prepared c
    → extents_of c ≡ prepared.record_extent ∷ map (λ (segment : PlannedSegment). segment.extent) prepared.segments
extents_are store prepared c by is =
    ap (λ (pieces : List Piece). extent_of c.body ∷ map extent_of pieces) (is.good.pieces ∙ ap (map (λ (it : StoredSegment). it.piece)) is.segments)
    ∙ ap (λ (extents : List Extent). extent_of c.body ∷ extents) (planned_extents prepared.segments by.long)
    ∙ ap (λ (extent : Extent). extent ∷ map (λ (segment : PlannedSegment). segment.extent) prepared.segments) is.record_extent

same_extents : (segments : List PlannedSegment) → known_extents (map known_of segments) ≡ map (λ (segment : PlannedSegment). segment.extent) segments
same_extents [] = refl
same_extents (segment ∷ segments) = ap (λ (extents : List Extent). segment.extent ∷ extents) (same_extents segments)

same_entries : (segments : List PlannedSegment) → map (λ (segment : PlannedSegment). segment.entry) segments ≡ map entry_of (map known_of segments)
same_entries [] = refl
same_entries (segment ∷ segments) = ap (λ (entries : List EntryState). segment.entry ∷ entries) (same_entries segments)

all_known : (m : Mapping) (segments : List PlannedSegment) → AllByRecursion IsLong segments → AllByRecursion IsNewSegment (map stored_of segments)
    → AllByRecursion (IsSegmentOf m) (map stored_of segments) → AllByRecursion IsKnownSegment (map known_of segments)
all_known m [] long form are = tt
all_known m (segment ∷ segments) long form are =
    (record { agree = form.0.are; long = long.0; mapping = m; fits = are.0.fits }, all_known m segments long.1 form.1 are.1)

new_form : (store : StoreState) (prepared : PreparedState) (c : StoreCommit) → IsCommitOf store prepared c → AllByRecursion IsNewSegment (map stored_of prepared.segments)
new_form store prepared c is =
    subst (λ (it : List StoredSegment). AllByRecursion IsNewSegment it) is.segments (subst (λ (it : Bool). IsOfForm it c.says) is.old is.good.form)

-- the store behind the commit
pub committed_is : (store : StoreState) (prepared : PreparedState) → IsStore store → IsPreparedBy store prepared → IsStore (committed store prepared)
committed_is store prepared is by =
    let c : StoreCommit = by.commit.0 in
    let commit : IsCommitOf store prepared c = by.commit.1 in
    record {
      limit = is.limit;
      places = subst (λ (it : List Extent). AreExtents store.limit it) (extents_are store prepared c by commit) commit.good.places;
      names = inr (same_extents prepared.segments);
      segments =
          all_known (mapping_said c.says) prepared.segments by.long (new_form store prepared c commit)
          (subst (λ (it : List StoredSegment). AllByRecursion (IsSegmentOf (mapping_said c.says)) it) commit.segments commit.good.segments);
      ids = subst HaveOwnIds (same_entries prepared.segments) by.ids;
      tried = omega (arith, by.below);
    }

-- ---- its last commit

all_of : (segments : List PlannedSegment) → AllByRecursion IsLong segments → AllZip IsOfSegment (map known_of segments) (map stored_of segments)
all_of [] long = tt
all_of (segment ∷ segments) long =
    (record { extent = ap (λ (n : ℕ). record { at = segment.extent.at; len = n }) long.0; columns = refl }, all_of segments long.1)

-- the commit is the last one of the store behind it
pub last_committed : (store : StoreState) (prepared : PreparedState) (c : StoreCommit) → IsPreparedBy store prepared → IsCommitOf store prepared c
    → IsOfCommit (committed store prepared) c
last_committed store prepared c by is = record {
  side = ap (λ (side : Side). Some side) (sym is.side);
  named = sym (extents_are store prepared c by is);
  known =
      subst (λ (old : Bool). AreOfSegments old (map known_of prepared.segments) c.says.segments) (sym is.old)
      (subst (λ (it : List StoredSegment). AllZip IsOfSegment (map known_of prepared.segments) it) (sym is.segments) (all_of prepared.segments by.long));
  tried = omega (arith, is.generation);
}

-- a store with another last commit
abbrev pub with_commit : StoreState → Side → List KnownSegment → List Extent → StoreState
with_commit store side known named = record { limit = store.limit; side = Some side; known = known; named = named; tried = store.tried; closed = store.closed }
