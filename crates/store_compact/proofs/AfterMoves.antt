-- The store behind a commit that moved segments, in the machine's words.
use Rattle.std.proofs.Common.{◌≡◌, ℕ, ◌∷◌, List, length, map, refl, sym, ◌∙◌, ap, subst}
use Rattle.extent_pool.specs.Placing.{NamedExtent, last_ones, moved}
use Rattle.extent_pool.specs.declared.extent.Extent.{Extent}
use Rattle.machine.specs.Storing.{extent_in, named, with_move}
use Rattle.mapping.specs.Mapping.{Mapping}
use Rattle.segment.specs.Live.{EntryState}
use Rattle.commit_store.specs.Known.{StoreState, IsStore}
use Rattle.commit_store.specs.Moving.{named_planned}
use Rattle.commit_store.specs.Preparing.{PlannedSegment, PreparedState, IsPreparedFor, committed, new_sizes, planned, size_of_record, taken_by, taken_with, with_closed}
use Rattle.store_compact.specs.Compacting.{IsCompacted, ids_of, kept_segments, moves_of, placed_of, segments_named}
use Rattle.store_compact.specs.Moves.{AllStayBelow, AreMoved, all_named, befores, moves_from}
use Rattle.store_compact.proofs.Ids.{entries_in}
use Rattle.store_compact.proofs.Matching.{last_same}
use Rattle.store_compact.proofs.Named.{all_stay, known_are, known_names, named_extents, planned_entries, planned_names, segments_placed}
use Rattle.store_compact.proofs.Offering.{MovesLaw}
use Rattle.store_compact.proofs.Ones.{same_ones}

-- nothing of what was just prepared has moved
pub stay_prepared : (store : StoreState) (m : Mapping) (next : ℕ) (view : List EntryState) (prepared : PreparedState) (place : ℕ) → IsPreparedFor store m next view prepared
    → AllStayBelow place prepared.segments
stay_prepared store m next view prepared place it = subst (AllStayBelow place) (sym it.plan.segments) (all_stay place store.known view it.room.segments)

-- the moves of what is prepared are those of the machine
moves_are : MovesLaw → (store : StoreState) (m : Mapping) (next : ℕ) (view : List EntryState) (most : ℕ) (prepared : PreparedState) → IsStore store → (it : IsPreparedFor store m next view prepared)
    → moves_from most prepared ≡ moves_of most it.room store view
moves_are law store m next view most prepared is it =
    ap (λ (n : ℕ). moved n prepared.taken (last_ones most n (befores prepared.segments))) it.plan.limit
    ∙ ap (λ (segments : List PlannedSegment). moved store.limit prepared.taken (last_ones most store.limit (befores segments))) it.plan.segments
    ∙ ap (moved store.limit prepared.taken)
    (same_ones (befores (planned store.known view it.room.segments)) (placed_of store view) (last_same store view it.room.segments is) most store.limit)
    ∙ sym (law store.limit (last_ones most store.limit (placed_of store view)) (taken_with it.room store) prepared.taken it.plan.taken)

names_are : (store : StoreState) (m : Mapping) (next : ℕ) (view : List EntryState) (prepared : PreparedState) → (it : IsPreparedFor store m next view prepared)
    → all_named prepared ≡ named (kept_segments store) (ids_of view) it.room.segments
names_are store m next view prepared it =
    ap (map named_planned) it.plan.segments
    ∙ planned_names store.known store.limit view (taken_by store) it.room.segments
    (segments_placed store.limit (taken_by store) (new_sizes store.known view) (size_of_record m view) it.room it.first_fit)

pub compacted_is : MovesLaw → (store : StoreState) (m : Mapping) (next : ℕ) (view : List EntryState) (most count : ℕ) (prepared moved_on : PreparedState) → IsStore store
    → IsPreparedFor store m next view prepared → AreMoved most count prepared moved_on → IsCompacted store m view most count (committed (with_closed store) moved_on)
compacted_is law store m next view most count prepared moved_on is it are =
    let moves : moves_from most prepared ≡ moves_of most it.room store view = moves_are law store m next view most prepared is it in
    let names : all_named moved_on ≡ segments_named most it.room store view
    = are.segments ∙ ap (λ (own : List NamedExtent). map (with_move own) (all_named prepared)) moves
    ∙ ap (map (with_move (moves_of most it.room store view))) (names_are store m next view prepared it) in
    record {
      room = it.room;
      first_fit = it.first_fit;
      count_is = are.count_is ∙ ap length moves;
      limit = refl;
      segments = known_names moved_on.segments ∙ names;
      entries =
          known_are store view moved_on.segments
          (are.entries ∙ ap entries_in it.plan.segments ∙ planned_entries store.known view it.room.segments);
      taken =
          ap (λ (extent : Extent). extent ∷ map (λ (segment : PlannedSegment). segment.extent) moved_on.segments) (are.record_extent ∙ it.plan.record_extent)
          ∙ ap (λ (extents : List Extent). it.room.record_extent ∷ extents) (named_extents moved_on.segments ∙ ap (map extent_in) names);
      tried = refl;
    }
