-- What a store prepared is a commit.
use Rattle.std.proofs.Common.{◌≡◌, ℕ, suc, ◌+◌, ◌*◌, ◌%◌, ◌<◌, ◌≤◌, ◌^◌, ⊎_elim, inl, inr, cond, Bool, true, false, not, List, [], ◌∷◌, ◌++◌, length, map, filter, count_by, sum_by, All, find, Option, None, Some, option_map, unwrap_or, Result, Ok, Err, IfOk, refl, sym, ◌∙◌, ap, subst, append_assoc, arith}
use Rattle.std.specs.List.{AllByRecursion}
use Rattle.std.specs.List.Sorted.{IsPermutation}
use Rattle.std.proofs.lemmas.List.Sums.{sum_by-cons, sum_by-append}
use Rattle.std.proofs.lemmas.Bool.{false≢true}
use Rattle.std.proofs.lemmas.Option.{none-some}
use Rattle.std.proofs.lemmas.List.Sorted.{All-permutation, IsPermutation-middle, IsPermutation-sym, IsPermutation-trans}
use Rattle.extent_pool.specs.Extents.{AreDisjoint, AreInOrder, end_of, keeps}
use Rattle.extent_pool.specs.Holes.{first_fit, has_room, holes_of}
use Rattle.extent_pool.specs.Placing.{Room, fit, placed, room_for, room_behind, room_with}
use Rattle.extent_pool.specs.declared.extent.TheConstants.{UNIT}
use Rattle.extent_pool.specs.declared.extent.Extent.{Extent}
use Rattle.flattener.specs.Fits.{EntryFits, SegmentFits}
use Rattle.index_core.specs.Kept.{AreBlocks, laid, made_by}
use Rattle.mapping.specs.Mapping.{Mapping, mapping_of}
use Rattle.mapping_growth.specs.Bodies.{AreBodies}
use Rattle.segment.specs.Live.{EntryState}
use Rattle.segment_builder.specs.Blocks.{blocks_in, blocks_of}
use Rattle.segment_parts.specs.Agree.{AreColumns}
use Rattle.segment_parts.specs.Text.{segment_text}
use Rattle.segment_parts.specs.declared.columns.Columns.{Columns}
use Rattle.segment_view.specs.Views.{HaveOwnIds}
use Rattle.store_text.specs.Header.{header_size}
use Rattle.store_text.specs.Pieces.{Piece}
use Rattle.store_text.specs.Record.{IsRecord, IsRow, record_size, record_text, body_size as text_body_size, row_size as text_row_size}
use Rattle.store_text.specs.declared.header.Side.{Side}
use Rattle.store_text.specs.declared.record.RecordText.{RecordText}
use Rattle.store_text.specs.declared.record.Row.{Row}
use Rattle.tree_json.specs.Text.{compact}
use Rattle.tree_json.specs.Value.{JsonValue}
use Rattle.commit_store.specs.declared.known.KnownSegment.{KnownSegment}
use Rattle.commit_store.specs.declared.refusal.CommitRefusal.{CommitRefusal}
use Rattle.commit_store.specs.Known.{StoreState, AreNamed, IsStore, IsKnownSegment, known_extents}
use Rattle.commit_store.specs.Placed.{IsSound}
use Rattle.commit_store.specs.Preparing.{PlannedSegment, PreparedState, HasBlocksOf, IsAsKnown, IsCommitOf, SaysView, IsCommittable, IsPlan, IsPreparedBy, IsPreparedFor, extents_left, header_extent, idle_side, known_as, moves, new_extents, new_sizes, planned, planned_as, room_of, row_size, size_of_record, stored_of, taken_by, taken_with, with_closed}
use Rattle.commit_store.specs.Rows.{planned_row}
use Rattle.commit_store.specs.Saying.{Saying, StoredSegment, StoreCommit, AreExtents, HasSource, HaveSources, IsGood, IsNewSegment, IsReadBack, IsSegmentOf, dead_of, entries_from, entries_of, extent_of, extents_of, last_generation, mapping_said, record_of, row_of}
use Rattle.commit_store.proofs.Apart.{Apart, AreAllApart, HasBytes, all_apart, disjoint_permuted}
use Rattle.commit_store.proofs.Sizes.{text_some}
use Rattle.commit_store.proofs.Blocks.{FitLaws, other_fits, planned_blocks, same_blocks, same_roots}
use Rattle.commit_store.proofs.Lists.{by_index, by_recursion}
use Rattle.commit_store.proofs.Once.{same_bodies}
use Rattle.commit_store.proofs.Planned.{all_as_known, ids_by_recursion, known_id_is, known_one, moved_are, planned_all, planned_fewer, planned_own_ids}
use Rattle.commit_store.proofs.Recorded.{body_texts, dead_counted, dead_fewer, dead_rising, dead_within}

-- what a commit of these segments says
abbrev says_of : Mapping → ℕ → List PlannedSegment → Saying
says_of m next segments = record { old = false; bodies = m.bodies; dynamic = m.dynamic; next = next; segments = map stored_of segments }

-- ---- the room

-- a room is found segment by segment and then for the record
pub record IsRoom (limit : ℕ) (taken : List Extent) (sizes : List ℕ) (size : ℕ) (room : Room) : Type 0 where
  pub placed_are : placed limit taken sizes ≡ Some room.segments
  pub fits : fit limit (room.segments ++ taken) size ≡ Some room.record_extent

room_parts : (limit : ℕ) (taken : List Extent) (sizes : List ℕ) (size : ℕ) (room : Room) → room_for limit taken sizes size ≡ Some room → IsRoom limit taken sizes size room
room_parts limit taken sizes size room same = by_places (placed limit taken sizes) refl same
  where
    by_fit : (segments : List Extent) → placed limit taken sizes ≡ Some segments → (extent : Option Extent) → fit limit (segments ++ taken) size ≡ extent → room_with segments extent ≡ Some room
        → IsRoom limit taken sizes size room
    by_fit segments places None fits is = absurd (none-some room is)
    by_fit segments places (Some extent) fits is =
        let here : record { segments = segments; record_extent = extent } ≡ room = ap (λ (it : Option Room). unwrap_or it (record { segments = segments; record_extent = extent })) is in
        subst (IsRoom limit taken sizes size) here (record { placed_are = places; fits = fits })

    by_places : (places : Option (List Extent)) → placed limit taken sizes ≡ places → room_behind limit taken size places ≡ Some room → IsRoom limit taken sizes size room
    by_places None is same = absurd (none-some room same)
    by_places (Some segments) is same = by_fit segments is (fit limit (segments ++ taken) size) refl same

fit_length : (len : ℕ) (holes : List Extent) (extent : Extent) → first_fit len holes ≡ Some extent → extent.len ≡ len
fit_length len holes extent same = by_hole (find (has_room len) holes) same
  where
    by_hole : (hole : Option Extent) → option_map (λ (it : Extent). record { at = it.at; len = len }) hole ≡ Some extent → extent.len ≡ len
    by_hole None is = absurd (none-some extent is)
    by_hole (Some hole) is = ap (λ (it : Option Extent). (unwrap_or it (record { at = 0; len = len })).len) (sym is)

-- ---- the record

rows_are : (segments : List PlannedSegment) → AllByRecursion IsSound segments → map row_of (map stored_of segments) ≡ map planned_row segments
rows_are [] sound = refl
rows_are (segment ∷ segments) sound =
    ap (λ (n : ℕ). record { at = segment.extent.at; len = n; dead = dead_of segment.live } ∷ map row_of (map stored_of segments)) (sym sound.0.long)
    ∙ ap (λ (rows : List Row). planned_row segment ∷ rows) (rows_are segments sound.1)

record_prepared_is : (m : Mapping) (next : ℕ) (segments : List PlannedSegment) → AllByRecursion IsSound segments
    → record_of (says_of m next segments) ≡ record { old = false; next = next; dynamic = m.dynamic; bodies = map compact m.bodies; rows = map planned_row segments }
record_prepared_is m next segments sound =
    ap (λ (rows : List Row). record { old = false; next = next; dynamic = m.dynamic; bodies = map compact m.bodies; rows = rows }) (rows_are segments sound)

bodies_long : (bodies : List JsonValue) → sum_by text_body_size (map compact bodies) ≡ sum_by (λ (body : JsonValue). 4 + length (compact body)) bodies
bodies_long [] = refl
bodies_long (body ∷ bodies) =
    sum_by-cons text_body_size (compact body) (map compact bodies)
    ∙ ap (λ (n : ℕ). (4 + length (compact body)) + n) (bodies_long bodies)
    ∙ sym (sum_by-cons (λ (it : JsonValue). 4 + length (compact it)) body bodies)

rows_long : (known : List KnownSegment) (view : List EntryState) (extents : List Extent) → sum_by text_row_size (map planned_row (planned known view extents)) ≡ sum_by row_size view
rows_long known [] extents = refl
rows_long known (entry ∷ view) extents =
    sum_by-cons text_row_size (planned_row (planned_as entry (known_as known entry.id) extents)) (map planned_row (planned known view (extents_left (known_as known entry.id) extents)))
    ∙ ap (λ (n : ℕ). (20 + 4 * n) + sum_by text_row_size (map planned_row (planned known view (extents_left (known_as known entry.id) extents)))) (dead_counted entry.live.roots)
    ∙ ap (λ (n : ℕ). row_size entry + n) (rows_long known view (extents_left (known_as known entry.id) extents))
    ∙ sym (sum_by-cons row_size entry view)

record_long : (m : Mapping) (next : ℕ) (known : List KnownSegment) (view : List EntryState) (extents : List Extent)
    → record_size (record { old = false; next = next; dynamic = m.dynamic; bodies = map compact m.bodies; rows = map planned_row (planned known view extents) }) ≡ size_of_record m view
unfolding record_size
record_long m next known view extents =
    let bodies = bodies_long m.bodies in
    let rows = rows_long known view extents in
    omega (arith, bodies, rows)

row_fits : (limit : ℕ) (segment : PlannedSegment) → limit ≤ 2 ^ 38 → IsSound segment → length segment.live ≡ length segment.entry.columns.roots → end_of segment.extent ≤ limit
    → IsRow (planned_row segment)
row_fits limit segment few sound marks within =
    let roots : length segment.live < 2 ^ 32 = subst (λ (n : ℕ). n < 2 ^ 32) (sym marks) sound.agree.parts.roots_are.fewer in
    record {
      at = omega (arith, within, few);
      len = omega (arith, within, few);
      few = omega (arith, roots, dead_fewer segment.live);
      indexes = dead_within segment.live roots;
      ascending = dead_rising segment.live;
    }

rows_fit : (limit : ℕ) (m : Mapping) (segments : List PlannedSegment) → limit ≤ 2 ^ 38 → AllByRecursion IsSound segments → AllByRecursion (IsSegmentOf m) (map stored_of segments)
    → AllByRecursion (λ (extent : Extent). end_of extent ≤ limit) (map (λ (segment : PlannedSegment). segment.extent) segments) → AllByRecursion IsRow (map planned_row segments)
rows_fit limit m [] few sound are within = tt
rows_fit limit m (segment ∷ segments) few sound are within =
    (row_fits limit segment few sound.0 are.0.marks within.0, rows_fit limit m segments few sound.1 are.1 within.1)

rows_many : (segments : List PlannedSegment) → length (map planned_row segments) ≡ length segments
rows_many [] = refl
rows_many (segment ∷ segments) = ap suc (rows_many segments)

planned_many : (known : List KnownSegment) (view : List EntryState) (extents : List Extent) → length (planned known view extents) ≡ length view
planned_many known [] extents = refl
planned_many known (entry ∷ view) extents = ap suc (planned_many known view (extents_left (known_as known entry.id) extents))

-- ---- the segments

known_blocks : (known : List KnownSegment) (entry : EntryState) (own : KnownSegment) → AllByRecursion (HasBlocksOf entry) known → known_as known entry.id ≡ Some own
    → blocks_of entry.columns ≡ blocks_of own.entry.columns
known_blocks known entry own blocks same = known_one (HasBlocksOf entry) known entry.id own blocks same (sym (known_id_is known entry.id own same))

segments_are : FitLaws → (m : Mapping) (known : List KnownSegment) (view : List EntryState) (extents : List Extent) → AllByRecursion IsKnownSegment known → AllByRecursion (EntryFits m) view
    → AllByRecursion (λ (entry : EntryState). HaveSources entry.columns) view → AllByRecursion (λ (entry : EntryState). AllByRecursion (HasBlocksOf entry) known) view
    → AllByRecursion (IsSegmentOf m) (map stored_of (planned known view extents))
segments_are laws m known [] extents knowns fits sources blocks = tt
segments_are laws m known (entry ∷ view) extents knowns fits sources blocks =
    (by_known (known_as known entry.id) refl, segments_are laws m known view (extents_left (known_as known entry.id) extents) knowns fits.1 sources.1 blocks.1)
  where
    by_known : (own : Option KnownSegment) → known_as known entry.id ≡ own → IsSegmentOf m (stored_of (planned_as entry own extents))
    by_known None same = record { fits = fits.0.segment; marks = fits.0.live.roots; sources = sources.0 }
    by_known (Some own) same =
        let is : IsKnownSegment own = known_one IsKnownSegment known entry.id own knowns same in
        let same_as : blocks_of entry.columns ≡ blocks_of own.entry.columns = known_blocks known entry own blocks.0 same in
        record {
          fits = other_fits laws m is.mapping entry.columns own.entry.columns fits.0.segment is.fits same_as;
          marks = fits.0.live.roots ∙ same_roots laws m is.mapping entry.columns own.entry.columns fits.0.segment is.fits same_as;
          sources = subst (All HasSource) same_as sources.0;
        }

new_forms : (segments : List PlannedSegment) → AllByRecursion IsSound segments → AllByRecursion IsNewSegment (map stored_of segments)
new_forms [] sound = tt
new_forms (segment ∷ segments) sound = (record { are = sound.0.agree; text = refl }, new_forms segments sound.1)

-- ---- the extents

pub first_part : (P : Extent → Type 0) (ones others : List Extent) → AllByRecursion P (ones ++ others) → AllByRecursion P ones
first_part P [] others all = tt
first_part P (one ∷ ones) others all = (all.0, first_part P ones others all.1)

pub second_part : (P : Extent → Type 0) (ones others : List Extent) → AllByRecursion P (ones ++ others) → AllByRecursion P others
second_part P [] others all = all
second_part P (one ∷ ones) others all = second_part P ones others all.1

pub known_among : (P : Extent → Type 0) (side : Option Side) (known : List KnownSegment) (named : List Extent) → AreNamed side known named → AllByRecursion P named → AllByRecursion P (known_extents known)
known_among P None known named are all = subst (λ (it : List KnownSegment). AllByRecursion P (known_extents it)) (sym are.0) tt
known_among P (Some side) known [] are all = absurd are
known_among P (Some side) known (extent ∷ extents) (inl none) all = subst (λ (it : List KnownSegment). AllByRecursion P (known_extents it)) (sym none) tt
known_among P (Some side) known (extent ∷ extents) (inr same) all = subst (AllByRecursion P) (sym same) all.1

known_fewer : (test : Extent → Bool) (side : Option Side) (known : List KnownSegment) (named : List Extent) → AreNamed side known named → count_by test (known_extents known) ≤ count_by test named
known_fewer test None known named are = omega (arith, ap (λ (it : List KnownSegment). count_by test (known_extents it)) are.0)
known_fewer test (Some side) known [] are = absurd are
known_fewer test (Some side) known (extent ∷ extents) (inl none) = omega (arith, ap (λ (it : List KnownSegment). count_by test (known_extents it)) none)
known_fewer test (Some side) known (extent ∷ extents) (inr same) =
    omega (arith, ap (count_by test) same, sum_by-cons (λ (it : Extent). cond (test it) 1 0) extent extents)

-- what is so of all that is taken is so of the extents that the commit names
named_all : (P : Extent → Type 0) (store : StoreState) (view : List EntryState) (room : Room) (taken : List Extent) → IsStore store
    → placed store.limit (taken_by store) (new_sizes store.known view) ≡ Some room.segments → IsPermutation (taken_with room store) taken → All P taken
    → AllByRecursion P (room.record_extent ∷ map (λ (segment : PlannedSegment). segment.extent) (planned store.known view room.segments))
named_all P store view room taken is places moved all =
    let whole : AllByRecursion P (taken_with room store)
    = by_recursion P (taken_with room store) (All-permutation P taken (taken_with room store) (IsPermutation-sym (taken_with room store) taken moved) all) in (
      whole.0,
      planned_all P store.known store.limit view (taken_by store) room.segments places (first_part P room.segments (taken_by store) whole.1)
          (known_among P store.side store.known store.named is.names (second_part P room.segments (taken_by store) whole.1).1),
    )

sound_some : (segments : List PlannedSegment) → AllByRecursion IsSound segments → AllByRecursion HasBytes (map (λ (segment : PlannedSegment). segment.extent) segments)
sound_some [] sound = tt
sound_some (segment ∷ segments) sound = (omega (arith, sound.0.long, text_some segment.entry.columns), sound_some segments sound.1)

behind_new : (extents rest : List Extent) → AllByRecursion HasBytes extents → AreAllApart (extents ++ header_extent ∷ rest) → AllByRecursion (λ (extent : Extent). header_size ≤ extent.at) extents
behind_new [] rest some apart = tt
behind_new (extent ∷ extents) rest some apart = (behind_one extents apart.0, behind_new extents rest some.1 apart.1)
  where
    behind_one : (others : List Extent) → AllByRecursion (Apart extent) (others ++ header_extent ∷ rest) → header_size ≤ extent.at
    behind_one [] apart = ⊎_elim (λ (before : extent.at + extent.len ≤ 0). absurd (omega (arith, before, some.0))) (λ (behind : header_size ≤ extent.at). behind) apart.0
    behind_one (other ∷ others) apart = behind_one others apart.1

disjoint_named : (store : StoreState) (view : List EntryState) (room : Room) (taken : List Extent) → IsStore store → HaveOwnIds view
    → placed store.limit (taken_by store) (new_sizes store.known view) ≡ Some room.segments → IsPermutation (taken_with room store) taken → AreDisjoint taken
    → AreDisjoint (room.record_extent ∷ map (λ (segment : PlannedSegment). segment.extent) (planned store.known view room.segments))
disjoint_named store view room taken is own places moved disjoint = record {
  one_at_most = λ byte.
      let test : Extent → Bool = keeps byte in
      let most = (disjoint_permuted (taken_with room store) taken moved disjoint).one_at_most byte in
      let whole = sum_by-cons (λ (it : Extent). cond (keeps byte it) 1 0) room.record_extent (room.segments ++ taken_by store) in
      let parts = sum_by-append (λ (it : Extent). cond (keeps byte it) 1 0) room.segments (taken_by store) in
      let behind = sum_by-cons (λ (it : Extent). cond (keeps byte it) 1 0) header_extent store.named in
      let here = sum_by-cons (λ (it : Extent). cond (keeps byte it) 1 0) room.record_extent (map (λ (segment : PlannedSegment). segment.extent) (planned store.known view room.segments)) in
      let fewer = planned_fewer (keeps byte) store.known store.limit view (taken_by store) room.segments (ids_by_recursion view own) places in
      let known = known_fewer (keeps byte) store.side store.known store.named is.names in
      omega (arith, most, whole, parts, behind, here, fewer, known);
}

-- ---- the commit

-- a record's text is as long as its size says
abbrev pub RecordLength : Type 0
RecordLength = (it : RecordText) → length (record_text it) ≡ record_size it

-- what is known when a commit has been planned
pub record IsPlanned (store : StoreState) (m : Mapping) (next : ℕ) (view : List EntryState) (prepared : PreparedState) : Type 0 where
  pub is : IsStore store
  pub committable : IsCommittable store m next view
  pub own : HaveOwnIds view
  pub bodies : AreBodies m.bodies
  pub mapping : m ≡ mapping_of m.bodies m.dynamic
  pub below : store.tried < last_generation
  pub few : length view < 2 ^ 32
  pub for_view : IsPreparedFor store m next view prepared
  pub sound : AllByRecursion IsSound prepared.segments
  pub in_order : AreInOrder prepared.limit prepared.taken
  pub disjoint : AreDisjoint prepared.taken

abbrev commit_planned : StoreState → Mapping → ℕ → PreparedState → StoreCommit
commit_planned store m next prepared = record {
  side = idle_side store.side;
  generation = store.tried + 1;
  body = record { at = prepared.record_extent.at; bytes = record_text (record_of (says_of m next prepared.segments)) };
  segments = map (λ (it : StoredSegment). it.piece) (map stored_of prepared.segments);
  says = says_of m next prepared.segments;
}

pieces_extents : (segments : List PlannedSegment) → AllByRecursion IsSound segments
    → map extent_of (map (λ (it : StoredSegment). it.piece) (map stored_of segments)) ≡ map (λ (segment : PlannedSegment). segment.extent) segments
pieces_extents [] sound = refl
pieces_extents (segment ∷ segments) sound =
    ap (λ (n : ℕ). record { at = segment.extent.at; len = n } ∷ map extent_of (map (λ (it : StoredSegment). it.piece) (map stored_of segments))) (sym sound.0.long)
    ∙ ap (λ (extents : List Extent). segment.extent ∷ extents) (pieces_extents segments sound.1)

all_blocks : (known : List KnownSegment) (entries : List EntryState) → AllByRecursion (λ (entry : EntryState). All (HasBlocksOf entry) known) entries
    → AllByRecursion (λ (entry : EntryState). AllByRecursion (HasBlocksOf entry) known) entries
all_blocks known [] all = tt
all_blocks known (entry ∷ entries) all = (by_recursion (HasBlocksOf entry) known all.0, all_blocks known entries all.1)

blocks_of_known : (store : StoreState) (view : List EntryState) → All (λ (entry : EntryState). All (HasBlocksOf entry) store.known) view
    → AllByRecursion (λ (entry : EntryState). AllByRecursion (HasBlocksOf entry) store.known) view
blocks_of_known store view all = all_blocks store.known view (by_recursion (λ (entry : EntryState). All (HasBlocksOf entry) store.known) view all)

segments_planned : (store : StoreState) (m : Mapping) (next : ℕ) (view : List EntryState) (prepared : PreparedState) → FitLaws → IsPlanned store m next view prepared
    → AllByRecursion (IsSegmentOf m) (map stored_of prepared.segments)
segments_planned store m next view prepared laws it =
    subst (λ (segments : List PlannedSegment). AllByRecursion (IsSegmentOf m) (map stored_of segments)) (sym it.for_view.plan.segments)
    (segments_are laws m store.known view it.for_view.room.segments it.is.segments
    (by_recursion (EntryFits m) view it.committable.fits.each)
    (by_recursion (λ (entry : EntryState). HaveSources entry.columns) view it.committable.sources)
    (blocks_of_known store view it.committable.known))

-- the extents that the commit names
abbrev named_extents : PreparedState → List Extent
named_extents prepared = prepared.record_extent ∷ map (λ (segment : PlannedSegment). segment.extent) prepared.segments

room_is : (store : StoreState) (m : Mapping) (next : ℕ) (view : List EntryState) (prepared : PreparedState) → (it : IsPreparedFor store m next view prepared)
    → IsRoom store.limit (taken_by store) (new_sizes store.known view) (size_of_record m view) it.room
room_is store m next view prepared it = room_parts store.limit (taken_by store) (new_sizes store.known view) (size_of_record m view) it.room it.first_fit

named_are : (store : StoreState) (m : Mapping) (next : ℕ) (view : List EntryState) (prepared : PreparedState) → (it : IsPreparedFor store m next view prepared)
    → it.room.record_extent ∷ map (λ (segment : PlannedSegment). segment.extent) (planned store.known view it.room.segments) ≡ named_extents prepared
named_are store m next view prepared it =
    ap (λ (extent : Extent). extent ∷ map (λ (segment : PlannedSegment). segment.extent) (planned store.known view it.room.segments)) (sym it.plan.record_extent)
    ∙ ap (λ (segments : List PlannedSegment). prepared.record_extent ∷ map (λ (segment : PlannedSegment). segment.extent) segments) (sym it.plan.segments)

all_named : (P : Extent → Type 0) (store : StoreState) (m : Mapping) (next : ℕ) (view : List EntryState) (prepared : PreparedState) → IsPlanned store m next view prepared
    → All P prepared.taken → AllByRecursion P (named_extents prepared)
all_named P store m next view prepared it all =
    subst (AllByRecursion P) (named_are store m next view prepared it.for_view)
    (named_all P store view it.for_view.room prepared.taken it.is (room_is store m next view prepared it.for_view).placed_are it.for_view.plan.taken all)

record_is_long : (store : StoreState) (m : Mapping) (next : ℕ) (view : List EntryState) (prepared : PreparedState) → (it : IsPreparedFor store m next view prepared)
    → prepared.record_extent.len ≡ size_of_record m view
record_is_long store m next view prepared it =
    ap (λ (extent : Extent). extent.len) it.plan.record_extent
    ∙ fit_length (size_of_record m view) (holes_of store.limit (it.room.segments ++ taken_by store)) it.room.record_extent (room_is store m next view prepared it).fits

some_named : (store : StoreState) (m : Mapping) (next : ℕ) (view : List EntryState) (prepared : PreparedState) → IsPlanned store m next view prepared
    → AllByRecursion HasBytes (named_extents prepared)
some_named store m next view prepared it =
    (omega (arith, record_is_long store m next view prepared it.for_view), sound_some prepared.segments it.sound)

both_some : (ones others : List Extent) → AllByRecursion HasBytes ones → AllByRecursion HasBytes others → AllByRecursion HasBytes (ones ++ others)
both_some [] others some more = more
both_some (one ∷ ones) others some more = (some.0, both_some ones others some.1 more)

moved_some : (segments : List PlannedSegment) → AllByRecursion IsSound segments → AllByRecursion HasBytes (map (λ (segment : PlannedSegment). segment.extent) (filter moves segments))
moved_some [] sound = tt
moved_some (segment ∷ segments) sound = by_move (moves segment) (moved_some segments sound.1)
  where
    by_move : (it : Bool) → AllByRecursion HasBytes (map (λ (own : PlannedSegment). own.extent) (filter moves segments)) → AllByRecursion HasBytes (map (λ (own : PlannedSegment). own.extent) (cond it (segment ∷ filter moves segments) (filter moves segments)))
    by_move true more = (omega (arith, sound.0.long, text_some segment.entry.columns), more)
    by_move false more = more

moved_planned : (store : StoreState) (m : Mapping) (next : ℕ) (view : List EntryState) (prepared : PreparedState) → (it : IsPreparedFor store m next view prepared)
    → map (λ (segment : PlannedSegment). segment.extent) (filter moves prepared.segments) ≡ it.room.segments
moved_planned store m next view prepared it =
    ap (λ (segments : List PlannedSegment). map (λ (segment : PlannedSegment). segment.extent) (filter moves segments)) it.plan.segments
    ∙ moved_are store.known store.limit view (taken_by store) it.room.segments (room_is store m next view prepared it).placed_are

fresh_some : (store : StoreState) (m : Mapping) (next : ℕ) (view : List EntryState) (prepared : PreparedState) → (it : IsPlanned store m next view prepared)
    → AllByRecursion HasBytes (it.for_view.room.record_extent ∷ it.for_view.room.segments)
fresh_some store m next view prepared it = (
  subst HasBytes it.for_view.plan.record_extent (some_named store m next view prepared it).0,
  subst (AllByRecursion HasBytes) (moved_planned store m next view prepared it.for_view) (moved_some prepared.segments it.sound),
)

behind_named : (store : StoreState) (m : Mapping) (next : ℕ) (view : List EntryState) (prepared : PreparedState) → IsPlanned store m next view prepared
    → AllByRecursion (λ (extent : Extent). header_size ≤ extent.at) (named_extents prepared)
behind_named store m next view prepared it =
    let room : Room = it.for_view.room in
    let some : AllByRecursion HasBytes (room.record_extent ∷ room.segments) = fresh_some store m next view prepared it in
    let apart : AreAllApart (taken_with room store)
    = all_apart (taken_with room store)
    (both_some (room.record_extent ∷ room.segments) (taken_by store) some (omega arith, by_recursion HasBytes store.named it.is.places.some))
    (disjoint_permuted (taken_with room store) prepared.taken it.for_view.plan.taken it.disjoint) in
    let new = behind_new (room.record_extent ∷ room.segments) store.named some apart in
    subst (AllByRecursion (λ (extent : Extent). header_size ≤ extent.at)) (named_are store m next view prepared it.for_view) (
      new.0,
      planned_all (λ (extent : Extent). header_size ≤ extent.at) store.known store.limit view (taken_by store) room.segments
          (room_is store m next view prepared it.for_view).placed_are new.1
          (known_among (λ (extent : Extent). header_size ≤ extent.at) store.side store.known store.named it.is.names
          (by_recursion (λ (extent : Extent). header_size ≤ extent.at) store.named it.is.places.behind)),
    )

places_planned : (store : StoreState) (m : Mapping) (next : ℕ) (view : List EntryState) (prepared : PreparedState) → IsPlanned store m next view prepared
    → AreExtents store.limit (named_extents prepared)
places_planned store m next view prepared it =
    let limit : prepared.limit ≡ store.limit = it.for_view.plan.limit in
    record {
      aligned = by_index (λ (extent : Extent). extent.at % UNIT ≡ 0) (named_extents prepared) (all_named (λ (extent : Extent). extent.at % UNIT ≡ 0) store m next view prepared it it.in_order.aligned);
      behind = by_index (λ (extent : Extent). header_size ≤ extent.at) (named_extents prepared) (behind_named store m next view prepared it);
      some = by_index HasBytes (named_extents prepared) (some_named store m next view prepared it);
      within =
          by_index (λ (extent : Extent). end_of extent ≤ store.limit) (named_extents prepared)
          (all_named (λ (extent : Extent). end_of extent ≤ store.limit) store m next view prepared it
          (subst (λ (n : ℕ). All (λ (extent : Extent). end_of extent ≤ n) prepared.taken) limit it.in_order.within));
      disjoint =
          subst AreDisjoint (named_are store m next view prepared it.for_view)
          (disjoint_named store view it.for_view.room prepared.taken it.is it.own (room_is store m next view prepared it.for_view).placed_are it.for_view.plan.taken it.disjoint);
    }

text_long : RecordLength → (store : StoreState) (m : Mapping) (next : ℕ) (view : List EntryState) (prepared : PreparedState) → IsPlanned store m next view prepared
    → length (record_text (record_of (says_of m next prepared.segments))) ≡ prepared.record_extent.len
text_long law store m next view prepared it =
    ap (λ (record_is : RecordText). length (record_text record_is)) (record_prepared_is m next prepared.segments it.sound)
    ∙ ap (λ (segments : List PlannedSegment). length (record_text (record { old = false; next = next; dynamic = m.dynamic; bodies = map compact m.bodies; rows = map planned_row segments }))) it.for_view.plan.segments
    ∙ law (record { old = false; next = next; dynamic = m.dynamic; bodies = map compact m.bodies; rows = map planned_row (planned store.known view it.for_view.room.segments) })
    ∙ record_long m next store.known view it.for_view.room.segments
    ∙ sym (record_is_long store m next view prepared it.for_view)

extents_planned : RecordLength → (store : StoreState) (m : Mapping) (next : ℕ) (view : List EntryState) (prepared : PreparedState) → IsPlanned store m next view prepared
    → extents_of (commit_planned store m next prepared) ≡ named_extents prepared
extents_planned law store m next view prepared it =
    ap (λ (n : ℕ). record { at = prepared.record_extent.at; len = n } ∷ map extent_of (map (λ (own : StoredSegment). own.piece) (map stored_of prepared.segments))) (text_long law store m next view prepared it)
    ∙ ap (λ (extents : List Extent). prepared.record_extent ∷ extents) (pieces_extents prepared.segments it.sound)

numbers_planned : FitLaws → (store : StoreState) (m : Mapping) (next : ℕ) (view : List EntryState) (prepared : PreparedState) → IsPlanned store m next view prepared
    → IsRecord (record_of (says_of m next prepared.segments))
numbers_planned laws store m next view prepared it =
    subst IsRecord (sym (record_prepared_is m next prepared.segments it.sound)) (record {
      next = omega (arith, it.committable.few);
      bodies = body_texts m.bodies it.bodies;
      few = omega (arith, it.few, rows_many prepared.segments, ap length it.for_view.plan.segments, planned_many store.known view it.for_view.room.segments);
      rows =
          by_index IsRow (map planned_row prepared.segments)
          (rows_fit store.limit m prepared.segments it.is.limit it.sound (segments_planned store m next view prepared laws it)
          (by_recursion (λ (extent : Extent). end_of extent ≤ store.limit) (named_extents prepared) (places_planned store m next view prepared it).within).1);
      old = λ same. absurd (false≢true same);
    })

blocks_planned : (store : StoreState) (m : Mapping) (next : ℕ) (view : List EntryState) (prepared : PreparedState) → IsPlanned store m next view prepared
    → map blocks_in (entries_from 0 (map stored_of prepared.segments)) ≡ map blocks_in view
blocks_planned store m next view prepared it =
    ap (λ (segments : List PlannedSegment). map blocks_in (entries_from 0 (map stored_of segments))) it.for_view.plan.segments
    ∙ planned_blocks store.known view it.for_view.room.segments 0 (blocks_of_known store view it.committable.known)

stored_many : (segments : List PlannedSegment) → length (map stored_of segments) ≡ length segments
stored_many [] = refl
stored_many (segment ∷ segments) = ap suc (stored_many segments)

good_planned : FitLaws → RecordLength → (store : StoreState) (m : Mapping) (next : ℕ) (view : List EntryState) (prepared : PreparedState) → IsPlanned store m next view prepared
    → IsGood store.limit (commit_planned store m next prepared)
good_planned laws law store m next view prepared it = record {
  first = omega arith;
  last = omega (arith, it.below);
  numbers = numbers_planned laws store m next view prepared it;
  text = refl;
  pieces = refl;
  places = subst (AreExtents store.limit) (sym (extents_planned law store m next view prepared it)) (places_planned store m next view prepared it);
  mapping = it.bodies;
  read = by_recursion IsReadBack m.bodies it.committable.read;
  form = new_forms prepared.segments it.sound;
  segments = subst (λ (own : Mapping). AllByRecursion (IsSegmentOf own) (map stored_of prepared.segments)) it.mapping (segments_planned store m next view prepared laws it);
  blocks =
      same_blocks (entries_from 0 (map stored_of prepared.segments)) view (made_by view) (length (map stored_of prepared.segments)) next (blocks_planned store m next view prepared it)
      (omega (arith, it.few, stored_many prepared.segments, ap length it.for_view.plan.segments, planned_many store.known view it.for_view.room.segments)) it.committable.blocks;
  next = it.committable.few;
}

-- A store that planned a commit with its idle gate closed has prepared it.
pub prepared_by : FitLaws → RecordLength → (store : StoreState) (m : Mapping) (next : ℕ) (view : List EntryState) (prepared : PreparedState) → IsPlanned store m next view prepared
    → IsPreparedBy (with_closed store) prepared
prepared_by laws law store m next view prepared it =
    let segments : prepared.segments ≡ planned store.known view it.for_view.room.segments = it.for_view.plan.segments in
    record {
      closed = refl;
      below = it.below;
      ids = subst (λ (own : List PlannedSegment). HaveOwnIds (map (λ (segment : PlannedSegment). segment.entry) own)) (sym segments) (planned_own_ids store.known view it.for_view.room.segments it.own);
      known =
          subst (AllByRecursion (λ (segment : PlannedSegment). IsAsKnown segment (known_as store.known segment.entry.id))) (sym segments)
          (all_as_known store.known view it.for_view.room.segments);
      long = all_long prepared.segments it.sound;
      limit = it.for_view.plan.limit;
      taken =
          subst (λ (own : List Extent). IsPermutation (own ++ taken_by store) prepared.taken)
          (ap (λ (own : List Extent). own ++ it.for_view.room.record_extent ∷ []) (sym (moved_planned store m next view prepared it.for_view))
          ∙ ap (λ (own : Extent). map (λ (segment : PlannedSegment). segment.extent) (filter moves prepared.segments) ++ own ∷ []) (sym it.for_view.plan.record_extent))
          (subst (λ (own : List Extent). IsPermutation own prepared.taken) (sym (append_assoc it.for_view.room.segments (it.for_view.room.record_extent ∷ []) (taken_by store)))
          (IsPermutation-trans (it.for_view.room.segments ++ it.for_view.room.record_extent ∷ taken_by store) (taken_with it.for_view.room store) prepared.taken
          (IsPermutation-middle it.for_view.room.segments it.for_view.room.record_extent (taken_by store)) it.for_view.plan.taken));
      disjoint = it.disjoint;
      commit = (
        commit_planned store m next prepared,
        record {
          side = refl;
          generation = refl;
          old = refl;
          bodies = sym it.for_view.plan.bodies;
          dynamic = sym it.for_view.plan.dynamic;
          next = sym it.for_view.plan.next_is;
          segments = refl;
          record_extent = ap (λ (n : ℕ). record { at = prepared.record_extent.at; len = n }) (text_long law store m next view prepared it);
          good = good_planned laws law store m next view prepared it;
        },
      );
    }
  where
    all_long : (segments : List PlannedSegment) → AllByRecursion IsSound segments → AllByRecursion (λ (segment : PlannedSegment). segment.extent.len ≡ length (segment_text segment.entry.columns)) segments
    all_long [] sound = tt
    all_long (segment ∷ segments) sound = (sound.0.long, all_long segments sound.1)

-- what it says is the view
pub says_view : (store : StoreState) (m : Mapping) (next : ℕ) (view : List EntryState) (prepared : PreparedState) → IsPlanned store m next view prepared
    → (c : StoreCommit) → IsCommitOf (with_closed store) prepared c → SaysView m next view c
says_view store m next view prepared it c is = record {
  bodies = same_bodies c.says.bodies m.bodies is.good.read (by_recursion IsReadBack m.bodies it.committable.read) (is.bodies ∙ it.for_view.plan.bodies);
  dynamic = is.dynamic ∙ it.for_view.plan.dynamic;
  next_is = is.next ∙ it.for_view.plan.next_is;
  blocks = ap (λ (segments : List StoredSegment). map blocks_in (entries_from 0 segments)) is.segments ∙ blocks_planned store m next view prepared it;
}

-- ---- as results of a call

-- what is so of a result where it is Ok
pub record IsPlannedAs (store : StoreState) (m : Mapping) (next : ℕ) (view : List EntryState) (result : Result PreparedState CommitRefusal) : Type 0 where
  pub is : IsStore store
  pub committable : IsCommittable store m next view
  pub own : HaveOwnIds view
  pub below : store.tried < last_generation
  pub for_view : IfOk result (IsPreparedFor store m next view)
  pub sound : IfOk result (λ prepared. AllByRecursion IsSound prepared.segments)
  pub in_order : IfOk result (λ prepared. AreInOrder prepared.limit prepared.taken)
  pub disjoint : IfOk result (λ prepared. AreDisjoint prepared.taken)
  pub few : IfOk result (λ prepared. length view < 2 ^ 32)
  pub bodies : IfOk result (λ prepared. AreBodies m.bodies)
  pub mapping : IfOk result (λ prepared. m ≡ mapping_of m.bodies m.dynamic)

planned_ok : (store : StoreState) (m : Mapping) (next : ℕ) (view : List EntryState) (prepared : PreparedState) → IsPlannedAs store m next view (Ok prepared) → IsPlanned store m next view prepared
planned_ok store m next view prepared it = record {
  is = it.is;
  committable = it.committable;
  own = it.own;
  bodies = it.bodies;
  mapping = it.mapping;
  below = it.below;
  few = it.few;
  for_view = it.for_view;
  sound = it.sound;
  in_order = it.in_order;
  disjoint = it.disjoint;
}

pub prepared_as : FitLaws → RecordLength → (store : StoreState) (m : Mapping) (next : ℕ) (view : List EntryState) (result : Result PreparedState CommitRefusal) → IsPlannedAs store m next view result
    → IfOk result (IsPreparedBy (with_closed store))
prepared_as laws law store m next view (Ok prepared) it = prepared_by laws law store m next view prepared (planned_ok store m next view prepared it)
prepared_as laws law store m next view (Err refusal) it = tt

pub says_as : (store : StoreState) (m : Mapping) (next : ℕ) (view : List EntryState) (result : Result PreparedState CommitRefusal) → IsPlannedAs store m next view result
    → IfOk result (λ prepared. (c : StoreCommit) → IsCommitOf (with_closed store) prepared c → SaysView m next view c)
says_as store m next view (Ok prepared) it = says_view store m next view prepared (planned_ok store m next view prepared it)
says_as store m next view (Err refusal) it = tt
