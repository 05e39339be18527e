-- What was read of a commit is what a store knows of it, and its view may be committed again.
use Rattle.std.proofs.Common.{◌≡◌, ◌≢◌, ℕ, zero, suc, ◌+◌, ◌-◌, ◌<◌, ◌≤◌, ◌^◌, max, inl, inr, Bool, true, false, List, [], ◌∷◌, ◌++◌, length, map, drop, get_or, All, Option, None, Some, refl, sym, ◌∙◌, ap, subst, arith}
use Rattle.std.specs.List.{AllByRecursion}
use Rattle.std.proofs.lemmas.List.Elements.{All-nil, All-cons, All-head, All-tail}
use Rattle.commit_images.specs.Commits.{Finds}
use Rattle.commit_store.specs.Known.{StoreState, IsKnownSegment, IsStore, entry_of, greatest_limit, known_extents}
use Rattle.commit_store.specs.Preparing.{HasBlocksOf, IsCommittable}
use Rattle.commit_store.specs.Saying.{StoredSegment, StoreCommit, HaveSources, IsGood, IsReadBack, entries_from, entries_of, extent_of, extents_of, last_generation, live_by}
use Rattle.commit_store.specs.declared.known.KnownSegment.{KnownSegment}
use Rattle.extent_pool.specs.declared.extent.Extent.{Extent}
use Rattle.flattener.specs.Fits.{SegmentFits, ViewFits}
use Rattle.index_core.proofs.Jobs.{each as by_recursion}
use Rattle.index_core.proofs.Relaying.{all_index as by_index}
use Rattle.index_core.proofs.Viewing.{view_fits}
use Rattle.index_core.specs.Found.{AreFit, AreWhole as AreWholeEntries, IsWhole}
use Rattle.index_core.specs.Kept.{AreBlocks, laid, made_by}
use Rattle.mapping.specs.Mapping.{Mapping}
use Rattle.segment.specs.Live.{EntryState, IsLiveOver}
use Rattle.segment_builder.specs.Blocks.{blocks_of}
use Rattle.segment_view.specs.Views.{HaveOwnBits, HaveOwnIds}
use Rattle.store_text.specs.Pieces.{Piece}
use Rattle.store_text.specs.declared.header.Side.{Side}
use Rattle.store_text.specs.declared.record.RecordText.{RecordText}
use Rattle.store_text.specs.declared.record.Row.{Row}
use Rattle.store_opening.specs.Blocks.{IsKnownEntry}
use Rattle.store_opening.specs.Entries.{AreNumbered, IsEntryOf, IsSaid, extent_in, extents_named}
use Rattle.commit_store.specs.Opened.{known_by_form, known_from, known_in, store_found}
use Rattle.store_opening.specs.Opening.{AreWhole}
use Rattle.store_opening.specs.Shown.{IsOfCommit, known_read, known_rows, store_read}
use Rattle.store_opening.proofs.Said.{bodies_read}
use Rattle.store_opening.proofs.Sourced.{BlockLaws, sources_of}

-- ---- what is known of the segments

extents_known : (m : Mapping) (id : ℕ) (rows : List Row) (entries : List EntryState) → AreNumbered (IsEntryOf m false) id rows entries
    → known_extents (known_rows entries rows) ≡ map extent_in rows
extents_known m id [] [] are = refl
extents_known m id [] (entry ∷ entries) are = absurd are
extents_known m id (row ∷ rows) [] are = absurd are
extents_known m id (row ∷ rows) (entry ∷ entries) are = ap (λ (es : List Extent). extent_in row ∷ es) (extents_known m (id + 1) rows entries are.1)

entries_known : (m : Mapping) (id : ℕ) (rows : List Row) (entries : List EntryState) → AreNumbered (IsEntryOf m false) id rows entries
    → map entry_of (known_rows entries rows) ≡ entries
entries_known m id [] [] are = refl
entries_known m id [] (entry ∷ entries) are = absurd are
entries_known m id (row ∷ rows) [] are = absurd are
entries_known m id (row ∷ rows) (entry ∷ entries) are = ap (λ (es : List EntryState). entry ∷ es) (entries_known m (id + 1) rows entries are.1)

segments_known : (m : Mapping) (id : ℕ) (rows : List Row) (entries : List EntryState) → AreNumbered (IsEntryOf m false) id rows entries
    → AllByRecursion IsKnownSegment (known_rows entries rows)
segments_known m id [] [] are = tt
segments_known m id [] (entry ∷ entries) are = absurd are
segments_known m id (row ∷ rows) [] are = absurd are
segments_known m id (row ∷ rows) (entry ∷ entries) are = (
  record {
    agree = are.0.text.is.are;
    long = sym are.0.text.long ∙ ap length are.0.text.is.text;
    mapping = m;
    fits = are.0.fits;
  },
  segments_known m (id + 1) rows entries are.1,
)

-- ---- the store

no_pairs : HaveOwnIds []
no_pairs i j d before inside = absurd (omega (arith, inside))

pub store_is : (limit : ℕ) (side : Side) (generation at len : ℕ) (closed : Bool) (it : RecordText) (m : Mapping) (view : List EntryState)
    → limit ≤ 2 ^ 38 → generation ≤ last_generation → HaveOwnIds view → IsSaid limit at len it m view
    → IsStore (store_read limit side generation closed at len it view)
store_is limit side generation at len closed it m view few last own said = by it.old said.entries
  where
    by : (old : Bool) → AreNumbered (IsEntryOf m old) 0 it.rows view
        → IsStore (record { limit = limit; side = Some side; known = known_read old view it.rows; named = extents_named at len it; tried = generation; closed = closed })
    by true are = record { limit = few; places = said.head.places; names = inl refl; segments = tt; ids = no_pairs; tried = last }
    by false are = record {
      limit = few;
      places = said.head.places;
      names = inr (extents_known m 0 it.rows view are);
      segments = segments_known m 0 it.rows view are;
      ids = subst (λ (es : List EntryState). HaveOwnIds es) (sym (entries_known m 0 it.rows view are)) own;
      tried = last;
    }

-- ---- the view

fit_each : (m : Mapping) (old : Bool) (id : ℕ) (rows : List Row) (entries : List EntryState) → AreNumbered (IsEntryOf m old) id rows entries → AreFit m entries
fit_each m old id [] [] are = All-nil (λ (entry : EntryState). SegmentFits m entry.columns)
fit_each m old id [] (entry ∷ entries) are = absurd are
fit_each m old id (row ∷ rows) [] are = absurd are
fit_each m old id (row ∷ rows) (entry ∷ entries) are =
    All-cons (λ (it : EntryState). SegmentFits m it.columns) entry entries are.0.fits (fit_each m old (id + 1) rows entries are.1)

sources_each : BlockLaws → (m : Mapping) (old : Bool) (id : ℕ) (rows : List Row) (entries : List EntryState) → AreNumbered (IsEntryOf m old) id rows entries
    → All (λ (entry : EntryState). HaveSources entry.columns) entries
sources_each laws m old id [] [] are = All-nil (λ (entry : EntryState). HaveSources entry.columns)
sources_each laws m old id [] (entry ∷ entries) are = absurd are
sources_each laws m old id (row ∷ rows) [] are = absurd are
sources_each laws m old id (row ∷ rows) (entry ∷ entries) are =
    All-cons (λ (it : EntryState). HaveSources it.columns) entry entries (sources_of laws m entry.columns are.0.fits are.0.read)
    (sources_each laws m old (id + 1) rows entries are.1)

bits_each : (m : Mapping) (old : Bool) (id : ℕ) (rows : List Row) (entries : List EntryState) → AreNumbered (IsEntryOf m old) id rows entries → HaveOwnBits entries
bits_each m old id [] [] are = All-nil (λ (entry : EntryState). IsLiveOver entry.columns entry.live)
bits_each m old id [] (entry ∷ entries) are = absurd are
bits_each m old id (row ∷ rows) [] are = absurd are
bits_each m old id (row ∷ rows) (entry ∷ entries) are =
    All-cons (λ (it : EntryState). IsLiveOver it.columns it.live) entry entries are.0.dead.over (bits_each m old (id + 1) rows entries are.1)

whole_each : (entries : List EntryState) → All IsKnownEntry entries → AreWholeEntries entries
whole_each [] known = All-nil IsWhole
whole_each (entry ∷ entries) known =
    All-cons IsWhole entry entries (All-head IsKnownEntry entry entries known).whole (whole_each entries (All-tail IsKnownEntry entry entries known))

-- ---- an entry is told by its id

-- behind an id, and at its place among these
record IsAt (all : List EntryState) (d : EntryState) (id : ℕ) (entry : EntryState) : Type 0 where
  from : id ≤ entry.id
  is : get_or all (entry.id - id) d ≡ entry

at_more : (all : List EntryState) (d : EntryState) (first : EntryState) (id : ℕ) (entries : List EntryState) → AllByRecursion (IsAt all d (id + 1)) entries
    → AllByRecursion (IsAt (first ∷ all) d id) entries
at_more all d first id [] are = tt
at_more all d first id (entry ∷ entries) are =
    let from = are.0.from in
    let e : entry.id - id ≡ suc (entry.id - (id + 1)) = omega (arith, from) in (
      record { from = omega (arith, from); is = ap (λ (n : ℕ). get_or (first ∷ all) n d) e ∙ are.0.is },
      at_more all d first id entries are.1,
    )

at_each : (m : Mapping) (old : Bool) (d : EntryState) (id : ℕ) (rows : List Row) (entries : List EntryState) → AreNumbered (IsEntryOf m old) id rows entries
    → AllByRecursion (IsAt entries d id) entries
at_each m old d id [] [] are = tt
at_each m old d id [] (entry ∷ entries) are = absurd are
at_each m old d id (row ∷ rows) [] are = absurd are
at_each m old d id (row ∷ rows) (entry ∷ entries) are =
    let own : entry.id ≡ id = are.0.id_is in
    let e : entry.id - id ≡ 0 = omega (arith, own) in (
      record { from = omega (arith, own); is = ap (λ (n : ℕ). get_or (entry ∷ entries) n d) e },
      at_more entries d entry id entries (at_each m old d (id + 1) rows entries are.1),
    )

same_blocks : (all : List EntryState) (d one other : EntryState) → IsAt all d 0 one → IsAt all d 0 other → one.id ≡ other.id → blocks_of one.columns ≡ blocks_of other.columns
same_blocks all d one other is are same =
    let entry : one ≡ other = sym is.is ∙ ap (λ (n : ℕ). get_or all (n - 0) d) same ∙ are.is in
    ap (λ (it : EntryState). blocks_of it.columns) entry

known_of_one : (all : List EntryState) (d entry : EntryState) (entries : List EntryState) (rows : List Row) → IsAt all d 0 entry → AllByRecursion (IsAt all d 0) entries
    → All (HasBlocksOf entry) (known_rows entries rows)
known_of_one all d entry [] rows is are = All-nil (HasBlocksOf entry)
known_of_one all d entry (other ∷ entries) [] is are = All-nil (HasBlocksOf entry)
known_of_one all d entry (other ∷ entries) (row ∷ rows) is are =
    All-cons (HasBlocksOf entry) (record { entry = other; extent = extent_in row }) (known_rows entries rows) (same_blocks all d entry other is are.0)
    (known_of_one all d entry entries rows is are.1)

known_of : (old : Bool) (all : List EntryState) (d : EntryState) (rows : List Row) (entries : List EntryState) → AllByRecursion (IsAt all d 0) all → AllByRecursion (IsAt all d 0) entries
    → All (λ (entry : EntryState). All (HasBlocksOf entry) (known_read old all rows)) entries
known_of old all d rows [] known are = All-nil (λ (entry : EntryState). All (HasBlocksOf entry) (known_read old all rows))
known_of true all d rows (entry ∷ entries) known are =
    All-cons (λ (it : EntryState). All (HasBlocksOf it) []) entry entries (All-nil (HasBlocksOf entry)) (known_of true all d rows entries known are.1)
known_of false all d rows (entry ∷ entries) known are =
    All-cons (λ (it : EntryState). All (HasBlocksOf it) (known_rows all rows)) entry entries (known_of_one all d entry all rows are.0 known) (known_of false all d rows entries known are.1)

all_known : (m : Mapping) (old : Bool) (rows : List Row) (entries : List EntryState) → AreNumbered (IsEntryOf m old) 0 rows entries
    → All (λ (entry : EntryState). All (HasBlocksOf entry) (known_read old entries rows)) entries
all_known m old rows [] are = All-nil (λ (entry : EntryState). All (HasBlocksOf entry) (known_read old [] rows))
all_known m old rows (first ∷ entries) are =
    let each = at_each m old first 0 rows (first ∷ entries) are in known_of old (first ∷ entries) first rows (first ∷ entries) each each

pub whole_of : (limit at len : ℕ) (it : RecordText) (m : Mapping) (view : List EntryState) → IsSaid limit at len it m view → AreWhole m it.next view
whole_of limit at len it m view said = record { fits = fit_each m it.old 0 it.rows view said.entries; blocks = said.blocks; few = said.head.next }

pub committable : BlockLaws → (limit : ℕ) (side : Side) (generation at len : ℕ) (closed : Bool) (it : RecordText) (m : Mapping) (view : List EntryState) → All IsKnownEntry view
    → IsSaid limit at len it m view → IsCommittable (store_read limit side generation closed at len it view) m it.next view
committable laws limit side generation at len closed it m view known said = record {
  read = subst (λ (n : Mapping). All IsReadBack n.bodies) (sym said.head.mapping.says)
      (by_index IsReadBack said.head.mapping.values (bodies_read said.head.mapping.values it.bodies said.head.mapping.texts));
  fits = view_fits m view [] (whole_each view known) (bits_each m it.old 0 it.rows view said.entries) (fit_each m it.old 0 it.rows view said.entries) said.blocks.few;
  sources = sources_each laws m it.old 0 it.rows view said.entries;
  blocks = said.blocks;
  few = said.head.next;
  known = all_known m it.old it.rows view said.entries;
}

-- ---- ids that were made

below_each : (most : ℕ) (entries : List EntryState) (rows : List Row) → made_by entries ≤ most → All (λ (known : KnownSegment). known.entry.id < most) (known_rows entries rows)
below_each most [] rows few = All-nil (λ (known : KnownSegment). known.entry.id < most)
below_each most (entry ∷ entries) [] few = All-nil (λ (known : KnownSegment). known.entry.id < most)
below_each most (entry ∷ entries) (row ∷ rows) few =
    All-cons (λ (known : KnownSegment). known.entry.id < most) (record { entry = entry; extent = extent_in row }) (known_rows entries rows) (omega (arith, few))
    (below_each most entries rows (omega (arith, few)))

pub known_below : (old : Bool) (entries : List EntryState) (rows : List Row) → All (λ (known : KnownSegment). known.entry.id < made_by entries) (known_read old entries rows)
known_below true entries rows = All-nil (λ (known : KnownSegment). known.entry.id < made_by entries)
known_below false entries rows = below_each (made_by entries) entries rows (omega arith)

-- ---- the store is that of the commit

rows_from : (id : ℕ) (segments : List StoredSegment) (rows : List Row) → map extent_of (map (λ (segment : StoredSegment). segment.piece) segments) ≡ map extent_in rows
    → known_from id segments ≡ known_rows (entries_from id segments) rows
rows_from id [] rows same = refl
rows_from id (segment ∷ segments) [] same = absurd (cc (same))
rows_from id (segment ∷ segments) (row ∷ rows) same =
    let first : extent_of segment.piece ≡ extent_in row = cc (same) in
    ap (λ (extent : Extent). record { entry = record { id = id; columns = segment.columns; live = live_by segment.columns segment.live }; extent = extent } ∷ known_from (id + 1) segments) first
    ∙ ap (λ (known : List KnownSegment). record { entry = record { id = id; columns = segment.columns; live = live_by segment.columns segment.live }; extent = extent_in row } ∷ known)
    (rows_from (id + 1) segments rows (ap (drop 1) same))

known_same : (old : Bool) (segments : List StoredSegment) (rows : List Row) → map extent_of (map (λ (segment : StoredSegment). segment.piece) segments) ≡ map extent_in rows
    → known_by_form old segments ≡ known_read old (entries_from 0 segments) rows
known_same true segments rows same = refl
known_same false segments rows same = rows_from 0 segments rows same

pub store_of : (limit : ℕ) (file : List ℕ) (side : Side) (generation at len : ℕ) (closed : Bool) (it : RecordText) (m : Mapping) (view : List EntryState) (c : StoreCommit)
    → Finds (IsGood limit) file c → c.side ≡ side → c.generation ≡ generation → IsOfCommit at len it m view c
    → store_read limit side generation closed at len it view ≡ store_found limit (Some c) closed
store_of limit file side generation at len closed it m view c finds side_is generation_is is =
    let extents : map extent_of (map (λ (segment : StoredSegment). segment.piece) c.says.segments) ≡ map extent_in it.rows
    = ap (map extent_of) (sym finds.good.pieces) ∙ ap (drop 1) is.extents in
    let known : known_in c ≡ known_read it.old view it.rows
    = known_same c.says.old c.says.segments it.rows extents
    ∙ (ap (λ (old : Bool). known_read old (entries_of c) it.rows) is.old ∙ ap (λ (es : List EntryState). known_read it.old es it.rows) is.entries) in
    ap (λ (s : Side). record { limit = limit; side = Some s; known = known_read it.old view it.rows; named = extents_named at len it; tried = generation; closed = closed }) (sym side_is)
    ∙ (ap (λ (ks : List KnownSegment). record { limit = limit; side = Some c.side; known = ks; named = extents_named at len it; tried = generation; closed = closed }) (sym known)
    ∙ (ap (λ (es : List Extent). record { limit = limit; side = Some c.side; known = known_in c; named = es; tried = generation; closed = closed }) (sym is.extents)
    ∙ ap (λ (n : ℕ). record { limit = limit; side = Some c.side; known = known_in c; named = extents_of c; tried = n; closed = closed }) (sym generation_is)))
