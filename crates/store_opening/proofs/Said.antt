-- What was read of a record and of its segments is a commit, and each commit can be read so.
use Rattle.std.proofs.Common.{◌≡◌, ℕ, zero, suc, ◌+◌, ◌<◌, ◌≤◌, ◌^◌, max, Bool, true, false, List, [], ◌∷◌, length, map, get_or, All, refl, sym, ◌∙◌, ap, subst, arith}
use Rattle.std.specs.List.{AllByRecursion, AllZip, range_with_len}
use Rattle.std.specs.Prelude.{slice_index_or}
use Rattle.std.proofs.lemmas.List.{length-map}
use Rattle.std.proofs.lemmas.List.FromFn.{length-range_with_len}
use Rattle.std.proofs.lemmas.Bool.{false≢true}
use Rattle.std.proofs.lemmas.List.Elements.{All-head, All-tail}
use Rattle.commit_images.specs.Commits.{Counts, Finds}
use Rattle.index_core.proofs.Jobs.{each as by_recursion}
use Rattle.commit_store.specs.Saying.{Saying, StoredSegment, StoreCommit, AreExtents, IsGood, IsNewSegment, IsOfForm, IsOldForm, IsOldSegment, IsReadBack, IsSegmentOf, dead_of, entries_from, entries_of, extent_of, extents_of, last_generation, live_by, mapping_said, record_of, row_of}
use Rattle.extent_pool.specs.declared.extent.Extent.{Extent}
use Rattle.index_core.specs.Kept.{AreBlocks, laid, last_number, made_by, most_made}
use Rattle.mapping.specs.Mapping.{Mapping, mapping_of}
use Rattle.mapping_growth.specs.Bodies.{AreBodies}
use Rattle.segment.specs.Live.{EntryState, LiveState, IsLiveOver, live_docs, root_of}
use Rattle.segment_fits.specs.Sources.{AreReadBack}
use Rattle.segment_parts.specs.Agree.{AreColumns}
use Rattle.segment_parts.specs.Parts.{root_flags}
use Rattle.segment_parts.specs.declared.columns.Columns.{Columns}
use Rattle.store_text.specs.Header.{header_size, magic, gate, slot}
use Rattle.store_text.specs.Pieces.{Piece, Stands, AllStand}
use Rattle.store_text.specs.Record.{IsRecord, IsRow, record_text}
use Rattle.store_text.specs.declared.header.Side.{Side}
use Rattle.store_text.specs.declared.record.RecordText.{RecordText}
use Rattle.store_text.specs.declared.record.Row.{Row}
use Rattle.tree_json.specs.Reading.{reading, value}
use Rattle.tree_json.specs.Text.{compact}
use Rattle.tree_json.specs.Value.{JsonValue}
use Rattle.store_opening.specs.Entries.{AreNumbered, IsEntryOf, IsHead, IsSaid, StandsFor, StandsSaid, extent_in, extents_named}
use Rattle.store_opening.specs.Looking.{IsFound}
use Rattle.store_opening.specs.Read.{HasRecord, IsMappingOf, IsTextOf}
use Rattle.store_opening.specs.Segments.{AreDead, HasSegment, HasText, IsOldText, IsSegmentText}
use Rattle.store_opening.specs.Shown.{IsOfCommit}
use Rattle.store_opening.proofs.DeadRoots.{dead_are, dead_inside, dead_listed}
use Rattle.store_opening.proofs.Fewer.{grown_of, of_grown}
use Rattle.store_opening.proofs.Numbered.{made_few}
use Rattle.store_opening.proofs.Sourced.{BlockLaws, read_of, sources_of}

-- ---- the bodies

bodies_text : (values : List JsonValue) (bodies : List (List ℕ)) → AllZip IsTextOf values bodies → map compact values ≡ bodies
bodies_text [] [] texts = refl
bodies_text [] (b ∷ bodies) texts = absurd texts
bodies_text (v ∷ values) [] texts = absurd texts
bodies_text (v ∷ values) (b ∷ bodies) texts =
    ap (λ (it : List ℕ). it ∷ map compact values) (sym texts.0.text) ∙ ap (λ (it : List (List ℕ)). b ∷ it) (bodies_text values bodies texts.1)

pub bodies_read : (values : List JsonValue) (bodies : List (List ℕ)) → AllZip IsTextOf values bodies → AllByRecursion IsReadBack values
bodies_read [] [] texts = tt
bodies_read [] (b ∷ bodies) texts = absurd texts
bodies_read (v ∷ values) [] texts = absurd texts
bodies_read (v ∷ values) (b ∷ bodies) texts = (sym (ap reading texts.0.text) ∙ texts.0.reads, bodies_read values bodies texts.1)

texts_of : (values : List JsonValue) → AllByRecursion IsReadBack values → AllZip IsTextOf values (map compact values)
texts_of [] read = tt
texts_of (v ∷ values) read = (record { text = refl; reads = read.0 }, texts_of values read.1)

many_texts : (values : List JsonValue) → length (map compact values) ≡ length values
many_texts [] = refl
many_texts (v ∷ values) = ap suc (many_texts values)

-- ---- the segments that were read

abbrev segments_of : (old : Bool) (scope_count : ℕ) (file : List ℕ) (id : ℕ) (rows : List Row) (entries : List EntryState)
    → AreNumbered (StandsFor old scope_count file) id rows entries → List StoredSegment
segments_of old scope_count file id [] [] stand = []
segments_of old scope_count file id [] (entry ∷ entries) stand = absurd stand
segments_of old scope_count file id (row ∷ rows) [] stand = absurd stand
segments_of old scope_count file id (row ∷ rows) (entry ∷ entries) stand =
    record { piece = record { at = row.at; bytes = stand.0.bytes }; columns = entry.columns; live = entry.live.roots }
    ∷ segments_of old scope_count file (id + 1) rows entries stand.1

-- what is so of these segments
record AreRead (laws_for : Mapping) (old : Bool) (file : List ℕ) (id : ℕ) (rows : List Row) (entries : List EntryState) (segments : List StoredSegment) : Type 0 where
  rows_are : map row_of segments ≡ rows
  stand : AllStand (map (λ (segment : StoredSegment). segment.piece) segments) file
  form : AllByRecursion (λ (segment : StoredSegment). IsSegmentText old (length laws_for.scopes) segment.columns segment.piece.bytes) segments
  are : AllByRecursion (IsSegmentOf laws_for) segments
  entries_are : entries_from id segments ≡ entries
  extents_are : map extent_of (map (λ (segment : StoredSegment). segment.piece) segments) ≡ map extent_in rows

row_read : (m : Mapping) (old : Bool) (id : ℕ) (row : Row) (entry : EntryState) (bytes : List ℕ) → IsRow row → IsEntryOf m old id row entry → length bytes ≡ row.len
    → row_of (record { piece = record { at = row.at; bytes = bytes }; columns = entry.columns; live = entry.live.roots }) ≡ row
row_read m old id row entry bytes row_is is long =
    ap (λ (n : ℕ). record { at = row.at; len = n; dead = dead_of entry.live.roots }) long
    ∙ ap (λ (dead : List ℕ). record { at = row.at; len = row.len; dead = dead })
    (dead_are entry.live.roots row.dead (length entry.columns.roots) is.dead.over.roots row_is.ascending is.dead.inside is.dead.are)

entry_read : (m : Mapping) (old : Bool) (id : ℕ) (row : Row) (entry : EntryState) → IsEntryOf m old id row entry
    → record { id = id; columns = entry.columns; live = live_by entry.columns entry.live.roots } ≡ entry
entry_read m old id row entry is =
    ap (λ (n : ℕ). record { id = n; columns = entry.columns; live = live_by entry.columns entry.live.roots }) (sym is.id_is)
    ∙ ap (λ (docs : List Bool). record { id = entry.id; columns = entry.columns; live = record { docs = docs; roots = entry.live.roots } }) (sym is.dead.over.docs)

are_read : BlockLaws → (m : Mapping) (old : Bool) (file : List ℕ) (id : ℕ) (rows : List Row) (entries : List EntryState) → AllByRecursion IsRow rows
    → AreNumbered (IsEntryOf m old) id rows entries → (stand : AreNumbered (StandsFor old (length m.scopes) file) id rows entries)
    → AreRead m old file id rows entries (segments_of old (length m.scopes) file id rows entries stand)
are_read laws m old file id [] [] rows_are are stand = record { rows_are = refl; stand = tt; form = tt; are = tt; entries_are = refl; extents_are = refl }
are_read laws m old file id [] (entry ∷ entries) rows_are are stand = absurd stand
are_read laws m old file id (row ∷ rows) [] rows_are are stand = absurd stand
are_read laws m old file id (row ∷ rows) (entry ∷ entries) rows_are are stand =
    let rest = are_read laws m old file (id + 1) rows entries rows_are.1 are.1 stand.1 in
    let left = segments_of old (length m.scopes) file (id + 1) rows entries stand.1 in
    let own : StoredSegment = record { piece = record { at = row.at; bytes = stand.0.bytes }; columns = entry.columns; live = entry.live.roots } in
    record {
      rows_are = ap (λ (it : Row). it ∷ map row_of left) (row_read m old id row entry stand.0.bytes rows_are.0 are.0 stand.0.found.long)
          ∙ ap (λ (it : List Row). row ∷ it) rest.rows_are;
      stand = (stand.0.found.stands, rest.stand);
      form = (stand.0.is, rest.form);
      are = (record { fits = are.0.fits; marks = are.0.dead.over.roots; sources = sources_of laws m entry.columns are.0.fits are.0.read }, rest.are);
      entries_are = ap (λ (it : EntryState). it ∷ entries_from (id + 1) left) (entry_read m old id row entry are.0)
          ∙ ap (λ (it : List EntryState). entry ∷ it) rest.entries_are;
      extents_are = ap (λ (n : ℕ). record { at = row.at; len = n } ∷ map extent_of (map (λ (segment : StoredSegment). segment.piece) left)) stand.0.found.long
          ∙ ap (λ (it : List Extent). extent_in row ∷ it) rest.extents_are;
    }

-- ---- the commit that was read

abbrev commit_read : (limit : ℕ) (side : Side) (generation at len : ℕ) (it : RecordText) (m : Mapping) (view : List EntryState) (file : List ℕ)
    → IsSaid limit at len it m view → StandsSaid at len it m view file → StoreCommit
commit_read limit side generation at len it m view file said stands = record {
  side = side;
  generation = generation;
  body = record { at = at; bytes = record_text it };
  segments = map (λ (segment : StoredSegment). segment.piece) (segments_of it.old (length m.scopes) file 0 it.rows view stands.segments);
  says = record {
    old = it.old;
    bodies = said.head.mapping.values;
    dynamic = it.dynamic;
    next = it.next;
    segments = segments_of it.old (length m.scopes) file 0 it.rows view stands.segments;
  };
}

form_of : (m : Mapping) (old : Bool) (says : Saying) → m ≡ mapping_said says → (old ≡ true → (length says.bodies ≡ 1) × (says.dynamic ≡ false))
    → AllByRecursion (λ (segment : StoredSegment). IsSegmentText old (length m.scopes) segment.columns segment.piece.bytes) says.segments → IsOfForm old says
form_of m true says same first form = record {
  one = (first refl).0;
  dynamic = (first refl).1;
  segments = subst (λ (n : Mapping). AllByRecursion (IsOldSegment n) says.segments) same (old_forms says.segments form);
}
  where
    old_forms : (segments : List StoredSegment) → AllByRecursion (λ (segment : StoredSegment). IsSegmentText true (length m.scopes) segment.columns segment.piece.bytes) segments
        → AllByRecursion (IsOldSegment m) segments
    old_forms [] form = tt
    old_forms (segment ∷ segments) form = (record { encoding = form.0.encoding; scopes = form.0.scopes }, old_forms segments form.1)
form_of m false says same first form = form

more_made : (entries : List EntryState) (next made other : ℕ) → other < most_made → AreBlocks (laid entries [] made) next → AreBlocks (laid entries [] other) next
more_made entries next made other few are = record { ascending = are.ascending; ids = are.ids; few = are.few; buffer = are.buffer; made = few }

many_segments : (old : Bool) (scope_count : ℕ) (file : List ℕ) (id : ℕ) (rows : List Row) (entries : List EntryState) (stand : AreNumbered (StandsFor old scope_count file) id rows entries)
    → length (segments_of old scope_count file id rows entries stand) ≡ length rows
many_segments old scope_count file id [] [] stand = refl
many_segments old scope_count file id [] (entry ∷ entries) stand = absurd stand
many_segments old scope_count file id (row ∷ rows) [] stand = absurd stand
many_segments old scope_count file id (row ∷ rows) (entry ∷ entries) stand = ap suc (many_segments old scope_count file (id + 1) rows entries stand.1)

-- the commit that was read is good, and it is what was read
pub record Reads (limit : ℕ) (side : Side) (generation at len : ℕ) (it : RecordText) (m : Mapping) (view : List EntryState) (file : List ℕ) : Type 0 where
  pub commit : StoreCommit
  pub finds : Finds (IsGood limit) file commit
  pub side_is : commit.side ≡ side
  pub generation_is : commit.generation ≡ generation
  pub of_commit : IsOfCommit at len it m view commit

few_made : (n : ℕ) → n < 2 ^ 32 → n < most_made
few_made n few = omega (arith, few)

good_read : BlockLaws → (limit : ℕ) (side : Side) (generation at len : ℕ) (it : RecordText) (m : Mapping) (view : List EntryState) (file : List ℕ)
    → (said : IsSaid limit at len it m view) (stands : StandsSaid at len it m view file) → 1 ≤ generation → generation ≤ last_generation
    → IsGood limit (commit_read limit side generation at len it m view file said stands) × IsOfCommit at len it m view (commit_read limit side generation at len it m view file said stands)
good_read laws limit side generation at len it m view file said stands first last =
    let values : List JsonValue = said.head.mapping.values in
    let segments : List StoredSegment = segments_of it.old (length m.scopes) file 0 it.rows view stands.segments in
    let says : Saying = record { old = it.old; bodies = values; dynamic = it.dynamic; next = it.next; segments = segments } in
    let are = are_read laws m it.old file 0 it.rows view (by_recursion IsRow it.rows said.head.numbers.rows) said.entries stands.segments in
    let texts : map compact values ≡ it.bodies = bodies_text values it.bodies said.head.mapping.texts in
    let record_is : record_of says ≡ it
    = ap (λ (bodies : List (List ℕ)). record { old = it.old; next = it.next; dynamic = it.dynamic; bodies = bodies; rows = map row_of segments }) texts
    ∙ ap (λ (rows : List Row). record { old = it.old; next = it.next; dynamic = it.dynamic; bodies = it.bodies; rows = rows }) are.rows_are in
    let extents : record { at = at; len = length (record_text it) } ∷ map extent_of (map (λ (segment : StoredSegment). segment.piece) segments) ≡ extents_named at len it
    = ap (λ (n : ℕ). record { at = at; len = n } ∷ map extent_of (map (λ (segment : StoredSegment). segment.piece) segments)) stands.record_stands.long
    ∙ ap (λ (es : List Extent). record { at = at; len = len } ∷ es) are.extents_are in
    let some : 0 < length values = omega (arith, said.head.mapping.some, ap length texts, many_texts values) in (
      record {
        first = first;
        last = last;
        numbers = subst (λ (r : RecordText). IsRecord r) (sym record_is) said.head.numbers;
        text = ap record_text (sym record_is);
        pieces = refl;
        places = subst (λ (es : List Extent). AreExtents limit es) (sym extents) said.head.places;
        mapping = of_grown values [] some said.head.mapping.grown;
        read = bodies_read values it.bodies said.head.mapping.texts;
        form = form_of m it.old says said.head.mapping.says
            (λ old. let own = said.head.numbers.old old in (sym (many_texts values) ∙ (ap length texts ∙ own.one), own.fixed)) are.form;
        segments = subst (λ (n : Mapping). AllByRecursion (IsSegmentOf n) segments) said.head.mapping.says are.are;
        blocks = subst (λ (es : List EntryState). AreBlocks (laid es [] (length segments)) it.next) (sym are.entries_are)
            (more_made view it.next (made_by view) (length segments)
            (few_made (length segments) (omega (arith, many_segments it.old (length m.scopes) file 0 it.rows view stands.segments, said.head.numbers.few))) said.blocks);
        next = said.head.next;
      },
      record {
        old = refl;
        mapping = sym said.head.mapping.says;
        next = refl;
        entries = are.entries_are;
        extents = extents;
      },
    )

pub reads : BlockLaws → (limit : ℕ) (side : Side) (generation at len : ℕ) (it : RecordText) (m : Mapping) (view : List EntryState) (file : List ℕ)
    → IsSaid limit at len it m view → StandsSaid at len it m view file → 1 ≤ generation → generation ≤ last_generation → header_size ≤ length file → Stands file magic
    → Stands file (gate side) → Stands file (slot side generation at len) → Counts side generation file → Reads limit side generation at len it m view file
reads laws limit side generation at len it m view file said stands first last long magic_stands gate_stands slot_stands counts =
    let good = good_read laws limit side generation at len it m view file said stands first last in
    let are = are_read laws m it.old file 0 it.rows view (by_recursion IsRow it.rows said.head.numbers.rows) said.entries stands.segments in
    record {
      commit = commit_read limit side generation at len it m view file said stands;
      finds = record {
        long = long;
        stand = (
          magic_stands,
          (
            gate_stands,
            (
              subst (λ (n : ℕ). Stands file (slot side generation at n)) (sym stands.record_stands.long) slot_stands,
              (stands.record_stands.stands, are.stand),
            ),
          ),
        );
        counts = counts;
        good = good.0;
      };
      side_is = refl;
      generation_is = refl;
      of_commit = good.1;
    }

-- ---- and back

length-live_docs : (flags roots : List Bool) → length (live_docs flags roots) ≡ length flags
unfolding live_docs
length-live_docs flags roots = length-map (range_with_len 0 (length flags)) (λ (doc : ℕ). slice_index_or roots (root_of flags doc) true) ∙ length-range_with_len 0 (length flags)

length-root_flags : (columns : Columns) → AreColumns columns → length (root_flags columns.scopes) ≡ columns.documents
length-root_flags columns are = are.parts.head.long zero [] (omega (arith, are.parts.head.some))

over_by : (m : Mapping) (columns : Columns) (live : List Bool) → AreColumns columns → length live ≡ length columns.roots → IsLiveOver columns (live_by columns live)
over_by m columns live are long = record {
  roots = long;
  documents = length-live_docs (root_flags columns.scopes) live ∙ length-root_flags columns are;
  docs = refl;
}

dead_by : (m : Mapping) (columns : Columns) (live : List Bool) → AreColumns columns → length live ≡ length columns.roots → AreDead columns (live_by columns live) (dead_of live)
dead_by m columns live are long = record {
  over = over_by m columns live are long;
  inside = dead_inside live (length columns.roots) long;
  are = λ root inside. dead_listed live root (omega (arith, inside, long));
}

columns_agree : (old : Bool) (scope_count : ℕ) (columns : Columns) (bytes : List ℕ) → IsSegmentText old scope_count columns bytes → AreColumns columns
columns_agree true scope_count columns bytes is = is.encoding.are
columns_agree false scope_count columns bytes is = is.are

text_of_form : (old : Bool) (says : Saying) → IsOfForm old says
    → AllByRecursion (λ (segment : StoredSegment). IsSegmentText old (length (mapping_said says).scopes) segment.columns segment.piece.bytes) says.segments
text_of_form true says form = texts says.segments form.segments
  where
    texts : (segments : List StoredSegment) → AllByRecursion (IsOldSegment (mapping_said says)) segments
        → AllByRecursion (λ (segment : StoredSegment). IsSegmentText true (length (mapping_said says).scopes) segment.columns segment.piece.bytes) segments
    texts [] are = tt
    texts (segment ∷ segments) are = (record { encoding = are.0.encoding; scopes = are.0.scopes }, texts segments are.1)
text_of_form false says form = form

abbrev FormOf : Mapping → Bool → StoredSegment → Type 0
FormOf m old segment = IsSegmentText old (length m.scopes) segment.columns segment.piece.bytes

entries_said : BlockLaws → (m : Mapping) (old : Bool) (id : ℕ) (segments : List StoredSegment) → AllByRecursion (FormOf m old) segments → AllByRecursion (IsSegmentOf m) segments
    → AreNumbered (IsEntryOf m old) id (map row_of segments) (entries_from id segments)
entries_said laws m old id [] form are = tt
entries_said laws m old id (segment ∷ segments) form are = (
  record {
    id_is = refl;
    text = record { bytes = segment.piece.bytes; long = refl; is = form.0 };
    dead = dead_by m segment.columns segment.live (columns_agree old (length m.scopes) segment.columns segment.piece.bytes form.0) are.0.marks;
    fits = are.0.fits;
    read = read_of laws m segment.columns are.0.fits are.0.sources;
  },
  entries_said laws m old (id + 1) segments form.1 are.1,
)

entries_stand : (m : Mapping) (old : Bool) (file : List ℕ) (id : ℕ) (segments : List StoredSegment) → AllByRecursion (FormOf m old) segments
    → AllStand (map (λ (segment : StoredSegment). segment.piece) segments) file
    → AreNumbered (StandsFor old (length m.scopes) file) id (map row_of segments) (entries_from id segments)
entries_stand m old file id [] form stand = tt
entries_stand m old file id (segment ∷ segments) form stand = (
  record { bytes = segment.piece.bytes; found = record { long = refl; stands = stand.0 }; is = form.0 },
  entries_stand m old file (id + 1) segments form.1 stand.1,
)

extents_said : (segments : List StoredSegment) → map extent_of (map (λ (segment : StoredSegment). segment.piece) segments) ≡ map extent_in (map row_of segments)
extents_said [] = refl
extents_said (segment ∷ segments) = ap (λ (es : List Extent). extent_of segment.piece ∷ es) (extents_said segments)

many_rows : (segments : List StoredSegment) → length (map row_of segments) ≡ length segments
many_rows [] = refl
many_rows (segment ∷ segments) = ap suc (many_rows segments)

-- what a good commit says can be read
pub said_of : BlockLaws → (limit : ℕ) (c : StoreCommit) → IsGood limit c → IsSaid limit c.body.at (length c.body.bytes) (record_of c.says) (mapping_said c.says) (entries_of c)
said_of laws limit c good =
    let form = text_of_form c.says.old c.says good.form in
    let entries = entries_said laws (mapping_said c.says) c.says.old 0 c.says.segments form good.segments in
    let extents : extents_of c ≡ extents_named c.body.at (length c.body.bytes) (record_of c.says)
    = ap (λ (es : List Piece). extent_of c.body ∷ map extent_of es) good.pieces ∙ ap (λ (es : List Extent). extent_of c.body ∷ es) (extents_said c.says.segments) in
    record {
      head = record {
        numbers = good.numbers;
        next = good.next;
        places = subst (λ (es : List Extent). AreExtents limit es) extents good.places;
        mapping = record {
          some = omega (arith, good.mapping.some, many_texts c.says.bodies);
          values = c.says.bodies;
          texts = texts_of c.says.bodies good.read;
          grown = grown_of c.says.bodies [] good.mapping;
          says = refl;
        };
      };
      entries = entries;
      blocks = more_made (entries_of c) c.says.next (length c.says.segments) (made_by (entries_of c))
          (few_made (made_by (entries_of c))
          (omega (arith, made_few (mapping_said c.says) c.says.old (map row_of c.says.segments) (entries_of c) entries, good.numbers.few))) good.blocks;
    }

pub stands_of : (limit : ℕ) (file : List ℕ) (c : StoreCommit) → Finds (IsGood limit) file c
    → StandsSaid c.body.at (length c.body.bytes) (record_of c.says) (mapping_said c.says) (entries_of c) file
stands_of limit file c finds =
    let form = text_of_form c.says.old c.says finds.good.form in
    record {
      record_stands = record {
        numbers = finds.good.numbers;
        long = ap length (sym finds.good.text);
        stands = subst (λ (bytes : List ℕ). Stands file (record { at = c.body.at; bytes = bytes })) finds.good.text finds.stand.1.1.1.0;
      };
      segments = entries_stand (mapping_said c.says) c.says.old file 0 c.says.segments form
          (subst (λ (ps : List Piece). AllStand ps file) finds.good.pieces finds.stand.1.1.1.1);
    }
