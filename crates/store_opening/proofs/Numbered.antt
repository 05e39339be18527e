-- Entries of rows, in order.
use Rattle.std.proofs.Common.{◌≡◌, ◌≢◌, ℕ, zero, suc, ◌+◌, ◌<◌, ◌≤◌, max, ◌↔◌, Bool, true, false, List, [], ◌∷◌, ◌++◌, length, map, take, drop, get_or, All, refl, sym, ◌∙◌, ap, subst, arith}
use Rattle.std.specs.Prelude.{Contains}
use Rattle.std.specs.List.{AllZip}
use Rattle.std.proofs.lemmas.Bool.{true_from_ne_false, false≢true}
use Rattle.std.proofs.lemmas.List.{take_all, take_more}
use Rattle.std.proofs.lemmas.List.Elements.{All-nil, All-cons}
use Rattle.flattener.specs.Fits.{SegmentFits}
use Rattle.index_core.specs.Kept.{made_by}
use Rattle.mapping.specs.Mapping.{Mapping, mapping_of}
use Rattle.segment.specs.Live.{EntryState, LiveState, IsLiveOver, live_docs}
use Rattle.segment_fits.specs.Sources.{AreReadBack}
use Rattle.segment_parts.specs.Parts.{root_flags}
use Rattle.segment_parts.specs.declared.columns.Columns.{Columns}
use Rattle.segment_view.specs.Views.{IsNewId}
use Rattle.store_text.specs.Pieces.{Stands}
use Rattle.store_text.specs.Record.{IsRecord, record_text}
use Rattle.store_text.specs.declared.record.RecordText.{RecordText}
use Rattle.store_text.specs.declared.record.Row.{Row}
use Rattle.tree_json.specs.Value.{JsonValue}
use Rattle.store_opening.specs.Entries.{AreNumbered, IsEntryOf, StandsFor, extent_in}
use Rattle.store_opening.specs.Looking.{IsFound}
use Rattle.store_opening.specs.Read.{HasRecord, IsMappingOf, IsTextOf}
use Rattle.store_opening.specs.Segments.{AreDead, AreOnce, HasSegment, IsSegmentText}
use Rattle.store_opening.proofs.Grown.{same_value}

-- ---- one more

pub numbered_more : (Is : ℕ → Row → EntryState → Type 0) (id : ℕ) (rows : List Row) (entries : List EntryState) (row : Row) (entry : EntryState)
    → AreNumbered Is id rows entries → Is (id + length rows) row entry → AreNumbered Is id (rows ++ row ∷ []) (entries ++ entry ∷ [])
numbered_more Is id [] [] row entry are is = let e : id + 0 ≡ id = omega arith in (subst (λ (n : ℕ). Is n row entry) e is, tt)
numbered_more Is id [] (x ∷ entries) row entry are is = absurd are
numbered_more Is id (r ∷ rows) [] row entry are is = absurd are
numbered_more Is id (r ∷ rows) (x ∷ entries) row entry are is =
    let e : id + suc (length rows) ≡ (id + 1) + length rows = omega arith in
    (are.0, numbered_more Is (id + 1) rows entries row entry are.1 (subst (λ (n : ℕ). Is n row entry) e is))

pub numbered_many : (Is : ℕ → Row → EntryState → Type 0) (id : ℕ) (rows : List Row) (entries : List EntryState) → AreNumbered Is id rows entries → length entries ≡ length rows
numbered_many Is id [] [] are = refl
numbered_many Is id [] (x ∷ entries) are = absurd are
numbered_many Is id (r ∷ rows) [] are = absurd are
numbered_many Is id (r ∷ rows) (x ∷ entries) are = ap suc (numbered_many Is (id + 1) rows entries are.1)

-- one more of so many, by its index
pub numbered_next : (Is : ℕ → Row → EntryState → Type 0) (rows : List Row) (entries : List EntryState) (at : ℕ) (d row : Row) (entry : EntryState) → at < length rows
    → row ≡ get_or rows at d → length entries ≡ at → AreNumbered Is 0 (take at rows) entries → Is at row entry → AreNumbered Is 0 (take (at + 1) rows) (entries ++ entry ∷ [])
numbered_next Is rows entries at d row entry inside is long are here =
    let e : 0 + length (take at rows) ≡ at = omega (arith, sym (numbered_many Is 0 (take at rows) entries are), long) in
    let more : take at rows ++ row ∷ [] ≡ take (at + 1) rows = ap (λ (it : Row). take at rows ++ it ∷ []) is ∙ sym (take_more rows at d inside) in
    subst (λ (rs : List Row). AreNumbered Is 0 rs (entries ++ entry ∷ [])) more
    (numbered_more Is 0 (take at rows) entries row entry are (subst (λ (n : ℕ). Is n row entry) (sym e) here))

pub numbered_end : (Is : ℕ → Row → EntryState → Type 0) (rows : List Row) (entries : List EntryState) (at : ℕ) → length rows ≤ at → AreNumbered Is 0 (take at rows) entries
    → AreNumbered Is 0 rows entries
numbered_end Is rows entries at past are = subst (λ (rs : List Row). AreNumbered Is 0 rs entries) (take_all at rows past) are

-- ---- one of them

-- an entry that both relations have at an index
pub record BothAt (One Other : ℕ → Row → EntryState → Type 0) (id : ℕ) (row : Row) : Type 0 where
  pub entry : EntryState
  pub one : One id row entry
  pub other : Other id row entry

pub numbered_at : (One Other : ℕ → Row → EntryState → Type 0) (id : ℕ) (rows : List Row) (entries : List EntryState) (at : ℕ) (d : Row) → at < length rows
    → AreNumbered One id rows entries → AreNumbered Other id rows entries → BothAt One Other (id + at) (get_or rows at d)
numbered_at One Other id [] entries at d inside are others = absurd (omega (arith, inside))
numbered_at One Other id (r ∷ rows) [] at d inside are others = absurd are
numbered_at One Other id (r ∷ rows) (x ∷ entries) zero d inside are others =
    let e : id + 0 ≡ id = omega arith in
    subst (λ (n : ℕ). BothAt One Other n r) (sym e) (record { entry = x; one = are.0; other = others.0 })
numbered_at One Other id (r ∷ rows) (x ∷ entries) (suc at) d inside are others =
    let e : id + suc at ≡ (id + 1) + at = omega arith in
    subst (λ (n : ℕ). BothAt One Other n (get_or rows at d)) (sym e) (numbered_at One Other (id + 1) rows entries at d (omega (arith, inside)) are.1 others.1)

-- where one row has no entry, all have none
pub none_numbered : (One Other : ℕ → Row → EntryState → Type 0) (rows : List Row) (entries : List EntryState) (at : ℕ) (d row : Row) → at < length rows → row ≡ get_or rows at d
    → ((entry : EntryState) → One at row entry → Other at row entry → ⊥) → AreNumbered One 0 rows entries → AreNumbered Other 0 rows entries → ⊥
none_numbered One Other rows entries at d row inside is none are others =
    let both = numbered_at One Other 0 rows entries at d inside are others in
    let here : BothAt One Other at row = subst (λ (it : Row). BothAt One Other at it) (sym is) (subst (λ (n : ℕ). BothAt One Other n (get_or rows at d)) (zero_plus at) both) in
    none here.entry here.one here.other
  where
    zero_plus : (n : ℕ) → 0 + n ≡ n
    zero_plus n = omega arith

-- ---- ids

not_among : (Is : ℕ → Row → EntryState → Type 0) → ((n : ℕ) (row : Row) (entry : EntryState) → Is n row entry → entry.id ≡ n) → (id most : ℕ) (rows : List Row) (entries : List EntryState)
    → AreNumbered Is id rows entries → id + length rows ≤ most → All (λ (entry : EntryState). entry.id ≢ most) entries
not_among Is ids id most [] [] are few = All-nil (λ (entry : EntryState). entry.id ≢ most)
not_among Is ids id most [] (x ∷ entries) are few = absurd are
not_among Is ids id most (r ∷ rows) [] are few = absurd are
not_among Is ids id most (r ∷ rows) (x ∷ entries) are few =
    All-cons (λ (entry : EntryState). entry.id ≢ most) x entries (λ same. omega (arith, few, same, ids id r x are.0)) (not_among Is ids (id + 1) most rows entries are.1 (omega (arith, few)))

pub id_of : (m : Mapping) (old : Bool) (n : ℕ) (row : Row) (entry : EntryState) → IsEntryOf m old n row entry → entry.id ≡ n
id_of m old n row entry is = is.id_is

pub next_is_new : (m : Mapping) (old : Bool) (rows : List Row) (entries : List EntryState) (at : ℕ) → length entries ≡ at → AreNumbered (IsEntryOf m old) 0 (take at rows) entries
    → IsNewId entries at
next_is_new m old rows entries at long are =
    not_among (IsEntryOf m old) (id_of m old) 0 at (take at rows) entries are (omega (arith, sym (numbered_many (IsEntryOf m old) 0 (take at rows) entries are), long))

made_within : (m : Mapping) (old : Bool) (id most : ℕ) (rows : List Row) (entries : List EntryState) → AreNumbered (IsEntryOf m old) id rows entries → id + length rows ≤ most
    → made_by entries ≤ most
made_within m old id most [] [] are few = omega arith
made_within m old id most [] (x ∷ entries) are few = absurd are
made_within m old id most (r ∷ rows) [] are few = absurd are
made_within m old id most (r ∷ rows) (x ∷ entries) are few =
    let rest : made_by entries ≤ most = made_within m old (id + 1) most rows entries are.1 (omega (arith, few)) in
    omega (arith, rest, few, are.0.id_is)

pub made_few : (m : Mapping) (old : Bool) (rows : List Row) (entries : List EntryState) → AreNumbered (IsEntryOf m old) 0 rows entries → made_by entries ≤ length rows
made_few m old rows entries are = made_within m old 0 (length rows) rows entries are (omega arith)

-- ---- one entry of a row

found_once : (file : List ℕ) (at len : ℕ) (one other : List ℕ) → IsFound file at len one → IsFound file at len other → one ≡ other
found_once file at len one other is are =
    sym is.stands ∙ (ap (λ (n : ℕ). take n (drop at file)) (is.long ∙ sym are.long) ∙ are.stands)

pub columns_read : AreOnce → (old : Bool) (scope_count : ℕ) (file : List ℕ) (row : Row) (one other : Columns) → HasSegment old scope_count (extent_in row) one file
    → HasSegment old scope_count (extent_in row) other file → one ≡ other
columns_read once old scope_count file row one other is are =
    once old scope_count one other is.bytes is.is
    (subst (λ (bytes : List ℕ). IsSegmentText old scope_count other bytes) (sym (found_once file row.at row.len is.bytes are.bytes is.found are.found)) are.is)

pub columns_same : AreOnce → (old : Bool) (scope_count : ℕ) (file : List ℕ) (id : ℕ) (row : Row) (one other : EntryState) → StandsFor old scope_count file id row one
    → StandsFor old scope_count file id row other → one.columns ≡ other.columns
columns_same once old scope_count file id row one other is are = columns_read once old scope_count file row one.columns other.columns is are

marks_same : (ones others : List Bool) → length ones ≡ length others
    → ((i : ℕ) → i < length ones → (get_or ones i false ≡ false) ↔ (get_or others i false ≡ false)) → ones ≡ others
marks_same [] [] long same = refl
marks_same [] (b ∷ others) long same = absurd (omega (arith, long))
marks_same (a ∷ ones) [] long same = absurd (omega (arith, long))
marks_same (a ∷ ones) (b ∷ others) long same =
    ap (λ (x : Bool). x ∷ ones) (by a b (same zero (omega arith)))
    ∙ ap (λ (xs : List Bool). b ∷ xs) (marks_same ones others (omega (arith, long)) (λ i inside. same (suc i) (omega (arith, inside))))
  where
    by : (x y : Bool) → (x ≡ false) ↔ (y ≡ false) → x ≡ y
    by true true is = refl
    by false false is = refl
    by true false is = is.1 refl
    by false true is = sym (is.0 refl)

live_same : (columns : Columns) (one other : LiveState) (dead : List ℕ) → AreDead columns one dead → AreDead columns other dead → one ≡ other
live_same columns one other dead is are =
    let roots : one.roots ≡ other.roots = marks_same one.roots other.roots (is.over.roots ∙ sym are.over.roots)
    (λ i inside. let below : i < length columns.roots = omega (arith, inside, is.over.roots) in
    (λ none. (are.are i below).1 ((is.are i below).0 none), λ none. (is.are i below).1 ((are.are i below).0 none))) in
    let docs : one.docs ≡ other.docs = is.over.docs ∙ (ap (live_docs (root_flags columns.scopes)) roots ∙ sym are.over.docs) in
    ap (λ (marks : List Bool). record { docs = one.docs; roots = marks }) roots ∙ ap (λ (marks : List Bool). record { docs = marks; roots = other.roots }) docs

entry_same : AreOnce → (m : Mapping) (old : Bool) (file : List ℕ) (id : ℕ) (row : Row) (one other : EntryState) → IsEntryOf m old id row one → IsEntryOf m old id row other
    → StandsFor old (length m.scopes) file id row one → StandsFor old (length m.scopes) file id row other → one ≡ other
entry_same once m old file id row one other is are stands also =
    let columns : one.columns ≡ other.columns = columns_same once old (length m.scopes) file id row one other stands also in
    let live : one.live ≡ other.live
    = live_same other.columns one.live other.live row.dead (subst (λ (cs : Columns). AreDead cs one.live row.dead) columns is.dead) are.dead in
    ap (λ (n : ℕ). record { id = n; columns = one.columns; live = one.live }) (is.id_is ∙ sym are.id_is)
    ∙ ap (λ (cs : Columns). record { id = other.id; columns = cs; live = one.live }) columns
    ∙ ap (λ (l : LiveState). record { id = other.id; columns = other.columns; live = l }) live

pub entries_same : AreOnce → (m : Mapping) (old : Bool) (file : List ℕ) (id : ℕ) (rows : List Row) (ones others : List EntryState)
    → AreNumbered (IsEntryOf m old) id rows ones → AreNumbered (IsEntryOf m old) id rows others
    → AreNumbered (StandsFor old (length m.scopes) file) id rows ones → AreNumbered (StandsFor old (length m.scopes) file) id rows others → ones ≡ others
entries_same once m old file id [] [] [] is are stand also = refl
entries_same once m old file id [] (x ∷ ones) others is are stand also = absurd is
entries_same once m old file id [] [] (y ∷ others) is are stand also = absurd are
entries_same once m old file id (r ∷ rows) [] others is are stand also = absurd is
entries_same once m old file id (r ∷ rows) (x ∷ ones) [] is are stand also = absurd are
entries_same once m old file id (r ∷ rows) (x ∷ ones) (y ∷ others) is are stand also =
    ap (λ (e : EntryState). e ∷ ones) (entry_same once m old file id r x y is.0 are.0 stand.0 also.0)
    ∙ ap (λ (es : List EntryState). y ∷ es) (entries_same once m old file (id + 1) rows ones others is.1 are.1 stand.1 also.1)

-- ---- one record, and one mapping

abbrev pub RecordOnce : Type 0
RecordOnce = (one other : RecordText) → IsRecord one → IsRecord other → record_text one ≡ record_text other → one ≡ other

pub record_same : RecordOnce → (file : List ℕ) (at len : ℕ) (one other : RecordText) → HasRecord at len one file → HasRecord at len other file → one ≡ other
record_same once file at len one other is are =
    once one other is.numbers are.numbers
    (sym is.stands ∙ (ap (λ (n : ℕ). take n (drop at file)) (is.long ∙ sym are.long) ∙ are.stands))

values_same : (ones others : List JsonValue) (bodies : List (List ℕ)) → AllZip IsTextOf ones bodies → AllZip IsTextOf others bodies → ones ≡ others
values_same [] [] bodies is are = refl
values_same [] (w ∷ others) [] is are = absurd are
values_same [] (w ∷ others) (b ∷ bodies) is are = absurd is
values_same (v ∷ ones) [] [] is are = absurd is
values_same (v ∷ ones) [] (b ∷ bodies) is are = absurd are
values_same (v ∷ ones) (w ∷ others) [] is are = absurd is
values_same (v ∷ ones) (w ∷ others) (b ∷ bodies) is are =
    ap (λ (x : JsonValue). x ∷ ones) (same_value b v w is.0 are.0) ∙ ap (λ (xs : List JsonValue). w ∷ xs) (values_same ones others bodies is.1 are.1)

pub mapping_same : (bodies : List (List ℕ)) (dynamic : Bool) (one other : Mapping) → IsMappingOf bodies dynamic one → IsMappingOf bodies dynamic other → one ≡ other
mapping_same bodies dynamic one other is are =
    is.says ∙ (ap (λ (vs : List JsonValue). mapping_of vs dynamic) (values_same is.values are.values bodies is.texts are.texts) ∙ sym are.says)

-- ---- what isn't that of a row

-- a segment that was read there is the one, and doesn't pass
pub not_fitting : AreOnce → (m : Mapping) (old : Bool) (file : List ℕ) (id : ℕ) (row : Row) (columns : Columns) (entry : EntryState)
    → HasSegment old (length m.scopes) (extent_in row) columns file → (SegmentFits m columns × AreReadBack columns → ⊥) → IsEntryOf m old id row entry
    → StandsFor old (length m.scopes) file id row entry → ⊥
not_fitting once m old file id row columns entry has fails is stands =
    let same : entry.columns ≡ columns = columns_read once old (length m.scopes) file row entry.columns columns stands has in
    fails (subst (λ (cs : Columns). SegmentFits m cs × AreReadBack cs) same (is.fits, is.read))

pub not_inside : AreOnce → (m : Mapping) (old : Bool) (file : List ℕ) (id : ℕ) (row : Row) (columns : Columns) (entry : EntryState)
    → HasSegment old (length m.scopes) (extent_in row) columns file → (All (λ (root : ℕ). root < length columns.roots) row.dead → ⊥) → IsEntryOf m old id row entry
    → StandsFor old (length m.scopes) file id row entry → ⊥
not_inside once m old file id row columns entry has fails is stands =
    let same : entry.columns ≡ columns = columns_read once old (length m.scopes) file row entry.columns columns stands has in
    fails (subst (λ (cs : Columns). All (λ (root : ℕ). root < length cs.roots) row.dead) same is.dead.inside)

pub ruleset numbered = (numbered_next, numbered_end, none_numbered, next_is_new)

pub ruleset not_of_row = (not_fitting, not_inside)
