-- Columns that are made of the entries of documents agree: terms, columns of fields, documents and roots say the same.
use Rattle.std.proofs.Common.{◌≡◌, ℕ, ℤ, zero, suc, ◌+◌, ◌<◌, ◌≤◌, ◌==◌, Bool, true, false, cond, List, [], ◌∷◌, ◌++◌, length, map, get_or, slice_get, slice_index_or, count_by, Option, Some, None, Contains, IsNone, refl, sym, ap, subst, ◌∙◌, arith, eqb-true, eq-eqb}
use Rattle.std.specs.List.{All, AllByRecursion, list_any}
use Rattle.std.specs.List.Sorted.{IsStrictlySortedBy}
use Rattle.std.specs.Ordering.{nat_cmp, eq_by_cmp}
use Rattle.std.specs.Str.{bytes_eq}
use Rattle.std.specs.declared.cmp.Ordering.{Ordering}
use Rattle.std.specs.declared.cmp.Ordering.TheVariants.{Less}
use Rattle.std.proofs.lemmas.Cmp.{eq_by_cmp_equiv}
use Rattle.std.proofs.lemmas.List.Elements.{All-from_recursion, All-contains_itself, recursion_from_All}
use Rattle.std.proofs.lemmas.Map.Keys.{sorted_head, sorted_tail}
use Rattle.std.proofs.lemmas.Option.{slice_get-get_or, get_or_from_slice_get, slice_get_within}
use Rattle.block_bits.specs.Flags.{is_marked}
use Rattle.doc_values.specs.Values.{values_of}
use Rattle.postings.specs.Postings.{documents}
use Rattle.segment.specs.Agree.{AreWithin, HaveFields, HaveTerms, HaveOrdinals, HaveKeys, IsKeyed, IsKeywordAt, IsNumberAt, IsOrdinalAt, IsTermAt, IsTermOf, IsWordAt}
use Rattle.segment.specs.Fields.{column_of}
use Rattle.segment.specs.Flat.{FlatDocument}
use Rattle.segment.specs.Lists.{terms_of, postings_of}
use Rattle.segment.specs.Marks.{count-mark}
use Rattle.segment_parts.specs.declared.columns.Columns.{Columns}
use Rattle.term_table.specs.Keys.{number_key}
use Rattle.term_table.specs.Terms.{term_cmp, AreAscending}
use Rattle.term_table.specs.declared.rows.TermRow.{TermRow}
use Rattle.flattener.specs.Block.{BlockState}
use Rattle.segment_builder.specs.Columns.{terms_in, column_terms, row_terms, named, named_row, named_group, marks_of}
use Rattle.segment_builder.specs.Entries.{EntriesState, flats_in, no_entries, with_blocks}
use Rattle.segment_builder.specs.Groups.{of_key, AreGroups}
use Rattle.segment_builder.specs.Made.{IsMade, all_terms, marked_groups}
use Rattle.segment_builder.specs.Parts.{fields_with}
use Rattle.segment_builder.specs.Rising.{AreRisingFrom}
use Rattle.segment_builder.specs.Terms.{terms_at, once, keyword_terms, number_terms, row_group}
use Rattle.segment_builder.proofs.Among.{each_at, any_first, any_later, one_of, one_is, there_at, any_number, any_mapped, each_along}
use Rattle.segment_builder.proofs.Columned.{first_is}
use Rattle.segment_builder.proofs.Grown.{by_doc, of_append}
use Rattle.segment_builder.proofs.InOrder.{each_then, each_both}
use Rattle.segment_builder.proofs.Keys.{split}
use Rattle.segment_builder.proofs.Merged.{IsExact}
use Rattle.segment_builder.proofs.Onced.{kept_once, same_bytes}
use Rattle.segment_builder.proofs.Orders.{nat_order, pair_same, term_order}
use Rattle.segment_builder.proofs.Parted.{text_tags, texts_are}
use Rattle.segment_builder.proofs.Rising.{each_of_key, key_is, rises_within}
use Rattle.segment_builder.proofs.Shown.{found_at}
use Rattle.segment_builder.proofs.Taking.{TermEntry, all_short, keyword_each, keyword_terms_each, keywords_kind, keywords_rise, number_each, number_terms_each, numbers_kind, numbers_rise, of_keyword, of_number, of_word, text_each, word_each, words_kind}
use Rattle.segment_builder.proofs.Texts.{marks_at}
use Rattle.segment_builder.proofs.Written.{Kinds, AreApart, IsWritten}

-- ---- places

pub map_at : {X Y : Type 0} (f : X → Y) (xs : List X) (at : ℕ) (y : Y) → slice_get (map f xs) at ≡ Some y → (x : X) × (slice_get xs at ≡ Some x) × (f x ≡ y)
map_at f [] at y is = absurd (cc (is))
map_at f (x ∷ xs) zero y is = (x, refl, cc (is))
map_at f (x ∷ xs) (suc at) y is = map_at f xs at y is

pub at_map : {X Y : Type 0} (f : X → Y) (xs : List X) (at : ℕ) (x : X) → slice_get xs at ≡ Some x → slice_get (map f xs) at ≡ Some (f x)
at_map f [] at x is = absurd (cc (is))
at_map f (y ∷ ys) zero x is = let here : y ≡ x = cc (is) in rw here refl
at_map f (y ∷ ys) (suc at) x is = at_map f ys at x is

number_any : (n : ℕ) (ns : List ℕ) → Contains ns n → list_any (λ m. m == n) ns ≡ true
number_any n ns there = one_is (λ m. m == n) ns there.0 (get_or ns there.0 n) (slice_get-get_or ns there.0 n there.1) (eq-eqb (get_or ns there.0 n) n there.2)

not_itself : (term other : ℕ × List ℕ) → term_cmp term other ≡ Less → term ≡ other → ⊥
not_itself term other less same =
    let apart : eq_by_cmp term_cmp term other ≡ false = rw less refl in
    let itself : eq_by_cmp term_cmp term other ≡ true = subst (λ t. eq_by_cmp term_cmp term t ≡ true) same ((eq_by_cmp_equiv term_order.total).refl term) in
    (let never : true ≡ false = sym itself ∙ apart in cc (never))

-- a term stands at one place
one_place : (terms : List (ℕ × List ℕ)) (i j : ℕ) (term : ℕ × List ℕ) → IsStrictlySortedBy term_cmp terms → slice_get terms i ≡ Some term → slice_get terms j ≡ Some term → i ≡ j
one_place [] i j term up one two = absurd (cc (one))
one_place (t ∷ ts) zero zero term up one two = refl
one_place (t ∷ ts) zero (suc j) term up one two =
    let here : t ≡ term = cc (one) in
    absurd (not_itself t term (each_at (λ other. term_cmp t other ≡ Less) ts j term (sorted_head term_cmp t ts up) two) here)
one_place (t ∷ ts) (suc i) zero term up one two =
    let here : t ≡ term = cc (two) in
    absurd (not_itself t term (each_at (λ other. term_cmp t other ≡ Less) ts i term (sorted_head term_cmp t ts up) one) here)
one_place (t ∷ ts) (suc i) (suc j) term up one two = ap suc (one_place ts i j term (sorted_tail term_cmp t ts up) one two)

-- ---- columns by field

column_none : {Y : Type 0} (test : ℕ → Bool) (field : ℕ) (columns : List (ℕ × Y)) → AllByRecursion (λ (column : ℕ × Y). test column.0 ≡ true) columns → test field ≡ false → column_of field columns ≡ None
column_none test field [] all other = refl
column_none test field (column ∷ columns) all other =
    split (column.0 == field)
    (λ is. absurd (
    let same : column.0 ≡ field = eqb-true column.0 field is in
    let never : true ≡ false = sym all.0 ∙ ap test same ∙ other in cc (never)))
    (λ isnt. rw isnt (column_none test field columns all.1 other))

pub record IsColumnOf {Y : Type 0} (P : ℕ → Y → Type 0) (field : ℕ) (columns : List (ℕ × Y)) : Type 0 where
  pub own : Y
  pub is : column_of field columns ≡ Some own
  pub has : P field own

column_there : {Y : Type 0} (P : ℕ → Y → Type 0) (field : ℕ) (columns : List (ℕ × Y)) → AllByRecursion (λ (column : ℕ × Y). P column.0 column.1) columns → list_any (λ (column : ℕ × Y). eq_by_cmp nat_cmp field column.0) columns ≡ true → IsColumnOf P field columns
column_there P field [] all some = absurd (cc (some))
column_there {Y} P field (column ∷ columns) all some =
    split (column.0 == field)
    (λ is.
    let same : column.0 ≡ field = eqb-true column.0 field is in
    record { own = column.1; is = rw is refl; has = subst (λ f. P f column.1) same all.0 })
    (λ isnt.
    split (eq_by_cmp nat_cmp field column.0)
    (λ found. absurd (
    let same : field ≡ column.0 = key_is nat_cmp nat_order field column.0 found in
    let never : true ≡ false = sym (eq-eqb column.0 field (sym same)) ∙ isnt in cc (never)))
    (λ other.
    let rest : IsColumnOf P field columns = column_there P field columns all.1 (rw other at some) in
    record { own = rest.own; is = rw isnt rest.is; has = rest.has }))

-- the fields of groups are those of entries
field_kinds : {P : Type 0} (test : ℕ → Bool) (entries : List (ℕ × P)) (groups : List (ℕ × List P)) → AreGroups nat_cmp entries groups → AllByRecursion (λ (entry : ℕ × P). test entry.0 ≡ true) entries → AllByRecursion (λ (group : ℕ × List P). test group.0 ≡ true) groups
field_kinds {P} test entries groups are all =
    each_both (λ (group : ℕ × List P). 0 < length group.1) (λ (group : ℕ × List P). group.1 ≡ of_key nat_cmp group.0 entries) (λ (group : ℕ × List P). test group.0 ≡ true)
    (λ group some is. (first_is (λ (p : P). test group.0 ≡ true) group.1 some (subst (AllByRecursion (λ (p : P). test group.0 ≡ true)) (sym is) (each_of_key nat_cmp nat_order (λ field p. test field ≡ true) group.0 entries all))).1)
    groups are.ordered.some are.gather

-- ---- values by document

rises_above : {X : Type 0} (low high : ℕ) (ps : List (ℕ × X)) → AreRisingFrom low high ps → AllByRecursion (λ (p : ℕ × X). low ≤ p.0) ps
rises_above low high [] up = tt
rises_above {X} low high (p ∷ ps) up = (up.0, each_then (λ (q : ℕ × X). p.0 + 1 ≤ q.0) (λ (q : ℕ × X). low ≤ q.0) (λ q le. omega (arith, le, up.0)) ps (rises_above (p.0 + 1) high ps up.2))

values_rise : {X : Type 0} (low high : ℕ) (ps : List (ℕ × List X)) → AreRisingFrom low high ps → AllByRecursion (λ (p : ℕ × List X). values_of p.0 ps ≡ p.1) ps
values_rise low high [] up = tt
values_rise {X} low high (p ∷ ps) up = (
  rw (eq-eqb p.0 p.0 refl) refl,
  each_both (λ (q : ℕ × List X). p.0 + 1 ≤ q.0) (λ (q : ℕ × List X). values_of q.0 ps ≡ q.1) (λ (q : ℕ × List X). values_of q.0 (p ∷ ps) ≡ q.1)
      (λ q later own. rw (apart p.0 q.0 later) own) ps (rises_above (p.0 + 1) high ps up.2) (values_rise (p.0 + 1) high ps up.2),
)
  where
    apart : (a b : ℕ) → a + 1 ≤ b → (a == b) ≡ false
    apart a b le = split (a == b) (λ is. absurd (omega (arith, le, eqb-true a b is))) (λ isnt. isnt)

module _ {K P : Type 0} (cmp : K → K → Ordering) (o : IsExact cmp) where
  back_of_key : (Q : K → P → Type 0) (entries : List (K × P)) → ((key : K) → AllByRecursion (Q key) (of_key cmp key entries)) → AllByRecursion (λ (entry : K × P). Q entry.0 entry.1) entries
  back_of_key Q [] all = tt
  back_of_key Q (entry ∷ entries) all =
      let here : AllByRecursion (Q entry.0) (entry.1 ∷ of_key cmp entry.0 entries) = rw ((eq_by_cmp_equiv o.total).refl entry.0) at (all entry.0) in (
        here.0,
        back_of_key Q entries
            (λ key. split (eq_by_cmp cmp key entry.0)
            (λ is. (let more : AllByRecursion (Q key) (entry.1 ∷ of_key cmp key entries) = rw is at (all key) in more.1))
            (λ isnt. (let same : AllByRecursion (Q key) (of_key cmp key entries) = rw isnt at (all key) in same))),
      )

pub values_map : {X Y : Type 0} (g : List X → List Y) → g [] ≡ [] → (doc : ℕ) (rows : List (ℕ × List X)) → values_of doc (map (λ (row : ℕ × List X). (row.0, g row.1)) rows) ≡ g (values_of doc rows)
values_map g none doc [] = sym none
values_map g none doc (row ∷ rows) =
    split (row.0 == doc)
    (λ is. rw is refl)
    (λ isnt. rw isnt (values_map g none doc rows))

-- ---- terms that stand among those of documents

abbrev pub is_of : ℕ → ℕ × List ℕ → Bool
is_of doc posting = posting.0 == doc

term_there : (field doc : ℕ) (bytes : List ℕ) (words : List (List ℕ)) → list_any (bytes_eq bytes) words ≡ true → list_any (is_of doc) (of_key term_cmp (field, bytes) (terms_at field doc words)) ≡ true
term_there field doc bytes [] some = absurd (cc (some))
term_there field doc bytes (word ∷ words) some =
    split (eq_by_cmp term_cmp (field, bytes) (field, word))
    (λ is. rw (is, eq-eqb doc doc refl) refl)
    (λ isnt.
    rw isnt
    (split (bytes_eq bytes word)
    (λ same. absurd (
    let e : bytes ≡ word = same_bytes bytes word same in
    let itself : eq_by_cmp term_cmp (field, bytes) (field, word) ≡ true = subst (λ w. eq_by_cmp term_cmp (field, bytes) (field, w) ≡ true) e ((eq_by_cmp_equiv term_order.total).refl (field, bytes)) in
    let never : true ≡ false = sym itself ∙ isnt in cc (never)))
    (λ other. term_there field doc bytes words (rw other at some))))

terms_there : (field doc : ℕ) (values : List (List ℕ)) → AllByRecursion (λ (bytes : List ℕ). list_any (is_of doc) (of_key term_cmp (field, bytes) (terms_at field doc (once values))) ≡ true) values
terms_there field doc values =
    each_then (λ (bytes : List ℕ). list_any (bytes_eq bytes) (once values) ≡ true) (λ (bytes : List ℕ). list_any (is_of doc) (of_key term_cmp (field, bytes) (terms_at field doc (once values))) ≡ true)
    (λ bytes there. term_there field doc bytes (once values) there) values (kept_once values)

-- among more terms
first_more : (doc : ℕ) (term : ℕ × List ℕ) (xs ys : List TermEntry) → list_any (is_of doc) (of_key term_cmp term xs) ≡ true → list_any (is_of doc) (of_key term_cmp term (xs ++ ys)) ≡ true
first_more doc term xs ys there = ap (list_any (is_of doc)) (of_append term_cmp term xs ys) ∙ any_first (is_of doc) (of_key term_cmp term xs) (of_key term_cmp term ys) there

later_more : (doc : ℕ) (term : ℕ × List ℕ) (xs ys : List TermEntry) → list_any (is_of doc) (of_key term_cmp term ys) ≡ true → list_any (is_of doc) (of_key term_cmp term (xs ++ ys)) ≡ true
later_more doc term xs ys there = ap (list_any (is_of doc)) (of_append term_cmp term xs ys) ∙ any_later (is_of doc) (of_key term_cmp term xs) (of_key term_cmp term ys) there

abbrev pub AreAmong : List TermEntry → ℕ → ℕ → List (List ℕ) → Type 0
AreAmong all field doc values = AllByRecursion (λ (bytes : List ℕ). list_any (is_of doc) (of_key term_cmp (field, bytes) all) ≡ true) values

keywords_among : (entries : List (ℕ × (ℕ × List (List ℕ)))) → AllByRecursion (λ (entry : ℕ × (ℕ × List (List ℕ))). AreAmong (keyword_terms entries) entry.0 entry.1.0 entry.1.1) entries
keywords_among [] = tt
keywords_among (entry ∷ entries) =
    let here = terms_at entry.0 entry.1.0 (once entry.1.1) in (
      each_then (λ (bytes : List ℕ). list_any (is_of entry.1.0) (of_key term_cmp (entry.0, bytes) here) ≡ true) (λ (bytes : List ℕ). list_any (is_of entry.1.0) (of_key term_cmp (entry.0, bytes) (here ++ keyword_terms entries)) ≡ true)
          (λ bytes there. first_more entry.1.0 (entry.0, bytes) here (keyword_terms entries) there) entry.1.1 (terms_there entry.0 entry.1.0 entry.1.1),
      each_then (λ (e : ℕ × (ℕ × List (List ℕ))). AreAmong (keyword_terms entries) e.0 e.1.0 e.1.1) (λ (e : ℕ × (ℕ × List (List ℕ))). AreAmong (here ++ keyword_terms entries) e.0 e.1.0 e.1.1)
          (λ e all. each_then (λ (bytes : List ℕ). list_any (is_of e.1.0) (of_key term_cmp (e.0, bytes) (keyword_terms entries)) ≡ true) (λ (bytes : List ℕ). list_any (is_of e.1.0) (of_key term_cmp (e.0, bytes) (here ++ keyword_terms entries)) ≡ true)
          (λ bytes there. later_more e.1.0 (e.0, bytes) here (keyword_terms entries) there) e.1.1 all) entries (keywords_among entries),
    )

numbers_among : (entries : List (ℕ × (ℕ × List ℤ))) → AllByRecursion (λ (entry : ℕ × (ℕ × List ℤ)). AreAmong (number_terms entries) entry.0 entry.1.0 (map number_key entry.1.1)) entries
numbers_among [] = tt
numbers_among (entry ∷ entries) =
    let here = terms_at entry.0 entry.1.0 (once (map number_key entry.1.1)) in (
      each_then (λ (bytes : List ℕ). list_any (is_of entry.1.0) (of_key term_cmp (entry.0, bytes) here) ≡ true) (λ (bytes : List ℕ). list_any (is_of entry.1.0) (of_key term_cmp (entry.0, bytes) (here ++ number_terms entries)) ≡ true)
          (λ bytes there. first_more entry.1.0 (entry.0, bytes) here (number_terms entries) there) (map number_key entry.1.1) (terms_there entry.0 entry.1.0 (map number_key entry.1.1)),
      each_then (λ (e : ℕ × (ℕ × List ℤ)). AreAmong (number_terms entries) e.0 e.1.0 (map number_key e.1.1)) (λ (e : ℕ × (ℕ × List ℤ)). AreAmong (here ++ number_terms entries) e.0 e.1.0 (map number_key e.1.1))
          (λ e all. each_then (λ (bytes : List ℕ). list_any (is_of e.1.0) (of_key term_cmp (e.0, bytes) (number_terms entries)) ≡ true) (λ (bytes : List ℕ). list_any (is_of e.1.0) (of_key term_cmp (e.0, bytes) (here ++ number_terms entries)) ≡ true)
          (λ bytes there. later_more e.1.0 (e.0, bytes) here (number_terms entries) there) (map number_key e.1.1) all) entries (numbers_among entries),
    )

-- ---- text fields of documents

field_there : (field doc : ℕ) (fields : List ℕ) → list_any (λ f. f == field) fields ≡ true → list_any (λ x. x == doc) (of_key nat_cmp field (fields_with doc fields)) ≡ true
field_there field doc [] some = absurd (cc (some))
field_there field doc (f ∷ fs) some =
    split (eq_by_cmp nat_cmp field f)
    (λ is. rw (is, eq-eqb doc doc refl) refl)
    (λ isnt.
    rw isnt
    (split (f == field)
    (λ same. absurd (
    let itself : eq_by_cmp nat_cmp field f ≡ true = subst (λ g. eq_by_cmp nat_cmp field g ≡ true) (sym (eqb-true f field same)) ((eq_by_cmp_equiv nat_order.total).refl field) in
    let never : true ≡ false = sym itself ∙ isnt in cc (never)))
    (λ other. field_there field doc fs (rw other at some))))

text_there : (field n d : ℕ) (flats : List FlatDocument) (flat : FlatDocument) → slice_get flats d ≡ Some flat → list_any (λ f. f == field) flat.texts ≡ true → list_any (λ x. x == n + d) (of_key nat_cmp field (by_doc text_tags n flats)) ≡ true
text_there field n d [] flat here some = absurd (cc (here))
text_there field n zero (first ∷ flats) flat here some =
    let own : first ≡ flat = cc (here) in
    let e : n + zero ≡ n = omega arith in
    rw e
    (ap (list_any (λ x. x == n)) (of_append nat_cmp field (text_tags n first) (by_doc text_tags (n + 1) flats))
    ∙ any_first (λ x. x == n) (of_key nat_cmp field (text_tags n first)) (of_key nat_cmp field (by_doc text_tags (n + 1) flats)) (field_there field n first.texts (ap (λ (f : FlatDocument). list_any (λ g. g == field) f.texts) own ∙ some)))
text_there field n (suc d) (first ∷ flats) flat here some =
    let e : n + suc d ≡ n + 1 + d = omega arith in
    rw e
    (ap (list_any (λ x. x == n + 1 + d)) (of_append nat_cmp field (text_tags n first) (by_doc text_tags (n + 1) flats))
    ∙ any_later (λ x. x == n + 1 + d) (of_key nat_cmp field (text_tags n first)) (of_key nat_cmp field (by_doc text_tags (n + 1) flats)) (text_there field (n + 1) d flats flat here some))

some_any : {X : Type 0} (test : X → Bool) (xs : List X) → list_any test xs ≡ true → 0 < length xs
some_any test [] some = absurd (cc (some))
some_any test (x ∷ xs) some = omega arith

none_is : {X : Type 0} (o : Option X) → o ≡ None → IsNone o
none_is o is = rw is refl

pub marked_one : (flags : List Bool) (d : ℕ) → get_or flags d false ≡ true → 1 ≤ count_by is_marked flags
marked_one [] d is = absurd (cc (is))
marked_one (flag ∷ flags) zero is = let more : count_by is_marked (flag ∷ flags) ≡ cond flag 1 0 + count_by is_marked flags = count-mark flag flags in rw (more, is) (omega arith)
marked_one (flag ∷ flags) (suc d) is = omega (arith, count-mark flag flags, marked_one flags d is)

-- ---- terms are found by what documents carry

module _ (it : EntriesState) (rows : List TermRow) (are : AreGroups term_cmp (all_terms it) (map row_group rows)) where
  pub found_term : (term : ℕ × List ℕ) → 0 < length (of_key term_cmp term (all_terms it)) → (ordinal : ℕ) × (slice_get (terms_in rows) ordinal ≡ Some term)
  found_term term some =
      let any = found_at term_cmp term_order (map row_group rows) term (all_terms it) are.found some in
      let one = one_of (λ (group : (ℕ × List ℕ) × List (ℕ × List ℕ)). eq_by_cmp term_cmp term group.0) (map row_group rows) any in
      let row = map_at row_group rows one.at one.own one.is in
      let same : row.0.term ≡ term = ap (λ (group : (ℕ × List ℕ) × List (ℕ × List ℕ)). group.0) row.2 ∙ sym (key_is term_cmp term_order term one.own.0 one.passes) in
      (one.at, at_map (λ (r : TermRow). r.term) rows one.at row.0 row.1 ∙ ap Some same)

  pub keywords_here : AllByRecursion (λ (entry : ℕ × (ℕ × List (List ℕ))). AreAmong (all_terms it) entry.0 entry.1.0 entry.1.1) it.keywords
  keywords_here =
      each_then (λ (entry : ℕ × (ℕ × List (List ℕ))). AreAmong (keyword_terms it.keywords) entry.0 entry.1.0 entry.1.1) (λ (entry : ℕ × (ℕ × List (List ℕ))). AreAmong (all_terms it) entry.0 entry.1.0 entry.1.1)
      (λ entry own. each_then (λ (bytes : List ℕ). list_any (is_of entry.1.0) (of_key term_cmp (entry.0, bytes) (keyword_terms it.keywords)) ≡ true) (λ (bytes : List ℕ). list_any (is_of entry.1.0) (of_key term_cmp (entry.0, bytes) (all_terms it)) ≡ true)
      (λ bytes there. first_more entry.1.0 (entry.0, bytes) (it.words ++ keyword_terms it.keywords) (number_terms it.numbers) (later_more entry.1.0 (entry.0, bytes) it.words (keyword_terms it.keywords) there)) entry.1.1 own)
      it.keywords (keywords_among it.keywords)

  pub numbers_here : AllByRecursion (λ (entry : ℕ × (ℕ × List ℤ)). AreAmong (all_terms it) entry.0 entry.1.0 (map number_key entry.1.1)) it.numbers
  numbers_here =
      each_then (λ (entry : ℕ × (ℕ × List ℤ)). AreAmong (number_terms it.numbers) entry.0 entry.1.0 (map number_key entry.1.1)) (λ (entry : ℕ × (ℕ × List ℤ)). AreAmong (all_terms it) entry.0 entry.1.0 (map number_key entry.1.1))
      (λ entry own. each_then (λ (bytes : List ℕ). list_any (is_of entry.1.0) (of_key term_cmp (entry.0, bytes) (number_terms it.numbers)) ≡ true) (λ (bytes : List ℕ). list_any (is_of entry.1.0) (of_key term_cmp (entry.0, bytes) (all_terms it)) ≡ true)
      (λ bytes there. later_more entry.1.0 (entry.0, bytes) (it.words ++ keyword_terms it.keywords) (number_terms it.numbers) there) (map number_key entry.1.1) own)
      it.numbers (numbers_among it.numbers)

  -- each keyword has its term
  pub keywords_found : AllByRecursion (λ (entry : ℕ × (ℕ × List (List ℕ))). AllByRecursion (λ (bytes : List ℕ). Contains (terms_in rows) (entry.0, bytes)) entry.1.1) it.keywords
  keywords_found =
      each_then (λ (entry : ℕ × (ℕ × List (List ℕ))). AreAmong (all_terms it) entry.0 entry.1.0 entry.1.1) (λ (entry : ℕ × (ℕ × List (List ℕ))). AllByRecursion (λ (bytes : List ℕ). Contains (terms_in rows) (entry.0, bytes)) entry.1.1)
      (λ entry own. each_then (λ (bytes : List ℕ). list_any (is_of entry.1.0) (of_key term_cmp (entry.0, bytes) (all_terms it)) ≡ true) (λ (bytes : List ℕ). Contains (terms_in rows) (entry.0, bytes))
      (λ bytes there. let found = found_term (entry.0, bytes) (some_any (is_of entry.1.0) (of_key term_cmp (entry.0, bytes) (all_terms it)) there) in there_at (terms_in rows) found.0 (entry.0, bytes) found.1) entry.1.1 own)
      it.keywords keywords_here

module _ (k : Kinds) (apart : AreApart k) (it : EntriesState) (blocks : List BlockState) (is : it ≡ with_blocks no_entries blocks) (all : AllByRecursion (IsWritten k) (flats_in blocks))
    (columns : Columns) (made : IsMade it columns) (up : AreAscending (terms_of columns)) (many : columns.documents ≡ length (flats_in blocks)) where
  abbrev every : List TermEntry
  every = all_terms it

  abbrev Term : Type 0
  Term = ℕ × List ℕ

  -- ---- what stands at a term

  row_some : (rows : List TermRow) → AllByRecursion (λ (group : (ℕ × List ℕ) × List (ℕ × List ℕ)). 0 < length group.1) (map row_group rows) → AllByRecursion (λ (row : TermRow). 0 < length row.postings) rows
  row_some [] some = tt
  row_some (row ∷ rows) some = (some.0, row_some rows some.1)

  row_gather : (rows : List TermRow) → AllByRecursion (λ (group : (ℕ × List ℕ) × List (ℕ × List ℕ)). group.1 ≡ of_key term_cmp group.0 every) (map row_group rows) → AllByRecursion (λ (row : TermRow). row.postings ≡ of_key term_cmp row.term every) rows
  row_gather [] gather = tt
  row_gather (row ∷ rows) gather = (gather.0, row_gather rows gather.1)

  record IsRowAt (ordinal : ℕ) (term : ℕ × List ℕ) : Type 0 where
    postings : slice_index_or (postings_of columns) ordinal [] ≡ of_key term_cmp term every
    some : 0 < length (of_key term_cmp term every)

  row_at : (ordinal : ℕ) (term : ℕ × List ℕ) → slice_get (terms_of columns) ordinal ≡ Some term → IsRowAt ordinal term
  row_at ordinal term there =
      let row = map_at (λ (r : TermRow). r.term) columns.terms ordinal term there in
      let gathers : row.0.postings ≡ of_key term_cmp row.0.term every = each_at (λ (r : TermRow). r.postings ≡ of_key term_cmp r.term every) columns.terms ordinal row.0 (row_gather columns.terms made.rows.gather) row.1 in
      let some : 0 < length row.0.postings = each_at (λ (r : TermRow). 0 < length r.postings) columns.terms ordinal row.0 (row_some columns.terms made.rows.ordered.some) row.1 in
      let is_of_term : row.0.postings ≡ of_key term_cmp term every = gathers ∙ ap (λ t. of_key term_cmp t every) row.2 in
      record {
        postings = get_or_from_slice_get (postings_of columns) ordinal row.0.postings [] (at_map (λ (r : TermRow). r.postings) columns.terms ordinal row.0 row.1) ∙ is_of_term;
        some = subst (λ ps. 0 < length ps) is_of_term some;
      }

  -- a document among what stands at a term is one of the term's
  posted : (ordinal doc : ℕ) (term : ℕ × List ℕ) → slice_get (terms_of columns) ordinal ≡ Some term → list_any (is_of doc) (of_key term_cmp term every) ≡ true → Contains (documents (slice_index_or (postings_of columns) ordinal [])) doc
  posted ordinal doc term there some =
      subst (λ ps. Contains (documents ps) doc) (sym (row_at ordinal term there).postings)
      (any_number doc (documents (of_key term_cmp term every)) (any_mapped (λ (p : ℕ × List ℕ). p.0) (λ d. d == doc) (of_key term_cmp term every) ∙ some))

  -- ---- the kinds of columns

  numbers_are_num : AllByRecursion (λ (column : ℕ × List (ℕ × List ℤ)). k.num column.0 ≡ true) columns.numbers
  numbers_are_num = field_kinds k.num it.numbers columns.numbers made.numbers (number_each k it blocks is all (λ (entry : ℕ × (ℕ × List ℤ)). k.num entry.0 ≡ true) (λ doc field values own. own.kind))

  keywords_are_key : AllByRecursion (λ (group : ℕ × List (ℕ × List (List ℕ))). k.key group.0 ≡ true) made.keywords
  keywords_are_key = field_kinds k.key it.keywords made.keywords made.keyword_groups (keyword_each k it blocks is all (λ (entry : ℕ × (ℕ × List (List ℕ))). k.key entry.0 ≡ true) (λ doc field values own. own.kind))

  ordinals_are_key : AllByRecursion (λ (column : ℕ × List (ℕ × List ℕ)). k.key column.0 ≡ true) columns.ordinals
  ordinals_are_key =
      each_along (column_terms (terms_of columns)) named_group (λ (group : ℕ × List (ℕ × List (List ℕ))). k.key group.0 ≡ true) (λ (column : ℕ × List (ℕ × List ℕ)). k.key column.0 ≡ true)
      (λ column group same kind. ap (λ (c : ℕ × List (ℕ × List (Option Term))). k.key c.0) same ∙ kind)
      columns.ordinals made.keywords made.ordinals keywords_are_key

  texts_are_word : AllByRecursion (λ (group : ℕ × List ℕ). k.word group.0 ≡ true) made.texts
  texts_are_word = field_kinds k.word it.texts made.texts made.text_groups (text_each k it blocks is all (λ (entry : ℕ × ℕ). k.word entry.0 ≡ true) (λ d field inside own. own.kind))

  marked_kinds : (groups : List (ℕ × List ℕ)) → AllByRecursion (λ (group : ℕ × List ℕ). k.word group.0 ≡ true) groups → AllByRecursion (λ (column : ℕ × List Bool). k.word column.0 ≡ true) (marked_groups columns.documents groups)
  marked_kinds [] kinds = tt
  marked_kinds (group ∷ groups) kinds = (kinds.0, marked_kinds groups kinds.1)

  present_are_word : AllByRecursion (λ (column : ℕ × List Bool). k.word column.0 ≡ true) columns.present
  present_are_word = subst (AllByRecursion (λ (column : ℕ × List Bool). k.word column.0 ≡ true)) (sym made.present) (marked_kinds made.texts texts_are_word)

  -- ---- words

  abbrev IsWordEntry : ℕ × List ℕ → ℕ × List ℕ → Type 0
  IsWordEntry term posting = (1 ≤ length posting.1) × (posting.0 < columns.documents) × (list_any (λ d. d == posting.0) (of_key nat_cmp term.0 it.texts) ≡ true)

  word_entries : AllByRecursion (λ (entry : TermEntry). IsWordEntry entry.0 entry.1) it.words
  word_entries =
      word_each k it blocks is all (λ (entry : TermEntry). IsWordEntry entry.0 entry.1)
      (λ d flat term positions here own.
      let from_zero : 0 + d ≡ d = omega arith in
      let inside : d < length (flats_in blocks) = slice_get_within (flats_in blocks) d flat here in
      let there : list_any (λ x. x == 0 + d) (of_key nat_cmp term.0 (by_doc text_tags 0 (flats_in blocks))) ≡ true = text_there term.0 0 d (flats_in blocks) flat here (number_any term.0 flat.texts own.valued) in
      (omega (arith, own.some), omega (arith, inside, many), subst (λ es. list_any (λ x. x == d) (of_key nat_cmp term.0 es) ≡ true) (sym (texts_are it blocks is)) (rw from_zero at there)))

  abbrev AreMarks : ℕ → List Bool → Type 0
  AreMarks field marks = marks ≡ marks_of columns.documents (of_key nat_cmp field it.texts)

  marks_are : (groups : List (ℕ × List ℕ)) → AllByRecursion (λ (group : ℕ × List ℕ). group.1 ≡ of_key nat_cmp group.0 it.texts) groups → AllByRecursion (λ (column : ℕ × List Bool). AreMarks column.0 column.1) (marked_groups columns.documents groups)
  marks_are [] gather = tt
  marks_are (group ∷ groups) gather = (ap (marks_of columns.documents) gather.0, marks_are groups gather.1)

  any_marked : (field : ℕ) (groups : List (ℕ × List ℕ)) → list_any (λ (column : ℕ × List Bool). eq_by_cmp nat_cmp field column.0) (marked_groups columns.documents groups) ≡ list_any (λ (group : ℕ × List ℕ). eq_by_cmp nat_cmp field group.0) groups
  any_marked field [] = refl
  any_marked field (group ∷ groups) = rw (any_marked field groups) refl

  text_column : (field : ℕ) → 0 < length (of_key nat_cmp field it.texts) → IsColumnOf AreMarks field columns.present
  text_column field some =
      subst (IsColumnOf AreMarks field) (sym made.present)
      (column_there AreMarks field (marked_groups columns.documents made.texts) (marks_are made.texts made.text_groups.gather) (any_marked field made.texts ∙ found_at nat_cmp nat_order made.texts field it.texts made.text_groups.found some))

  word_at : (marks : List Bool) (term posting : ℕ × List ℕ) → AreMarks term.0 marks → IsWordEntry term posting → IsWordAt marks posting
  word_at marks term posting are entry = record {
    positions = entry.0;
    valued = ap (λ flags. get_or flags posting.0 false) are ∙ marks_at columns.documents posting.0 (of_key nat_cmp term.0 it.texts) entry.1 ∙ entry.2;
  }

  -- ---- keywords

  abbrev IsKeywordEntry : ℕ × List ℕ → ℕ × List ℕ → Type 0
  IsKeywordEntry term posting = (length posting.1 ≡ 0) × Contains (values_of posting.0 (of_key nat_cmp term.0 it.keywords)) term.1

  keyword_values : AllByRecursion (λ (entry : ℕ × (ℕ × List (List ℕ))). values_of entry.1.0 (of_key nat_cmp entry.0 it.keywords) ≡ entry.1.1) it.keywords
  keyword_values =
      back_of_key nat_cmp nat_order (λ field row. values_of row.0 (of_key nat_cmp field it.keywords) ≡ row.1) it.keywords
      (λ field. values_rise 0 (length (flats_in blocks)) (of_key nat_cmp field it.keywords) (keywords_rise k it blocks is all field))

  keyword_entries_are : AllByRecursion (λ (entry : TermEntry). IsKeywordEntry entry.0 entry.1) (keyword_terms it.keywords)
  keyword_entries_are =
      keyword_terms_each (λ (entry : TermEntry). IsKeywordEntry entry.0 entry.1) it.keywords
      (each_then (λ (entry : ℕ × (ℕ × List (List ℕ))). values_of entry.1.0 (of_key nat_cmp entry.0 it.keywords) ≡ entry.1.1) (λ (entry : ℕ × (ℕ × List (List ℕ))). AllByRecursion (λ (bytes : List ℕ). IsKeywordEntry (entry.0, bytes) (entry.1.0, [])) entry.1.1)
      (λ entry own. each_then (λ (bytes : List ℕ). Contains entry.1.1 bytes) (λ (bytes : List ℕ). IsKeywordEntry (entry.0, bytes) (entry.1.0, [])) (λ bytes there. (refl, subst (λ vs. Contains vs bytes) (sym own) there)) entry.1.1 (recursion_from_All (Contains entry.1.1) entry.1.1 (All-contains_itself entry.1.1)))
      it.keywords keyword_values)

  -- the rows of ordinals are those of keywords
  record AreOrdinals (field : ℕ) (rows : List (ℕ × List ℕ)) : Type 0 where
    own : List (ℕ × List (List ℕ))
    gather : own ≡ of_key nat_cmp field it.keywords
    same : map (row_terms (terms_of columns)) rows ≡ map (named_row field) own

  ordinals_are : AllByRecursion (λ (column : ℕ × List (ℕ × List ℕ)). AreOrdinals column.0 column.1) columns.ordinals
  ordinals_are =
      each_along (column_terms (terms_of columns)) named_group (λ (group : ℕ × List (ℕ × List (List ℕ))). group.1 ≡ of_key nat_cmp group.0 it.keywords) (λ (column : ℕ × List (ℕ × List ℕ)). AreOrdinals column.0 column.1)
      (λ column group same gather.
      let fields : column.0 ≡ group.0 = ap (λ (c : ℕ × List (ℕ × List (Option Term))). c.0) same in
      let rows : map (row_terms (terms_of columns)) column.1 ≡ map (named_row group.0) group.1 = ap (λ (c : ℕ × List (ℕ × List (Option Term))). c.1) same in
      record {
        own = group.1;
        gather = gather ∙ ap (λ f. of_key nat_cmp f it.keywords) (sym fields);
        same = rows ∙ ap (λ f. map (named_row f) group.1) (sym fields);
      })
      columns.ordinals made.keywords made.ordinals made.keyword_groups.gather

  any_along : (field : ℕ) (cs : List (ℕ × List (ℕ × List ℕ))) (groups : List (ℕ × List (ℕ × List (List ℕ)))) → map (column_terms (terms_of columns)) cs ≡ map named_group groups
      → list_any (λ (column : ℕ × List (ℕ × List ℕ)). eq_by_cmp nat_cmp field column.0) cs ≡ list_any (λ (group : ℕ × List (ℕ × List (List ℕ))). eq_by_cmp nat_cmp field group.0) groups
  any_along field cs groups same =
      sym (any_mapped (column_terms (terms_of columns)) (λ (c : ℕ × List (ℕ × List (Option Term))). eq_by_cmp nat_cmp field c.0) cs)
      ∙ ap (list_any (λ (c : ℕ × List (ℕ × List (Option Term))). eq_by_cmp nat_cmp field c.0)) same
      ∙ any_mapped named_group (λ (c : ℕ × List (ℕ × List (Option Term))). eq_by_cmp nat_cmp field c.0) groups

  ordinal_column : (field : ℕ) → 0 < length (of_key nat_cmp field it.keywords) → IsColumnOf AreOrdinals field columns.ordinals
  ordinal_column field some =
      column_there AreOrdinals field columns.ordinals ordinals_are (any_along field columns.ordinals made.keywords made.ordinals ∙ found_at nat_cmp nat_order made.keywords field it.keywords made.keyword_groups.found some)

  values_named : (field doc : ℕ) (rows : List (ℕ × List ℕ)) (own : List (ℕ × List (List ℕ))) → map (row_terms (terms_of columns)) rows ≡ map (named_row field) own → map (slice_get (terms_of columns)) (values_of doc rows) ≡ named field (values_of doc own)
  values_named field doc rows own same =
      sym (values_map (map (slice_get (terms_of columns))) refl doc rows) ∙ ap (values_of doc) same ∙ values_map (named field) refl doc own

  keyword_at : (rows : List (ℕ × List ℕ)) (ordinal : ℕ) (term posting : ℕ × List ℕ) → slice_get (terms_of columns) ordinal ≡ Some term → AreOrdinals term.0 rows → IsKeywordEntry term posting → IsKeywordAt rows ordinal posting
  keyword_at rows ordinal term posting there are entry = record {
    positions = entry.0;
    valued =
        let values : List (List ℕ) = values_of posting.0 (of_key nat_cmp term.0 it.keywords) in
        let place = entry.1 in
        let own_is : slice_get values place.0 ≡ Some term.1 = slice_get-get_or values place.0 term.1 place.1 ∙ ap Some place.2 in
        let as_named : slice_get (named term.0 values) place.0 ≡ Some (Some (term.0, term.1)) = at_map (λ bytes. Some (term.0, bytes)) values place.0 term.1 own_is in
        let lists : map (slice_get (terms_of columns)) (values_of posting.0 rows) ≡ named term.0 values =
        values_named term.0 posting.0 rows are.own are.same ∙ ap (λ own. named term.0 (values_of posting.0 own)) are.gather in
        let found = map_at (slice_get (terms_of columns)) (values_of posting.0 rows) place.0 (Some (term.0, term.1)) (ap (λ xs. slice_get xs place.0) lists ∙ as_named) in
        let written_out : slice_get (terms_of columns) ordinal ≡ Some (term.0, term.1) = there ∙ ap Some (pair_same term (term.0, term.1) refl refl) in
        let same : found.0 ≡ ordinal = one_place (terms_of columns) found.0 ordinal (term.0, term.1) up found.2 written_out in
        there_at (values_of posting.0 rows) place.0 ordinal (found.1 ∙ ap Some same);
  }

  -- ---- numbers

  abbrev IsNumberEntry : ℕ × List ℕ → ℕ × List ℕ → Type 0
  IsNumberEntry term posting = (length posting.1 ≡ 0) × Contains (map number_key (values_of posting.0 (of_key nat_cmp term.0 it.numbers))) term.1

  number_values : AllByRecursion (λ (entry : ℕ × (ℕ × List ℤ)). values_of entry.1.0 (of_key nat_cmp entry.0 it.numbers) ≡ entry.1.1) it.numbers
  number_values =
      back_of_key nat_cmp nat_order (λ field row. values_of row.0 (of_key nat_cmp field it.numbers) ≡ row.1) it.numbers
      (λ field. values_rise 0 (length (flats_in blocks)) (of_key nat_cmp field it.numbers) (numbers_rise k it blocks is all field))

  number_entries_are : AllByRecursion (λ (entry : TermEntry). IsNumberEntry entry.0 entry.1) (number_terms it.numbers)
  number_entries_are =
      number_terms_each (λ (entry : TermEntry). IsNumberEntry entry.0 entry.1) it.numbers
      (each_then (λ (entry : ℕ × (ℕ × List ℤ)). values_of entry.1.0 (of_key nat_cmp entry.0 it.numbers) ≡ entry.1.1) (λ (entry : ℕ × (ℕ × List ℤ)). AllByRecursion (λ (bytes : List ℕ). IsNumberEntry (entry.0, bytes) (entry.1.0, [])) (map number_key entry.1.1))
      (λ entry own. each_then (λ (bytes : List ℕ). Contains (map number_key entry.1.1) bytes) (λ (bytes : List ℕ). IsNumberEntry (entry.0, bytes) (entry.1.0, [])) (λ bytes there. (refl, subst (λ vs. Contains (map number_key vs) bytes) (sym own) there)) (map number_key entry.1.1) (recursion_from_All (Contains (map number_key entry.1.1)) (map number_key entry.1.1) (All-contains_itself (map number_key entry.1.1))))
      it.numbers number_values)

  abbrev AreNumberRows : ℕ → List (ℕ × List ℤ) → Type 0
  AreNumberRows field rows = rows ≡ of_key nat_cmp field it.numbers

  number_column : (field : ℕ) → 0 < length (of_key nat_cmp field it.numbers) → IsColumnOf AreNumberRows field columns.numbers
  number_column field some = column_there AreNumberRows field columns.numbers made.numbers.gather (found_at nat_cmp nat_order columns.numbers field it.numbers made.numbers.found some)

  number_at : (rows : List (ℕ × List ℤ)) (term posting : ℕ × List ℕ) → AreNumberRows term.0 rows → IsNumberEntry term posting → IsNumberAt rows term.1 posting
  number_at rows term posting are entry = record {
    positions = entry.0;
    valued = subst (λ rs. Contains (map number_key (values_of posting.0 rs)) term.1) (sym are) entry.1;
  }

  -- ---- each term is as its field's column is

  abbrev IsOfTerm : ℕ → ℕ × List ℕ → Type 0
  IsOfTerm ordinal term = IsTermOf (column_of term.0 columns.present) (column_of term.0 columns.ordinals) (column_of term.0 columns.numbers) ordinal term.1 (of_key term_cmp term every)

  word_term : (ordinal : ℕ) (term : ℕ × List ℕ) → 0 < length (of_key term_cmp term every) → k.word term.0 ≡ true → IsOfTerm ordinal term
  word_term ordinal term some kind =
      let own : of_key term_cmp term every ≡ of_key term_cmp term it.words = of_word k it blocks is all apart term kind in
      let entries : AllByRecursion (IsWordEntry term) (of_key term_cmp term it.words) = each_of_key term_cmp term_order (λ t p. IsWordEntry t p) term it.words word_entries in
      let first = (first_is (IsWordEntry term) (of_key term_cmp term it.words) (subst (λ ps. 0 < length ps) own some) entries) in
      let column = text_column term.0 (some_any (λ d. d == first.0.0) (of_key nat_cmp term.0 it.texts) first.1.2) in
      let words : All (IsWordAt column.own) (of_key term_cmp term it.words) =
      All-from_recursion (IsWordAt column.own) (of_key term_cmp term it.words) (each_then (IsWordEntry term) (IsWordAt column.own) (λ posting entry. word_at column.own term posting column.has entry) (of_key term_cmp term it.words) entries) in
      rw column.is (subst (All (IsWordAt column.own)) (sym own) words)

  keyword_term : (ordinal : ℕ) (term : ℕ × List ℕ) → slice_get (terms_of columns) ordinal ≡ Some term → 0 < length (of_key term_cmp term every) → k.key term.0 ≡ true → IsOfTerm ordinal term
  keyword_term ordinal term there some kind =
      let own : of_key term_cmp term every ≡ of_key term_cmp term (keyword_terms it.keywords) = of_keyword k it blocks is all apart term kind in
      let entries : AllByRecursion (IsKeywordEntry term) (of_key term_cmp term (keyword_terms it.keywords)) = each_of_key term_cmp term_order (λ t p. IsKeywordEntry t p) term (keyword_terms it.keywords) keyword_entries_are in
      let first = (first_is (IsKeywordEntry term) (of_key term_cmp term (keyword_terms it.keywords)) (subst (λ ps. 0 < length ps) own some) entries) in
      let column = ordinal_column term.0 (valued_some first.0.0 (of_key nat_cmp term.0 it.keywords) term.1 first.1.1) in
      let no_text : column_of term.0 columns.present ≡ None = column_none k.word term.0 columns.present present_are_word (apart.key_word term.0 kind) in
      let keywords : All (IsKeywordAt column.own ordinal) (of_key term_cmp term (keyword_terms it.keywords)) =
      All-from_recursion (IsKeywordAt column.own ordinal) (of_key term_cmp term (keyword_terms it.keywords)) (each_then (IsKeywordEntry term) (IsKeywordAt column.own ordinal) (λ posting entry. keyword_at column.own ordinal term posting there column.has entry) (of_key term_cmp term (keyword_terms it.keywords)) entries) in
      rw (no_text, column.is) (subst (All (IsKeywordAt column.own ordinal)) (sym own) keywords)
    where
      valued_some : (doc : ℕ) (rows : List (ℕ × List (List ℕ))) (bytes : List ℕ) → Contains (values_of doc rows) bytes → 0 < length rows
      valued_some doc [] bytes contained = absurd (omega (arith, contained.1))
      valued_some doc (row ∷ rows) bytes contained = omega arith

  number_term : (ordinal : ℕ) (term : ℕ × List ℕ) → 0 < length (of_key term_cmp term every) → k.num term.0 ≡ true → IsOfTerm ordinal term
  number_term ordinal term some kind =
      let own : of_key term_cmp term every ≡ of_key term_cmp term (number_terms it.numbers) = of_number k it blocks is all apart term kind in
      let entries : AllByRecursion (IsNumberEntry term) (of_key term_cmp term (number_terms it.numbers)) = each_of_key term_cmp term_order (λ t p. IsNumberEntry t p) term (number_terms it.numbers) number_entries_are in
      let first = (first_is (IsNumberEntry term) (of_key term_cmp term (number_terms it.numbers)) (subst (λ ps. 0 < length ps) own some) entries) in
      let column = number_column term.0 (keyed_some first.0.0 (of_key nat_cmp term.0 it.numbers) term.1 first.1.1) in
      let no_text : column_of term.0 columns.present ≡ None = column_none k.word term.0 columns.present present_are_word (apart.num_word term.0 kind) in
      let no_keyword : column_of term.0 columns.ordinals ≡ None = column_none k.key term.0 columns.ordinals ordinals_are_key (apart.num_key term.0 kind) in
      let numbers : All (IsNumberAt column.own term.1) (of_key term_cmp term (number_terms it.numbers)) =
      All-from_recursion (IsNumberAt column.own term.1) (of_key term_cmp term (number_terms it.numbers)) (each_then (IsNumberEntry term) (IsNumberAt column.own term.1) (λ posting entry. number_at column.own term posting column.has entry) (of_key term_cmp term (number_terms it.numbers)) entries) in
      rw (no_text, no_keyword, column.is) (subst (All (IsNumberAt column.own term.1)) (sym own) numbers)
    where
      keyed_some : (doc : ℕ) (rows : List (ℕ × List ℤ)) (bytes : List ℕ) → Contains (map number_key (values_of doc rows)) bytes → 0 < length rows
      keyed_some doc [] bytes contained = absurd (omega (arith, contained.1))
      keyed_some doc (row ∷ rows) bytes contained = omega arith

  -- some part has the term
  abbrev HasKind : ℕ → Type 0
  HasKind field = (k.word field ≡ false) → (k.key field ≡ false) → k.num field ≡ true

  kinds_all : AllByRecursion (λ (entry : TermEntry). HasKind entry.0.0) every
  kinds_all =
      each_more (it.words ++ keyword_terms it.keywords) (number_terms it.numbers)
      (each_more it.words (keyword_terms it.keywords)
      (each_then (λ (entry : TermEntry). k.word entry.0.0 ≡ true) (λ (entry : TermEntry). HasKind entry.0.0) (λ entry kind no_word no_key. absurd (let never : true ≡ false = sym kind ∙ no_word in cc (never))) it.words (words_kind k it blocks is all))
      (each_then (λ (entry : TermEntry). k.key entry.0.0 ≡ true) (λ (entry : TermEntry). HasKind entry.0.0) (λ entry kind no_word no_key. absurd (let never : true ≡ false = sym kind ∙ no_key in cc (never))) (keyword_terms it.keywords) (keywords_kind k it blocks is all)))
      (each_then (λ (entry : TermEntry). k.num entry.0.0 ≡ true) (λ (entry : TermEntry). HasKind entry.0.0) (λ entry kind no_word no_key. kind) (number_terms it.numbers) (numbers_kind k it blocks is all))
    where
      each_more : (xs ys : List TermEntry) → AllByRecursion (λ (entry : TermEntry). HasKind entry.0.0) xs → AllByRecursion (λ (entry : TermEntry). HasKind entry.0.0) ys → AllByRecursion (λ (entry : TermEntry). HasKind entry.0.0) (xs ++ ys)
      each_more [] ys one two = two
      each_more (x ∷ xs) ys one two = (one.0, each_more xs ys one.1 two)

  has_kind : (term : ℕ × List ℕ) → 0 < length (of_key term_cmp term every) → HasKind term.0
  has_kind term some = (first_is (λ (posting : ℕ × List ℕ). HasKind term.0) (of_key term_cmp term every) some (each_of_key term_cmp term_order (λ t p. HasKind t.0) term every kinds_all)).1

  of_term : (ordinal : ℕ) (term : ℕ × List ℕ) → slice_get (terms_of columns) ordinal ≡ Some term → 0 < length (of_key term_cmp term every) → IsOfTerm ordinal term
  of_term ordinal term there some =
      split (k.word term.0)
      (λ is_word. word_term ordinal term some is_word)
      (λ no_word. split (k.key term.0)
      (λ is_key. keyword_term ordinal term there some is_key)
      (λ no_key. number_term ordinal term some (has_kind term some no_word no_key)))

  term_at : (ordinal : ℕ) (term : ℕ × List ℕ) → slice_get (terms_of columns) ordinal ≡ Some term → IsTermAt columns ordinal term
  term_at ordinal term there =
      let row = row_at ordinal term there in
      record {
        short = (first_is (λ (posting : ℕ × List ℕ). length term.1 ≤ 32766) (of_key term_cmp term every) row.some (each_of_key term_cmp term_order (λ t p. length t.1 ≤ 32766) term every (all_short k it blocks is all))).1;
        is = subst (IsTermOf (column_of term.0 columns.present) (column_of term.0 columns.ordinals) (column_of term.0 columns.numbers) ordinal term.1) (sym row.postings) (of_term ordinal term there row.some);
      }

  -- ---- each value has its term

  abbrev IsPosted : ℕ → ℕ × List (List ℕ) → Type 0
  IsPosted field row = AreAmong every field row.0 row.1

  ordinal_is : (field doc ordinal : ℕ) (bytes : List ℕ) → slice_get (terms_of columns) ordinal ≡ Some (field, bytes) → list_any (is_of doc) (of_key term_cmp (field, bytes) every) ≡ true → IsOrdinalAt (terms_of columns) (postings_of columns) field doc ordinal
  ordinal_is field doc ordinal bytes there among = record {
    of_field = rw there refl;
    posted = posted ordinal doc (field, bytes) there among;
  }

  ordinals_row : (field : ℕ) (row : ℕ × List ℕ) (own : ℕ × List (List ℕ)) → row_terms (terms_of columns) row ≡ named_row field own → IsPosted field own → All (λ ordinal. IsOrdinalAt (terms_of columns) (postings_of columns) field row.0 ordinal) row.1
  ordinals_row field row own same among =
      let docs : row.0 ≡ own.0 = ap (λ (r : ℕ × List (Option Term)). r.0) same in
      let lists : map (slice_get (terms_of columns)) row.1 ≡ map (λ bytes. Some (field, bytes)) own.1 = ap (λ (r : ℕ × List (Option Term)). r.1) same in
      All-from_recursion (λ ordinal. IsOrdinalAt (terms_of columns) (postings_of columns) field row.0 ordinal) row.1
      (each_along (slice_get (terms_of columns)) (λ (bytes : List ℕ). Some (field, bytes)) (λ (bytes : List ℕ). list_any (is_of own.0) (of_key term_cmp (field, bytes) every) ≡ true) (λ ordinal. IsOrdinalAt (terms_of columns) (postings_of columns) field row.0 ordinal)
      (λ ordinal bytes there posted_there. ordinal_is field row.0 ordinal bytes there (subst (λ d. list_any (is_of d) (of_key term_cmp (field, bytes) every) ≡ true) (sym docs) posted_there))
      row.1 own.1 lists among)

  have_ordinals : All (HaveOrdinals (terms_of columns) (postings_of columns)) columns.ordinals
  have_ordinals =
      All-from_recursion (HaveOrdinals (terms_of columns) (postings_of columns)) columns.ordinals
      (each_then (λ (column : ℕ × List (ℕ × List ℕ)). AreOrdinals column.0 column.1) (HaveOrdinals (terms_of columns) (postings_of columns))
      (λ column are.
      let posted_rows : AllByRecursion (IsPosted column.0) are.own = subst (AllByRecursion (IsPosted column.0)) (sym are.gather) (each_of_key nat_cmp nat_order (λ field row. IsPosted field row) column.0 it.keywords (keywords_here it columns.terms made.rows)) in
      All-from_recursion (λ (row : ℕ × List ℕ). All (λ ordinal. IsOrdinalAt (terms_of columns) (postings_of columns) column.0 row.0 ordinal) row.1) column.1
      (each_along (row_terms (terms_of columns)) (named_row column.0) (IsPosted column.0) (λ (row : ℕ × List ℕ). All (λ ordinal. IsOrdinalAt (terms_of columns) (postings_of columns) column.0 row.0 ordinal) row.1)
      (λ row own same among. ordinals_row column.0 row own same among) column.1 are.own are.same posted_rows))
      columns.ordinals ordinals_are)

  keyed : (field doc : ℕ) (number : ℤ) → list_any (is_of doc) (of_key term_cmp (field, number_key number) every) ≡ true → IsKeyed (terms_of columns) (postings_of columns) field doc number
  keyed field doc number among =
      let found = found_term it columns.terms made.rows (field, number_key number) (some_any (is_of doc) (of_key term_cmp (field, number_key number) every) among) in
      record { ordinal = found.0; is = found.1; posted = posted found.0 doc (field, number_key number) found.1 among }

  keyed_row : (field doc : ℕ) (numbers : List ℤ) → AreAmong every field doc (map number_key numbers) → AllByRecursion (λ number. IsKeyed (terms_of columns) (postings_of columns) field doc number) numbers
  keyed_row field doc [] among = tt
  keyed_row field doc (number ∷ numbers) among = (keyed field doc number among.0, keyed_row field doc numbers among.1)

  have_keys : All (HaveKeys (terms_of columns) (postings_of columns)) columns.numbers
  have_keys =
      All-from_recursion (HaveKeys (terms_of columns) (postings_of columns)) columns.numbers
      (each_then (λ (column : ℕ × List (ℕ × List ℤ)). column.1 ≡ of_key nat_cmp column.0 it.numbers) (HaveKeys (terms_of columns) (postings_of columns))
      (λ column gather.
      let posted_rows : AllByRecursion (λ (row : ℕ × List ℤ). AreAmong every column.0 row.0 (map number_key row.1)) column.1 = subst (AllByRecursion (λ (row : ℕ × List ℤ). AreAmong every column.0 row.0 (map number_key row.1))) (sym gather) (each_of_key nat_cmp nat_order (λ field row. AreAmong every field row.0 (map number_key row.1)) column.0 it.numbers (numbers_here it columns.terms made.rows)) in
      All-from_recursion (λ (row : ℕ × List ℤ). All (λ number. IsKeyed (terms_of columns) (postings_of columns) column.0 row.0 number) row.1) column.1
      (each_then (λ (row : ℕ × List ℤ). AreAmong every column.0 row.0 (map number_key row.1)) (λ (row : ℕ × List ℤ). All (λ number. IsKeyed (terms_of columns) (postings_of columns) column.0 row.0 number) row.1)
      (λ row among. All-from_recursion (λ number. IsKeyed (terms_of columns) (postings_of columns) column.0 row.0 number) row.1 (keyed_row column.0 row.0 row.1 among)) column.1 posted_rows))
      columns.numbers made.numbers.gather)

  pub have_terms : HaveTerms columns
  have_terms = record { terms = term_at; ordinals = have_ordinals; numbers = have_keys }

  -- ---- the columns of fields

  within : {X : Type 0} (rows : List (ℕ × X)) → AreRisingFrom 0 (length (flats_in blocks)) rows → AreWithin columns.documents rows
  within {X} rows rise = All-from_recursion (λ (row : ℕ × X). row.0 < columns.documents) rows (each_then (λ (row : ℕ × X). row.0 < length (flats_in blocks)) (λ (row : ℕ × X). row.0 < columns.documents) (λ row inside. omega (arith, inside, many)) rows (rises_within 0 (length (flats_in blocks)) rows rise))

  ordinals_within : (column : ℕ × List (ℕ × List ℕ)) → AreOrdinals column.0 column.1 → AreWithin columns.documents column.1
  ordinals_within column are =
      let own : AllByRecursion (λ (row : ℕ × List (List ℕ)). row.0 < columns.documents) are.own = each_then (λ (row : ℕ × List (List ℕ)). row.0 < length (flats_in blocks)) (λ (row : ℕ × List (List ℕ)). row.0 < columns.documents) (λ row inside. omega (arith, inside, many)) are.own
      (rises_within 0 (length (flats_in blocks)) are.own (subst (AreRisingFrom 0 (length (flats_in blocks))) (sym are.gather) (keywords_rise k it blocks is all column.0))) in
      All-from_recursion (λ (row : ℕ × List ℕ). row.0 < columns.documents) column.1
      (each_along (row_terms (terms_of columns)) (named_row column.0) (λ (row : ℕ × List (List ℕ)). row.0 < columns.documents) (λ (row : ℕ × List ℕ). row.0 < columns.documents)
      (λ row other same inside. subst (λ d. d < columns.documents) (sym (ap (λ (r : ℕ × List (Option Term)). r.0) same)) inside) column.1 are.own are.same own)

  marks_some : (groups : List (ℕ × List ℕ)) → AllByRecursion (λ (group : ℕ × List ℕ). 0 < length group.1) groups → AllByRecursion (λ (group : ℕ × List ℕ). group.1 ≡ of_key nat_cmp group.0 it.texts) groups → AllByRecursion (λ (column : ℕ × List Bool). 1 ≤ count_by is_marked column.1) (marked_groups columns.documents groups)
  marks_some [] some gather = tt
  marks_some (group ∷ groups) some gather =
      let docs : AllByRecursion (λ doc. doc < columns.documents) group.1 = subst (AllByRecursion (λ doc. doc < columns.documents)) (sym gather.0)
      (each_of_key nat_cmp nat_order (λ field doc. doc < columns.documents) group.0 it.texts (text_each k it blocks is all (λ (entry : ℕ × ℕ). entry.1 < columns.documents) (λ d field inside own. omega (arith, inside, many)))) in
      (first_marked group.1 some.0 docs, marks_some groups some.1 gather.1)
    where
      first_marked : (ds : List ℕ) → 0 < length ds → AllByRecursion (λ doc. doc < columns.documents) ds → 1 ≤ count_by is_marked (marks_of columns.documents ds)
      first_marked [] none inside = absurd (omega (arith, none))
      first_marked (doc ∷ ds) there inside = marked_one (marks_of columns.documents (doc ∷ ds)) doc (marks_at columns.documents doc (doc ∷ ds) inside.0 ∙ rw (eq-eqb doc doc refl) refl)

  pub have_fields : HaveFields columns
  have_fields = record {
    ordinals_apart =
        All-from_recursion (λ (column : ℕ × List (ℕ × List ℕ)). IsNone (column_of column.0 columns.numbers) × IsNone (column_of column.0 columns.present)) columns.ordinals
        (each_then (λ (column : ℕ × List (ℕ × List ℕ)). k.key column.0 ≡ true) (λ (column : ℕ × List (ℕ × List ℕ)). IsNone (column_of column.0 columns.numbers) × IsNone (column_of column.0 columns.present))
        (λ column kind. (none_is (column_of column.0 columns.numbers) (column_none k.num column.0 columns.numbers numbers_are_num (apart.key_num column.0 kind)), none_is (column_of column.0 columns.present) (column_none k.word column.0 columns.present present_are_word (apart.key_word column.0 kind))))
        columns.ordinals ordinals_are_key);
    numbers_apart =
        All-from_recursion (λ (column : ℕ × List (ℕ × List ℤ)). IsNone (column_of column.0 columns.present)) columns.numbers
        (each_then (λ (column : ℕ × List (ℕ × List ℤ)). k.num column.0 ≡ true) (λ (column : ℕ × List (ℕ × List ℤ)). IsNone (column_of column.0 columns.present))
        (λ column kind. none_is (column_of column.0 columns.present) (column_none k.word column.0 columns.present present_are_word (apart.num_word column.0 kind)))
        columns.numbers numbers_are_num);
    ordinals_within = All-from_recursion (λ (column : ℕ × List (ℕ × List ℕ)). AreWithin columns.documents column.1) columns.ordinals (each_then (λ (column : ℕ × List (ℕ × List ℕ)). AreOrdinals column.0 column.1) (λ (column : ℕ × List (ℕ × List ℕ)). AreWithin columns.documents column.1) (λ column are. ordinals_within column are) columns.ordinals ordinals_are);
    numbers_within =
        All-from_recursion (λ (column : ℕ × List (ℕ × List ℤ)). AreWithin columns.documents column.1) columns.numbers
        (each_then (λ (column : ℕ × List (ℕ × List ℤ)). column.1 ≡ of_key nat_cmp column.0 it.numbers) (λ (column : ℕ × List (ℕ × List ℤ)). AreWithin columns.documents column.1)
        (λ column gather. within column.1 (subst (AreRisingFrom 0 (length (flats_in blocks))) (sym gather) (numbers_rise k it blocks is all column.0))) columns.numbers made.numbers.gather);
    present_some = All-from_recursion (λ (column : ℕ × List Bool). 1 ≤ count_by is_marked column.1) columns.present (subst (AllByRecursion (λ (column : ℕ × List Bool). 1 ≤ count_by is_marked column.1)) (sym made.present) (marks_some made.texts made.text_groups.ordered.some made.text_groups.gather));
  }
