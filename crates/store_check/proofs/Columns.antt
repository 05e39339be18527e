-- Columns that agree are known by their documents, their roots and what they have at each key.
use Rattle.std.proofs.Common.{◌≡◌, ℕ, ℤ, zero, suc, ◌+◌, ◌-◌, ◌<◌, ◌≤◌, ◌==◌, Bool, true, false, List, [], ◌∷◌, length, map, get_or, slice_get, slice_index_or, count_by, Option, Some, None, IsSomeAnd, refl, sym, ap, subst, ◌∙◌, arith, eqb-true}
use Rattle.std.specs.List.{All, AllByRecursion}
use Rattle.std.specs.List.Sorted.{IsStrictlySortedBy, IsStrictlyIncreasing}
use Rattle.std.specs.Ordering.{nat_cmp}
use Rattle.std.specs.declared.cmp.Ordering.TheVariants.{Less, Equal}
use Rattle.std.proofs.lemmas.Cmp.{tied_itself}
use Rattle.std.proofs.lemmas.List.{get_or_default, length-map}
use Rattle.std.proofs.lemmas.List.Elements.{recursion_from_All, All-get_or}
use Rattle.std.proofs.lemmas.List.FromFn.{get_or-map-range_with_len}
use Rattle.std.proofs.lemmas.Map.Keys.{sorted_from_strictly_increasing}
use Rattle.block_bits.specs.Flags.{is_marked}
use Rattle.segment.specs.Flat.{FlatDocument, FlatRoot, flat_of, flats_of, flat_root, roots_of}
use Rattle.segment_parts.specs.Agree.{AreColumns, HaveOrdinals, IsOrdinalAt}
use Rattle.segment_parts.specs.Lists.{terms_of, postings_of}
use Rattle.segment_parts.specs.Marks.{length-marked_places, marked_once}
use Rattle.segment_parts.specs.Parts.{IsOrdinalColumn, IsNumberColumn, IsPresence}
use Rattle.segment_parts.specs.Text.{marked_places}
use Rattle.segment_parts.specs.declared.columns.Columns.{Columns}
use Rattle.stored_sources.specs.declared.root.Root.{Root}
use Rattle.term_table.specs.Part.{IsRow}
use Rattle.term_table.specs.Terms.{term_cmp}
use Rattle.term_table.specs.declared.rows.TermRow.{TermRow}
use Rattle.segment_builder.specs.ByKey.{SayAtKeys, marked_docs}
use Rattle.segment_builder.specs.Columns.{column_terms, row_terms}
use Rattle.segment_builder.specs.Entries.{EntriesState}
use Rattle.segment_builder.specs.Groups.{AreOrdered, keys}
use Rattle.segment_builder.specs.Terms.{row_group}
use Rattle.segment_builder.proofs.InOrder.{each_then}
use Rattle.segment_builder.proofs.Orders.{nat_order, pair_same, term_order}
use Rattle.store_check.proofs.Groups.{groups_once}
use Rattle.store_check.proofs.Lists.{map_once, map_back, same_lists}

-- ---- the groups of columns are in order

term_keys : (rows : List TermRow) → keys (map row_group rows) ≡ map (λ (row : TermRow). row.term) rows
term_keys [] = refl
term_keys (row ∷ rows) = ap (λ (ks : List (ℕ × List ℕ)). row.term ∷ ks) (term_keys rows)

some_mapped : {X K P : Type 0} (f : X → K × List P) (xs : List X) → AllByRecursion (λ x. 0 < length (f x).1) xs → AllByRecursion (λ (group : K × List P). 0 < length group.1) (map f xs)
some_mapped f [] all = tt
some_mapped f (x ∷ xs) all = (all.0, some_mapped f xs all.1)

terms_ordered : (columns : Columns) → AreColumns columns → AreOrdered term_cmp (map row_group columns.terms)
terms_ordered columns are =
    record {
      ascending = subst (IsStrictlySortedBy term_cmp) (sym (term_keys columns.terms)) are.parts.terms_are.ascending;
      some =
          some_mapped row_group columns.terms
          (each_then IsRow (λ (row : TermRow). 0 < length row.postings) (λ row is. is.some) columns.terms (recursion_from_All IsRow columns.terms are.parts.terms_are.rows_are));
    }

field_keys : {P Q : Type 0} (f : ℕ × P → ℕ × List Q) → ((column : ℕ × P) → (f column).0 ≡ column.0) → (columns : List (ℕ × P))
    → keys (map f columns) ≡ map (λ (column : ℕ × P). column.0) columns
field_keys f same [] = refl
field_keys f same (column ∷ columns) = rw (same column, field_keys f same columns) refl

fields_ordered : {P Q : Type 0} (f : ℕ × P → ℕ × List Q) → ((column : ℕ × P) → (f column).0 ≡ column.0) → (columns : List (ℕ × P))
    → IsStrictlyIncreasing (map (λ (column : ℕ × P). column.0) columns) → AllByRecursion (λ column. 0 < length (f column).1) columns → AreOrdered nat_cmp (map f columns)
fields_ordered {P} f same columns ascending some =
    record {
      ascending = subst (IsStrictlySortedBy nat_cmp) (sym (field_keys f same columns)) (sorted_from_strictly_increasing (map (λ (column : ℕ × P). column.0) columns) ascending);
      some = some_mapped f columns some;
    }

numbers_ordered : (columns : Columns) → AreColumns columns → AreOrdered nat_cmp columns.numbers
numbers_ordered columns are =
    record {
      ascending = sorted_from_strictly_increasing (keys columns.numbers) are.parts.numbers_are.ascending;
      some =
          each_then IsNumberColumn (λ (column : ℕ × List (ℕ × List ℤ)). 0 < length column.1) (λ column is. is.entries.some) columns.numbers
          (recursion_from_All IsNumberColumn columns.numbers are.parts.numbers_are.each);
    }

some_rows : (terms : List (ℕ × List ℕ)) (column : ℕ × List (ℕ × List ℕ)) → IsOrdinalColumn column → 0 < length (column_terms terms column).1
some_rows terms column is = omega (arith, is.entries.some, length-map column.1 (row_terms terms))

keywords_ordered : (columns : Columns) → AreColumns columns → AreOrdered nat_cmp (map (column_terms (terms_of columns)) columns.ordinals)
keywords_ordered columns are =
    fields_ordered (column_terms (terms_of columns)) (λ _. refl) columns.ordinals are.parts.ordinals_are.ascending
    (each_then IsOrdinalColumn (λ (column : ℕ × List (ℕ × List ℕ)). 0 < length (column_terms (terms_of columns) column).1) (some_rows (terms_of columns)) columns.ordinals
    (recursion_from_All IsOrdinalColumn columns.ordinals are.parts.ordinals_are.each))

some_marks : (column : ℕ × List Bool) → 1 ≤ count_by is_marked column.1 → 0 < length (marked_docs column).1
some_marks column some = omega (arith, some, length-marked_places 0 column.1)

texts_ordered : (columns : Columns) → AreColumns columns → AreOrdered nat_cmp (map marked_docs columns.present)
texts_ordered columns are =
    fields_ordered marked_docs (λ _. refl) columns.present are.parts.present_are.ascending
    (each_then (λ (column : ℕ × List Bool). 1 ≤ count_by is_marked column.1) (λ (column : ℕ × List Bool). 0 < length (marked_docs column).1) some_marks columns.present
    (recursion_from_All (λ (column : ℕ × List Bool). 1 ≤ count_by is_marked column.1) columns.present are.fields.present_some))

-- ---- terms and roots

row_back : (ℕ × List ℕ) × List (ℕ × List ℕ) → TermRow
row_back group = record { term = group.0; postings = group.1 }

rows_once : (ones others : List TermRow) → map row_group ones ≡ map row_group others → ones ≡ others
unfolding row_back
rows_once ones others same = map_back row_group row_back (λ _. refl) ones others same

root_back : FlatRoot → Root
root_back root = record { id = root.id; number = root.number; generation = root.generation; source = root.source; join = root.join }

roots_once : (ones others : List Root) → map flat_root ones ≡ map flat_root others → ones ≡ others
unfolding root_back
roots_once ones others same = map_back flat_root root_back (λ _. refl) ones others same

-- ---- ordinals by their terms

not_itself : (term other : ℕ × List ℕ) → term_cmp term other ≡ Less → term ≡ other → ⊥
not_itself term other less same =
    let tied : term_cmp term other ≡ Equal = ap (term_cmp term) (sym same) ∙ tied_itself term_order.total term in
    absurd (let never : Less ≡ Equal = sym less ∙ tied in cc (never))

each_at : {X : Type 0} (P : X → Type 0) (xs : List X) (at : ℕ) (x : X) → AllByRecursion P xs → slice_get xs at ≡ Some x → P x
each_at P [] at x all is = absurd (cc (is))
each_at P (y ∷ ys) zero x all is = let e : y ≡ x = cc (is) in subst P e all.0
each_at P (y ∷ ys) (suc at) x all is = each_at P ys at x all.1 is

-- a term stands at one place
one_place : (terms : List (ℕ × List ℕ)) (i j : ℕ) (term : ℕ × List ℕ) → IsStrictlySortedBy term_cmp terms → slice_get terms i ≡ Some term → slice_get terms j ≡ Some term → i ≡ j
unfolding IsStrictlySortedBy
one_place [] i j term up one two = absurd (cc (one))
one_place (t ∷ ts) zero zero term up one two = refl
one_place (t ∷ ts) zero (suc j) term up one two =
    let here : t ≡ term = cc (one) in
    absurd (not_itself t term (each_at (λ other. term_cmp t other ≡ Less) ts j term up.0 two) here)
one_place (t ∷ ts) (suc i) zero term up one two =
    let here : t ≡ term = cc (two) in
    absurd (not_itself t term (each_at (λ other. term_cmp t other ≡ Less) ts i term up.0 one) here)
one_place (t ∷ ts) (suc i) (suc j) term up one two = ap suc (one_place ts i j term up.1 one two)

-- an ordinal of a term
record IsOf (terms : List (ℕ × List ℕ)) (ordinal : ℕ) : Type 0 where
  pub term : ℕ × List ℕ
  pub is : slice_get terms ordinal ≡ Some term

of_option : (terms : List (ℕ × List ℕ)) (field ordinal : ℕ) (there : Option (ℕ × List ℕ)) → slice_get terms ordinal ≡ there
    → IsSomeAnd there (λ (term : ℕ × List ℕ). term.0 ≡ field) → IsOf terms ordinal
of_option terms field ordinal None e is = absurd is
of_option terms field ordinal (Some term) e is = record { term = term; is = e }

is_of : (terms : List (ℕ × List ℕ)) (postings : List (List (ℕ × List ℕ))) (field doc ordinal : ℕ) → IsOrdinalAt terms postings field doc ordinal → IsOf terms ordinal
is_of terms postings field doc ordinal is = of_option terms field ordinal (slice_get terms ordinal) refl is.of_field

ordinal_once : (terms : List (ℕ × List ℕ)) → IsStrictlySortedBy term_cmp terms → (i j : ℕ) → IsOf terms i → IsOf terms j → slice_get terms i ≡ slice_get terms j → i ≡ j
ordinal_once terms up i j one other same = one_place terms i j one.term up one.is (sym same ∙ one.is)

abbrev AreOf : List (ℕ × List ℕ) → ℕ × List ℕ → Type 0
AreOf terms row = AllByRecursion (IsOf terms) row.1

row_once : (terms : List (ℕ × List ℕ)) → IsStrictlySortedBy term_cmp terms → (x y : ℕ × List ℕ) → AreOf terms x → AreOf terms y → row_terms terms x ≡ row_terms terms y → x ≡ y
row_once terms up x y one other same =
    let first : x.0 ≡ y.0 = ap (λ (it : ℕ × List (Option (ℕ × List ℕ))). it.0) same in
    let second : map (slice_get terms) x.1 ≡ map (slice_get terms) y.1 = ap (λ (it : ℕ × List (Option (ℕ × List ℕ))). it.1) same in
    pair_same x y first (map_once (slice_get terms) (IsOf terms) (ordinal_once terms up) x.1 y.1 one other second)

abbrev AreAllOf : List (ℕ × List ℕ) → ℕ × List (ℕ × List ℕ) → Type 0
AreAllOf terms column = AllByRecursion (AreOf terms) column.1

column_once : (terms : List (ℕ × List ℕ)) → IsStrictlySortedBy term_cmp terms → (x y : ℕ × List (ℕ × List ℕ)) → AreAllOf terms x → AreAllOf terms y → column_terms terms x ≡ column_terms terms y → x ≡ y
column_once terms up x y one other same =
    let first : x.0 ≡ y.0 = ap (λ (it : ℕ × List (ℕ × List (Option (ℕ × List ℕ)))). it.0) same in
    let second : map (row_terms terms) x.1 ≡ map (row_terms terms) y.1 = ap (λ (it : ℕ × List (ℕ × List (Option (ℕ × List ℕ)))). it.1) same in
    pair_same x y first (map_once (row_terms terms) (AreOf terms) (row_once terms up) x.1 y.1 one other second)

all_of_row : (terms : List (ℕ × List ℕ)) (postings : List (List (ℕ × List ℕ))) (field : ℕ) (row : ℕ × List ℕ) → All (λ ordinal. IsOrdinalAt terms postings field row.0 ordinal) row.1 → AreOf terms row
all_of_row terms postings field row all =
    each_then (λ ordinal. IsOrdinalAt terms postings field row.0 ordinal) (IsOf terms) (is_of terms postings field row.0) row.1
    (recursion_from_All (λ ordinal. IsOrdinalAt terms postings field row.0 ordinal) row.1 all)

all_of_column : (terms : List (ℕ × List ℕ)) (postings : List (List (ℕ × List ℕ))) (column : ℕ × List (ℕ × List ℕ)) → HaveOrdinals terms postings column → AreAllOf terms column
all_of_column terms postings column all =
    each_then (λ (row : ℕ × List ℕ). All (λ ordinal. IsOrdinalAt terms postings column.0 row.0 ordinal) row.1) (AreOf terms) (all_of_row terms postings column.0) column.1
    (recursion_from_All (λ (row : ℕ × List ℕ). All (λ ordinal. IsOrdinalAt terms postings column.0 row.0 ordinal) row.1) column.1 all)

all_of : (columns : Columns) → AreColumns columns → AllByRecursion (AreAllOf (terms_of columns)) columns.ordinals
all_of columns are =
    each_then (HaveOrdinals (terms_of columns) (postings_of columns)) (AreAllOf (terms_of columns)) (all_of_column (terms_of columns) (postings_of columns)) columns.ordinals
    (recursion_from_All (HaveOrdinals (terms_of columns) (postings_of columns)) columns.ordinals are.terms.ordinals)

-- ---- text fields by the documents that they mark

mark_once : (documents : ℕ) (x y : ℕ × List Bool) → length x.1 ≡ documents → length y.1 ≡ documents → marked_docs x ≡ marked_docs y → x ≡ y
mark_once documents x y one other same =
    pair_same x y (ap (λ (it : ℕ × List ℕ). it.0) same) (marked_once 0 x.1 y.1 (one ∙ sym other) (ap (λ (it : ℕ × List ℕ). it.1) same))

all_long : (columns : Columns) → AreColumns columns → AllByRecursion (λ (column : ℕ × List Bool). length column.1 ≡ columns.documents) columns.present
all_long columns are =
    each_then (IsPresence columns.documents) (λ (column : ℕ × List Bool). length column.1 ≡ columns.documents) (λ column is. is.long) columns.present
    (recursion_from_All (IsPresence columns.documents) columns.present are.parts.present_are.each)

-- ---- the documents of each scope, by the scopes that the documents show

-- what `scopes_are_of_documents` says of columns
pub record AreShown (columns : Columns) : Type 0 where
  pub sets : (scope doc : ℕ) → scope < length columns.scopes → doc < columns.documents
      → slice_index_or (slice_index_or columns.scopes scope []) doc false ≡ ((flat_of columns doc).scope == scope)
  pub within : (doc : ℕ) → doc < columns.documents → (flat_of columns doc).scope < length columns.scopes

flat_at : (columns : Columns) (doc : ℕ) (d : FlatDocument) → doc < columns.documents → get_or (flats_of columns) doc d ≡ flat_of columns doc
flat_at columns doc d h = get_or-map-range_with_len (flat_of columns) 0 columns.documents doc doc d h (omega arith)

flat_same : (one other : Columns) (doc : ℕ) → one.documents ≡ other.documents → flats_of one ≡ flats_of other → doc < one.documents → flat_of one doc ≡ flat_of other doc
flat_same one other doc many same h =
    sym (flat_at one doc (flat_of one doc) h)
    ∙ (ap (λ (flats : List FlatDocument). get_or flats doc (flat_of one doc)) same ∙ flat_at other doc (flat_of one doc) (omega (arith, h, many)))

record IsMarkedAt (flags : List Bool) : Type 0 where
  pub at : ℕ
  pub within : at < length flags
  pub is : get_or flags at false ≡ true

marked_at : (start : ℕ) (flags : List Bool) → 1 ≤ length (marked_places start flags) → IsMarkedAt flags
marked_at start [] some = absurd (omega (arith, some))
marked_at start (true ∷ flags) some = record { at = 0; within = omega arith; is = refl }
marked_at start (false ∷ flags) some =
    let rest = marked_at (start + 1) flags some in
    record { at = suc rest.at; within = omega (arith, rest.within); is = rest.is }

long_at : (columns : Columns) (scope : ℕ) → AreColumns columns → scope < length columns.scopes → length (get_or columns.scopes scope []) ≡ columns.documents
long_at columns scope are h = All-get_or (λ (flags : List Bool). length flags ≡ columns.documents) columns.scopes scope [] h are.parts.head.long

-- columns with the same documents have no more scopes
no_more : (one other : Columns) → AreColumns one → AreShown one → AreShown other → one.documents ≡ other.documents → flats_of one ≡ flats_of other → length one.scopes ≤ length other.scopes
no_more one other are shown shown' many same =
    let last : ℕ = length one.scopes - 1 in
    let inside : last < length one.scopes = omega (arith, are.parts.head.some) in
    let set : List Bool = get_or one.scopes last [] in
    let some : 1 ≤ length (marked_places 0 set) = omega (arith, are.rooted.greatest, length-marked_places 0 set) in
    let mark = marked_at 0 set some in
    let doc : mark.at < one.documents = omega (arith, mark.within, long_at one last are inside) in
    let is : (flat_of one mark.at).scope ≡ last = eqb-true (flat_of one mark.at).scope last (sym (shown.sets last mark.at inside doc) ∙ mark.is) in
    let below : (flat_of other mark.at).scope < length other.scopes = shown'.within mark.at (omega (arith, doc, many)) in
    let e : (flat_of one mark.at).scope ≡ (flat_of other mark.at).scope = ap (λ (flat : FlatDocument). flat.scope) (flat_same one other mark.at many same doc) in
    omega (arith, is, below, e)

sets_once : (one other : Columns) → AreColumns one → AreColumns other → AreShown one → AreShown other → one.documents ≡ other.documents → flats_of one ≡ flats_of other → one.scopes ≡ other.scopes
sets_once one other are are' shown shown' many same =
    let long : length one.scopes ≡ length other.scopes = omega (arith, no_more one other are shown shown' many same, no_more other one are' shown' shown (sym many) (sym same)) in
    same_lists one.scopes other.scopes long
    (λ scope d h.
    let h' : scope < length other.scopes = omega (arith, h, long) in
    get_or_default one.scopes scope d [] h
    ∙ (same_lists (get_or one.scopes scope []) (get_or other.scopes scope [])
    (long_at one scope are h ∙ (many ∙ sym (long_at other scope are' h')))
    (λ doc b k.
    let in_one : doc < one.documents = omega (arith, k, long_at one scope are h) in
    let in_other : doc < other.documents = omega (arith, in_one, many) in
    get_or_default (get_or one.scopes scope []) doc b false k
    ∙ (shown.sets scope doc h in_one
    ∙ (ap (λ (flat : FlatDocument). flat.scope == scope) (flat_same one other doc many same in_one)
    ∙ (sym (shown'.sets scope doc h' in_other)
    ∙ get_or_default (get_or other.scopes scope []) doc false b (omega (arith, k, long_at one scope are h, long_at other scope are' h', many))))))
    ∙ get_or_default other.scopes scope [] d h'))

-- ---- all of it

columns_same : (one other : Columns) → one.documents ≡ other.documents → one.scopes ≡ other.scopes → one.roots ≡ other.roots → one.terms ≡ other.terms
    → one.ordinals ≡ other.ordinals → one.numbers ≡ other.numbers → one.present ≡ other.present → one ≡ other
columns_same one other documents scopes roots terms ordinals numbers present =
    ap (λ it. let c : Columns = record one { documents = it } in c) documents
    ∙ (ap (λ it. let c : Columns = record one { documents = other.documents; scopes = it } in c) scopes
    ∙ (ap (λ it. let c : Columns = record one { documents = other.documents; scopes = other.scopes; roots = it } in c) roots
    ∙ (ap (λ it. let c : Columns = record one { documents = other.documents; scopes = other.scopes; roots = other.roots; terms = it } in c) terms
    ∙ (ap (λ it. let c : Columns = record one { documents = other.documents; scopes = other.scopes; roots = other.roots; terms = other.terms; ordinals = it } in c) ordinals
    ∙ (ap (λ it. let c : Columns = record one { documents = other.documents; scopes = other.scopes; roots = other.roots; terms = other.terms; ordinals = other.ordinals; numbers = it } in c) numbers
    ∙ ap (λ it. let c : Columns = record other { present = it } in c) present)))))

-- what is asked of each of two columns that are compared: that they agree, their documents, and what they have at each key
pub record AreKnown (it : EntriesState) (columns : Columns) : Type 0 where
  pub agree : AreColumns columns
  pub long : length (flats_of columns) ≡ columns.documents
  pub shown : AreShown columns
  pub say : SayAtKeys it columns

pub columns_once : (it : EntriesState) (one other : Columns) → AreKnown it one → AreKnown it other → flats_of one ≡ flats_of other → roots_of one ≡ roots_of other → one ≡ other
columns_once it one other known known' flats roots =
    let many : one.documents ≡ other.documents = sym known.long ∙ (ap length flats ∙ known'.long) in
    let terms : one.terms ≡ other.terms =
    rows_once one.terms other.terms
    (groups_once term_cmp term_order (map row_group one.terms) (map row_group other.terms) (terms_ordered one known.agree) (terms_ordered other known'.agree)
    (λ term. known.say.terms_are term ∙ sym (known'.say.terms_are term))) in
    let numbers : one.numbers ≡ other.numbers =
    groups_once nat_cmp nat_order one.numbers other.numbers (numbers_ordered one known.agree) (numbers_ordered other known'.agree)
    (λ field. known.say.numbers_are field ∙ sym (known'.say.numbers_are field)) in
    let keywords : map (column_terms (terms_of one)) one.ordinals ≡ map (column_terms (terms_of other)) other.ordinals =
    groups_once nat_cmp nat_order (map (column_terms (terms_of one)) one.ordinals) (map (column_terms (terms_of other)) other.ordinals)
    (keywords_ordered one known.agree) (keywords_ordered other known'.agree)
    (λ field. known.say.keywords_are field ∙ sym (known'.say.keywords_are field)) in
    let listed : terms_of one ≡ terms_of other = ap (map (λ (row : TermRow). row.term)) terms in
    let ordinals : one.ordinals ≡ other.ordinals =
    map_once (column_terms (terms_of one)) (AreAllOf (terms_of one)) (column_once (terms_of one) known.agree.parts.terms_are.ascending) one.ordinals other.ordinals
    (all_of one known.agree)
    (subst (λ (ts : List (ℕ × List ℕ)). AllByRecursion (AreAllOf ts) other.ordinals) (sym listed) (all_of other known'.agree))
    (keywords ∙ ap (λ (ts : List (ℕ × List ℕ)). map (column_terms ts) other.ordinals) (sym listed)) in
    let texts : map marked_docs one.present ≡ map marked_docs other.present =
    groups_once nat_cmp nat_order (map marked_docs one.present) (map marked_docs other.present) (texts_ordered one known.agree) (texts_ordered other known'.agree)
    (λ field. known.say.texts_are field ∙ sym (known'.say.texts_are field)) in
    let present : one.present ≡ other.present =
    map_once marked_docs (λ (column : ℕ × List Bool). length column.1 ≡ one.documents) (mark_once one.documents) one.present other.present
    (all_long one known.agree)
    (subst (λ (n : ℕ). AllByRecursion (λ (column : ℕ × List Bool). length column.1 ≡ n) other.present) (sym many) (all_long other known'.agree))
    texts in
    columns_same one other many (sets_once one other known.agree known'.agree known.shown known'.shown many flats) (roots_once one.roots other.roots roots) terms ordinals numbers present
