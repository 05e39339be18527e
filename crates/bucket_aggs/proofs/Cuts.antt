-- Documents of sets that pass a test, and the objects that they stand for.
use Rattle.std.proofs.Common.{◌≡◌, ℕ, zero, suc, ◌+◌, ◌==◌, ◌<◌, ◌≤◌, Bool, true, false, ◌&&◌, ◌||◌, cond, List, [], ◌∷◌, ◌++◌, length, map, drop, replicate, get_or, count_by, Option, Some, None, is_some, refl, sym, ap, subst, ◌∙◌, arith, append_assoc}
use Rattle.std.specs.List.{range_with_len}
use Rattle.std.specs.List.Sorted.{IsPermutation, IsStrictlyIncreasing}
use Rattle.std.proofs.lemmas.List.{get_or_default}
use Rattle.std.proofs.lemmas.List.Sorted.{list_any-IsPermutation}
use Rattle.block_bits.specs.Flags.{intersection, is_marked}
use Rattle.block_join.specs.Merge.{paired, put_together}
use Rattle.block_join.specs.Scores.{filled}
use Rattle.block_join.specs.declared.rule.Rule.TheVariants.{Kept}
use Rattle.doc_values.specs.Values.{documents as row_documents, values_of}
use Rattle.flattener.specs.Flat.{flat_of as flat_of_object}
use Rattle.flattener.specs.StandsFor.{ViewStandsFor, by_document, flat_at}
use Rattle.mapping.specs.Mapping.{Mapping, kind_at}
use Rattle.postings.specs.Marks.{has_document}
use Rattle.postings.specs.Postings.{ArePostings}
use Rattle.query_ast.specs.Buckets.{has_value}
use Rattle.query_ast.specs.Compare.{is_same_value}
use Rattle.query_eval.specs.Found.{AreLong, IsSeen, live_trees}
use Rattle.segment.specs.Flat.{FlatDocument, flat_of, flats_of}
use Rattle.segment.specs.Live.{EntryState}
use Rattle.segment_parts.specs.Lists.{postings_of}
use Rattle.segment_parts.specs.Text.{marked_places}
use Rattle.segment_parts.specs.declared.columns.Columns.{Columns}
use Rattle.tree_joins.specs.Seen.{at_scope, if_live, seen}
use Rattle.tree_objects.specs.Object.{Object, block_objects, scope}
use Rattle.tree_objects.specs.Tree.{Tree}
use Rattle.tree_objects.specs.Values.{values}
use Rattle.tree_objects.specs.declared.field_value.FieldValue.{FieldValue}
use Rattle.view_objects.specs.Hits.{live_objects}
use Rattle.view_objects.specs.Values.{values_shown}
use Rattle.bucket_aggs.specs.Counts.{AreFound, AreKnown, IsFoundAt, IsKnown, IsTermSet, has_ordinal, is_posted, passed_from, passed_in, passed_of_view, shows}
use Rattle.bucket_aggs.specs.Given.{AreOfValue, is_given}
use Rattle.bucket_aggs.specs.declared.posted.TermSet.{TermSet}
use Rattle.bucket_aggs.proofs.Documents.{Scores, Trees}
use Rattle.bucket_aggs.proofs.Listed.{Postings, as_row, as_rows, row_is, rows_have, same_documents}
use Rattle.query_ast.proofs.Elements.{Each, each_as}
use Rattle.bucket_aggs.proofs.Lists.{and_back, filter_same, filter_twice}
use Rattle.bucket_aggs.proofs.Rowed.{count_cons, count_mapped, count_same, row_counts, rows_ascend, rows_counted}
use Rattle.bucket_aggs.proofs.Viewed.{View, long_view}

-- ---- the set of a term

and_at : (a b : List Bool) (k : ℕ) → length a ≡ length b → get_or (intersection a b) k false ≡ (get_or a k false && get_or b k false)
and_at [] [] k same = refl
and_at [] (y ∷ b) k same = absurd (omega (arith, same))
and_at (x ∷ a) [] k same = absurd (omega (arith, same))
and_at (x ∷ a) (y ∷ b) zero same = refl
and_at (x ∷ a) (y ∷ b) (suc k) same = and_at a b k (omega (arith, same))

and_long : (a b : List Bool) → length a ≡ length b → length (intersection a b) ≡ length b
and_long [] [] same = refl
and_long [] (y ∷ b) same = absurd (omega (arith, same))
and_long (x ∷ a) [] same = absurd (omega (arith, same))
and_long (x ∷ a) (y ∷ b) same = ap suc (and_long a b (omega (arith, same)))

pub none_at : (n k : ℕ) → get_or (replicate n false) k false ≡ false
none_at zero k = refl
none_at (suc n) zero = refl
none_at (suc n) (suc k) = none_at n k

pub term_set_is : (columns : Columns) (flags : List Bool) (ordinal n : ℕ) (marks own : List Bool) → length marks ≡ length flags
    → ((doc : ℕ) → doc < length flags → get_or marks doc false ≡ (get_or (replicate n false) doc false || has_document doc (get_or (postings_of columns) ordinal []))) → own ≡ intersection marks flags → IsTermSet columns flags ordinal own
term_set_is columns flags ordinal n marks own long marked is = record {
  long = ap length is ∙ and_long marks flags long;
  marked = λ doc low.
      ap (λ (l : List Bool). get_or l doc false) is
      ∙ and_at marks flags doc long
      ∙ ap (λ (b : Bool). b && get_or flags doc false) (marked doc low ∙ ap (λ (b : Bool). b || has_document doc (get_or (postings_of columns) ordinal [])) (none_at n doc))
      ∙ and_back (has_document doc (get_or (postings_of columns) ordinal [])) (get_or flags doc false);
}

-- ---- as many are marked as pass

marks_counted : (test : ℕ → Bool) (start : ℕ) (flags own : List Bool) → length own ≡ length flags → ((k : ℕ) → k < length flags → get_or own k false ≡ (get_or flags k false && test (start + k))) → count_by is_marked own ≡ count_by test (marked_places start flags)
marks_counted test start [] [] same each = refl
marks_counted test start [] (b ∷ own) same each = absurd (omega (arith, same))
marks_counted test start (flag ∷ flags) [] same each = absurd (omega (arith, same))
marks_counted test start (true ∷ flags) (b ∷ own) same each =
    let here : start + 0 ≡ start = omega arith in
    let first : b ≡ test start = each 0 (omega arith) ∙ ap test here in
    let rest = marks_counted test (start + 1) flags own (omega (arith, same)) (λ k low. let next : start + suc k ≡ start + 1 + k = omega arith in each (suc k) (omega (arith, low)) ∙ ap (λ (i : ℕ). get_or flags k false && test i) next) in
    omega (arith, count_cons is_marked b own, count_cons test start (marked_places (start + 1) flags), ap (λ (t : Bool). cond {A = ℕ} t 1 0) first, rest)
marks_counted test start (false ∷ flags) (b ∷ own) same each =
    let first : b ≡ false = each 0 (omega arith) in
    let rest = marks_counted test (start + 1) flags own (omega (arith, same)) (λ k low. let next : start + suc k ≡ start + 1 + k = omega arith in each (suc k) (omega (arith, low)) ∙ ap (λ (i : ℕ). get_or flags k false && test i) next) in
    omega (arith, count_cons is_marked b own, ap (λ (t : Bool). cond {A = ℕ} t 1 0) first, rest)

-- the documents of a term's set are as many as its postings of marked documents
pub posted_marks : (columns : Columns) (flags own : List Bool) (o : ℕ) → IsTermSet columns flags o own → ArePostings (get_or (postings_of columns) o []) → count_by is_marked own ≡ count_by (is_posted flags) (get_or (postings_of columns) o [])
posted_marks columns flags own o is posted =
    let ps : Postings = get_or (postings_of columns) o [] in
    let up : IsStrictlyIncreasing (row_documents (as_rows o ps)) = subst IsStrictlyIncreasing (same_documents o ps) posted.documents_are.ascending in
    marks_counted (λ doc. has_document doc ps) 0 flags own is.long (λ k low. let here : k ≡ 0 + k = omega arith in is.marked k low ∙ ap (λ (i : ℕ). get_or flags k false && has_document i ps) here)
    ∙ count_same (λ doc. has_document doc ps) (λ doc. has_ordinal o (values_of doc (as_rows o ps))) (λ doc. sym (rows_have o doc ps)) (marked_places 0 flags)
    ∙ rows_counted (has_ordinal o) refl flags (as_rows o ps) (rows_ascend (as_rows o ps) up)
    ∙ count_mapped (row_counts (has_ordinal o) refl flags) (as_row o) ps
    ∙ count_same (λ p. row_counts (has_ordinal o) refl flags (as_row o p)) (is_posted flags) (row_is o flags) ps

-- ---- what was found

nothing_behind : {A : Type 0} (xs : List A) → xs ≡ xs ++ []
nothing_behind [] = refl
nothing_behind {A} (x ∷ xs) = ap (λ (l : List A). x ∷ l) (nothing_behind xs)

pub found_none : (columns : Columns) (flags : List Bool) (entry : ℕ) (old new : List TermSet) → new ≡ old → AreFound columns flags entry old new
found_none columns flags entry old new same = record { own = []; each = tt; is = same ∙ nothing_behind old }

each_append : {A : Type 0} (P : A → Type 0) (xs ys : List A) → Each P xs → Each P ys → Each P (xs ++ ys)
each_append P [] ys h g = g
each_append P (x ∷ xs) ys h g = (h.0, each_append P xs ys h.1 g)

pub found_join : (columns : Columns) (flags : List Bool) (entry : ℕ) (old now new : List TermSet) → AreFound columns flags entry old now → AreFound columns flags entry now new → AreFound columns flags entry old new
found_join columns flags entry old now new was more = record {
  own = was.own ++ more.own;
  each = each_append (IsFoundAt columns flags entry) was.own more.own was.each more.each;
  is = more.is ∙ ap (λ (l : List TermSet). l ++ more.own) was.is ∙ append_assoc old was.own more.own;
}

pub known_more : (at : ℕ) (view : View) (scores : List Scores) (e : EntryState) (s : Scores) (columns : Columns) (flags : List Bool) (old new : List TermSet) → AreLong view scores → at < length view → e ≡ get_or view at e → s ≡ get_or scores at s → columns ≡ e.columns → flags ≡ map is_some s
    → AreKnown view scores old → AreFound columns flags at old new → AreKnown view scores new
known_more at view scores e s columns flags old new long low here own is marks was more =
    subst (AreKnown view scores) (sym more.is)
    (each_append (IsKnown view scores) old more.own was (each_as (IsFoundAt columns flags at) (IsKnown view scores) one more.own more.each))
  where
    one : (it : TermSet) → IsFoundAt columns flags at it → IsKnown view scores it
    one it found = record {
      is = λ entry other inside there other_there.
          let low_scores : at < length scores = omega (arith, low, long_view view scores long) in
          let same : entry ≡ e = there ∙ ap (λ (k : ℕ). get_or view k entry) found.0 ∙ get_or_default view at entry e low ∙ sym here in
          let same_scores : other ≡ s = other_there ∙ ap (λ (k : ℕ). get_or scores k other) found.0 ∙ get_or_default scores at other s low_scores ∙ sym own in
          subst (λ (c : Columns). IsTermSet c (map is_some other) it.ordinal it.documents) (is ∙ ap (λ (x : EntryState). x.columns) (sym same))
          (subst (λ (l : List Bool). IsTermSet columns l it.ordinal it.documents) (marks ∙ ap (map is_some) (sym same_scores)) found.1);
    }

pub known_own : (at : ℕ) (view : View) (scores : List Scores) (e : EntryState) (s : Scores) (columns : Columns) (found : List TermSet) → at < length view → e ≡ get_or view at e → s ≡ get_or scores at s → columns ≡ e.columns → AreKnown view scores found
    → Each (λ (it : TermSet). it.entry ≡ at → IsTermSet columns (map is_some s) it.ordinal it.documents) found
known_own at view scores e s columns found low here own is known =
    each_as (IsKnown view scores) (λ (it : TermSet). it.entry ≡ at → IsTermSet columns (map is_some s) it.ordinal it.documents)
    (λ it one same.
    subst (λ (c : Columns). IsTermSet c (map is_some s) it.ordinal it.documents) (sym is)
    (one.is e s (omega (arith, low, same)) (here ∙ ap (λ (k : ℕ). get_or view k e) (sym same)) (own ∙ ap (λ (k : ℕ). get_or scores k s) (sym same))))
    found known

pub entry_long : (at : ℕ) (view : View) (scores : List Scores) (e : EntryState) (s : Scores) (columns : Columns) → AreLong view scores → at < length view → e ≡ get_or view at e → s ≡ get_or scores at s → columns ≡ e.columns → length s ≡ columns.documents
entry_long at [] scores e s columns long low here there is = absurd (omega (arith, low))
entry_long at (x ∷ view) [] e s columns long low here there is = absurd long
entry_long zero (x ∷ view) (y ∷ scores) e s columns long low here there is =
    ap length there ∙ long.0 ∙ ap (λ (z : EntryState). z.columns.documents) (sym here) ∙ ap (λ (z : Columns). z.documents) (sym is)
entry_long (suc at) (x ∷ view) (y ∷ scores) e s columns long low here there is = entry_long at view scores e s columns long.1 (omega (arith, low)) here there is

-- ---- scores of those that pass

none_either : (b : Bool) → cond {A = Option ℕ} b None None ≡ None
none_either true = refl
none_either false = refl

keep_if : (s : ℕ) (b : Bool) → put_together Kept (Some s) (cond b (Some 1) None) ≡ cond b (Some s) None
keep_if s true = refl
keep_if s false = refl

abbrev pub Marks : (ℕ → Bool) → ℕ → Scores → List Bool → Type 0
Marks test start hits own = (k : ℕ) → k < length hits → get_or own k false ≡ (get_or (map is_some hits) k false && test (start + k))

marks_on : (test : ℕ → Bool) (start : ℕ) (s : Option ℕ) (hits : Scores) (b : Bool) (own : List Bool) → Marks test start (s ∷ hits) (b ∷ own) → Marks test (start + 1) hits own
marks_on test start s hits b own each = λ k low. let next : start + suc k ≡ start + 1 + k = omega arith in each (suc k) (omega (arith, low)) ∙ ap (λ (i : ℕ). get_or (map is_some hits) k false && test i) next

marks_first : (test : ℕ → Bool) (start s : ℕ) (hits : Scores) (b : Bool) (own : List Bool) → Marks test start (Some s ∷ hits) (b ∷ own) → b ≡ test start
marks_first test start s hits b own each = let here : start + 0 ≡ start = omega arith in each 0 (omega arith) ∙ ap test here

pub filled_passed : (a : ℕ) (test : ℕ → Bool) (start : ℕ) (hits : Scores) (own : List Bool) → length own ≡ length hits → hits ≡ filled (Some a) (map is_some hits) → Marks test start hits own → filled (Some a) own ≡ passed_from test start hits
filled_passed a test start [] [] same alike each = refl
filled_passed a test start [] (b ∷ own) same alike each = absurd (omega (arith, same))
filled_passed a test start (s ∷ hits) [] same alike each = absurd (omega (arith, same))
filled_passed a test start (None ∷ hits) (b ∷ own) same alike each =
    let more : hits ≡ filled (Some a) (map is_some hits) = cc in
    let first : b ≡ false = each 0 (omega arith) in
    ap (λ (t : Bool). cond t (Some a) None ∷ filled (Some a) own) first
    ∙ ap (λ (l : Scores). None ∷ l) (filled_passed a test (start + 1) hits own (omega (arith, same)) more (marks_on test start None hits b own each))
    ∙ ap (λ (x : Option ℕ). x ∷ passed_from test (start + 1) hits) (sym (none_either (test start)))
filled_passed a test start (Some s ∷ hits) (b ∷ own) same alike each =
    let more : hits ≡ filled (Some a) (map is_some hits) = cc in
    let score : s ≡ a = cc in
    ap (λ (t : Bool). cond t (Some a) None ∷ filled (Some a) own) (marks_first test start s hits b own each)
    ∙ ap (λ (n : ℕ). cond (test start) (Some n) None ∷ filled (Some a) own) (sym score)
    ∙ ap (λ (l : Scores). cond (test start) (Some s) None ∷ l) (filled_passed a test (start + 1) hits own (omega (arith, same)) more (marks_on test start (Some s) hits b own each))

pub kept_passed : (test : ℕ → Bool) (start : ℕ) (hits : Scores) (own : List Bool) → length own ≡ length hits → Marks test start hits own → paired (put_together Kept) hits (filled (Some 1) own) ≡ passed_from test start hits
kept_passed test start [] [] same each = refl
kept_passed test start [] (b ∷ own) same each = absurd (omega (arith, same))
kept_passed test start (s ∷ hits) [] same each = absurd (omega (arith, same))
kept_passed test start (None ∷ hits) (b ∷ own) same each =
    ap (λ (l : Scores). None ∷ l) (kept_passed test (start + 1) hits own (omega (arith, same)) (marks_on test start None hits b own each))
    ∙ ap (λ (x : Option ℕ). x ∷ passed_from test (start + 1) hits) (sym (none_either (test start)))
kept_passed test start (Some s ∷ hits) (b ∷ own) same each =
    ap (λ (t : Bool). put_together Kept (Some s) (cond t (Some 1) None) ∷ paired (put_together Kept) hits (filled (Some 1) own)) (marks_first test start s hits b own each)
    ∙ ap (λ (x : Option ℕ). x ∷ paired (put_together Kept) hits (filled (Some 1) own)) (keep_if s (test start))
    ∙ ap (λ (l : Scores). cond (test start) (Some s) None ∷ l) (kept_passed test (start + 1) hits own (omega (arith, same)) (marks_on test start (Some s) hits b own each))

pub length_filled : (score : Option ℕ) (own : List Bool) → length (filled score own) ≡ length own
length_filled score [] = refl
length_filled score (b ∷ own) = ap suc (length_filled score own)

passed_length : (test : ℕ → Bool) (start : ℕ) (hits : Scores) → length (passed_from test start hits) ≡ length hits
passed_length test start [] = refl
passed_length test start (s ∷ hits) = ap suc (passed_length test (start + 1) hits)

-- ---- entry by entry

module _ (test : FlatDocument → Bool) where
  abbrev pub passed_rest : ℕ → View → List Scores → List Scores
  passed_rest at view scores = passed_of_view test (drop at view) (drop at scores)

  pub passed_step : (at : ℕ) (view : View) (scores : List Scores) (e : EntryState) (s : Scores) (columns : Columns) (own : Scores) → AreLong view scores → at < length view → e ≡ get_or view at e → s ≡ get_or scores at s → columns ≡ e.columns → own ≡ passed_in test columns s
      → passed_rest at view scores ≡ own ∷ passed_rest (at + 1) view scores
  passed_step at [] scores e s columns own long low here there is made = absurd (omega (arith, low))
  passed_step at (x ∷ view) [] e s columns own long low here there is made = absurd long
  passed_step zero (x ∷ view) (y ∷ scores) e s columns own long low here there is made =
      ap (λ (z : EntryState). passed_in test z.columns y ∷ passed_of_view test view scores) (sym here)
      ∙ ap (λ (z : Scores). passed_in test e.columns z ∷ passed_of_view test view scores) (sym there)
      ∙ ap (λ (c : Columns). passed_in test c s ∷ passed_of_view test view scores) (sym is)
      ∙ ap (λ (z : Scores). z ∷ passed_of_view test view scores) (sym made)
  passed_step (suc at) (x ∷ view) (y ∷ scores) e s columns own long low here there is made =
      let next : suc at + 1 ≡ suc (at + 1) = omega arith in
      rw next (passed_step at view scores e s columns own long.1 (omega (arith, low)) here there is made)

  pub passed_on : (at : ℕ) (view : View) (scores : List Scores) (own : Scores) (old new : List Scores) → passed_rest at view scores ≡ own ∷ passed_rest (at + 1) view scores → old ++ passed_rest at view scores ≡ passed_of_view test view scores → new ≡ old ++ own ∷ []
      → new ++ passed_rest (at + 1) view scores ≡ passed_of_view test view scores
  passed_on at view scores own old new step was is =
      ap (λ (l : List Scores). l ++ passed_rest (at + 1) view scores) is
      ∙ append_assoc old (own ∷ []) (passed_rest (at + 1) view scores)
      ∙ ap (λ (l : List Scores). old ++ l) (sym step)
      ∙ was

  passed_end : (at : ℕ) (view : View) (scores : List Scores) → length view ≤ at → AreLong view scores → passed_rest at view scores ≡ []
  passed_end zero [] scores past long = refl
  passed_end (suc at) [] scores past long = refl
  passed_end zero (x ∷ view) scores past long = absurd (omega (arith, past))
  passed_end (suc at) (x ∷ view) [] past long = absurd long
  passed_end (suc at) (x ∷ view) (y ∷ scores) past long = passed_end at view scores (omega (arith, past)) long.1

  pub passed_all : (at : ℕ) (view : View) (scores made : List Scores) → length view ≤ at → AreLong view scores → made ++ passed_rest at view scores ≡ passed_of_view test view scores → made ≡ passed_of_view test view scores
  passed_all at view scores made past long was = nothing_behind made ∙ ap (λ (l : List Scores). made ++ l) (sym (passed_end at view scores past long)) ∙ was

  pub passed_long : (view : View) (scores : List Scores) → AreLong view scores → AreLong view (passed_of_view test view scores)
  passed_long [] [] long = tt
  passed_long [] (s ∷ scores) long = absurd long
  passed_long (e ∷ view) [] long = absurd long
  passed_long (e ∷ view) (s ∷ scores) long = (passed_length (λ doc. test (flat_of e.columns doc)) 0 s ∙ long.0, passed_long view scores long.1)

  -- ---- what the trees say

  abbrev passed_by : Scores → List FlatDocument → Scores
  passed_by [] ds = []
  passed_by (s ∷ scores) [] = []
  passed_by (s ∷ scores) (d ∷ ds) = cond (test d) s None ∷ passed_by scores ds

  from_flats : (f : ℕ → FlatDocument) (start : ℕ) (scores : Scores) → passed_from (λ doc. test (f doc)) start scores ≡ passed_by scores (map f (range_with_len start (length scores)))
  from_flats f start [] = refl
  from_flats f start (s ∷ scores) = ap (λ (l : Scores). cond (test (f start)) s None ∷ l) (from_flats f (start + 1) scores)

  module _ (m : Mapping) (n : ℕ) (given : Object → Option ℕ) where
    abbrev cut : Object → Option ℕ
    cut o = cond (test (flat_of_object m o)) (given o) None

    swapped : (t h : Bool) (x : Option ℕ) → cond t (cond h x None) None ≡ cond h (cond t x None) None
    swapped true true x = refl
    swapped true false x = refl
    swapped false true x = refl
    swapped false false x = refl

    one : (live : Bool) (o : Object) → cond (test (flat_of_object m o)) (if_live (at_scope n given) live o) None ≡ if_live (at_scope n cut) live o
    one true o = swapped (test (flat_of_object m o)) (scope o == n) (given o)
    one false o = none_either (test (flat_of_object m o))

    block : (live : Bool) (os : List Object) (scores : Scores) (ds : List FlatDocument)
        → passed_by (map (if_live (at_scope n given) live) os ++ scores) (map (flat_of_object m) os ++ ds) ≡ map (if_live (at_scope n cut) live) os ++ passed_by scores ds
    block live [] scores ds = refl
    block live (o ∷ os) scores ds =
        ap (λ (x : Option ℕ). x ∷ passed_by (map (if_live (at_scope n given) live) os ++ scores) (map (flat_of_object m) os ++ ds)) (one live o)
        ∙ ap (λ (l : Scores). if_live (at_scope n cut) live o ∷ l) (block live os scores ds)

    blocks : (trees : Trees) → passed_by (seen m (at_scope n given) trees) (by_document m (flat_at m) trees) ≡ seen m (at_scope n cut) trees
    blocks [] = refl
    blocks (t ∷ trees) =
        block t.live (block_objects m t.item) (seen m (at_scope n given) trees) (by_document m (flat_at m) trees)
        ∙ ap (λ (l : Scores). map (if_live (at_scope n cut) t.live) (block_objects m t.item) ++ l) (blocks trees)

    entry_passed : (c : Columns) (scores : Scores) (trees : Trees) → length scores ≡ c.documents → flats_of c ≡ by_document m (flat_at m) trees → scores ≡ seen m (at_scope n given) trees → passed_in test c scores ≡ seen m (at_scope n cut) trees
    entry_passed c scores trees long flats is =
        from_flats (flat_of c) 0 scores
        ∙ ap (λ (k : ℕ). passed_by scores (map (flat_of c) (range_with_len 0 k))) long
        ∙ ap (passed_by scores) flats
        ∙ ap (λ (s : Scores). passed_by s (by_document m (flat_at m) trees)) is
        ∙ blocks trees

    view_passed : (view : View) (scores : List Scores) (trees : List Trees) → AreLong view scores → ViewStandsFor m view trees → scores ≡ map (λ (own : Trees). seen m (at_scope n given) own) trees
        → passed_of_view test view scores ≡ map (λ (own : Trees). seen m (at_scope n cut) own) trees
    view_passed [] scores [] long stand is = refl
    view_passed [] scores (t ∷ trees) long stand is = absurd stand
    view_passed (e ∷ view) scores [] long stand is = absurd stand
    view_passed (e ∷ view) [] (t ∷ trees) long stand is = absurd long
    view_passed (e ∷ view) (s ∷ scores) (t ∷ trees) long stand is =
        let first : s ≡ seen m (at_scope n given) t = cc in
        let more : scores ≡ map (λ (own : Trees). seen m (at_scope n given) own) trees = cc in
        ap (λ (x : Scores). x ∷ passed_of_view test view scores) (entry_passed e.columns s t long.0 stand.0.flats first)
        ∙ ap (λ (l : List Scores). seen m (at_scope n cut) t ∷ l) (view_passed view scores trees long.1 stand.1 more)

-- ---- the objects that show a value

some_if : (b : Bool) (x : Option ℕ) → is_some (cond b x None) ≡ (is_some x && b)
some_if true None = refl
some_if true (Some s) = refl
some_if false None = refl
some_if false (Some s) = refl

pub of_text : (m : Mapping) (view : View) (n f : ℕ) (v : FieldValue) (given : List Tree → Object → Option ℕ) (objects those : List Scores) → ((o : Object) → IsPermutation (values m f o) (values_shown (kind_at m f) f (flat_of_object m o)))
    → IsSeen m view n given objects → those ≡ passed_of_view (shows (kind_at m f) f v) view objects → AreOfValue m view n f v given those
of_text m view n f v given objects those shown is made = record {
  inner = λ live o. cond (shows (kind_at m f) f v (flat_of_object m o)) (given live o) None;
  seen = record {
    long = subst (AreLong view) (sym made) (passed_long (shows (kind_at m f) f v) view objects is.long);
    are = λ trees stand. made ∙ view_passed (shows (kind_at m f) f v) m n (given (live_trees trees)) view objects trees is.long stand (is.are trees stand);
  };
  are = λ trees stand.
      let live : List Tree = live_trees trees in
      let test : Object → Bool = λ o. shows (kind_at m f) f v (flat_of_object m o) in
      filter_same (λ o. is_some (cond (test o) (given live o) None)) (λ o. is_given (given live) o && has_value m (Some f) v o)
      (λ o. some_if (test o) (given live o) ∙ ap (λ (b : Bool). is_given (given live) o && b) (sym (list_any-IsPermutation (is_same_value v) (values m f o) (values_shown (kind_at m f) f (flat_of_object m o)) (shown o))))
      (live_objects m n live)
      ∙ sym (filter_twice (has_value m (Some f) v) (is_given (given live)) (live_objects m n live));
}
