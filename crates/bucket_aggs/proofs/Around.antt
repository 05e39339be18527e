-- Documents of a scope that those of a set lead to, by the ordinals and by the values that these have.
use Rattle.std.proofs.Common.{◌≡◌, ℕ, zero, suc, ◌+◌, ◌-◌, ◌<◌, ◌≤◌, ◌==◌, Bool, true, false, ◌&&◌, cond, List, [], ◌∷◌, ◌++◌, length, map, drop, get_or, count_by, replicate, Option, Some, None, is_some, refl, sym, ap, ap₂, subst, ◌∙◌, arith}
use Rattle.std.specs.List.{list_any}
use Rattle.std.proofs.lemmas.Bool.{eqb-true}
use Rattle.std.proofs.lemmas.List.{length-replicate}
use Rattle.block_bits.specs.Blocks.{documents_of}
use Rattle.block_bits.specs.Flags.{difference, is_marked}
use Rattle.block_join.specs.Kept.{reached}
use Rattle.doc_values.specs.Values.{values_of}
use Rattle.mapping_body.specs.declared.kind.Kind.{Kind}
use Rattle.postings.specs.Marks.{has_document}
use Rattle.query_ast.specs.Compare.{is_same_value}
use Rattle.query_ast.specs.Uses.{is_written}
use Rattle.query_eval.specs.Counted.{up_marks}
use Rattle.query_eval.specs.Folds.{scopes_in}
use Rattle.query_eval.specs.Found.{AreLong}
use Rattle.segment.specs.Flat.{bytes_at, flat_of}
use Rattle.segment.specs.Live.{EntryState}
use Rattle.segment.specs.Shows.{column_values}
use Rattle.segment_parts.specs.Agree.{AreColumns}
use Rattle.segment_parts.specs.Fields.{column_of}
use Rattle.segment_parts.specs.Lists.{postings_of, terms_of}
use Rattle.segment_parts.specs.Text.{marked_places}
use Rattle.segment_parts.specs.declared.columns.Columns.{Columns}
use Rattle.term_table.specs.Ranges.{IsRange, is_of_field}
use Rattle.term_table.specs.Terms.{AreAscending}
use Rattle.tree_objects.specs.declared.field_value.FieldValue.{FieldValue}
use Rattle.tree_objects.specs.declared.field_value.FieldValue.TheVariants.{Written}
use Rattle.bucket_aggs.specs.Counts.{AreUps, Counted, IsTermSet, counts_of, cut_from, has_ordinal, ordinal_ups, passed_from, shown_ups, shows, view_ups}
use Rattle.bucket_aggs.proofs.Listed.{posted_same, rows_have}
use Rattle.query_ast.proofs.Elements.{Each, by_test}
use Rattle.bucket_aggs.proofs.Lists.{and_false}
use Rattle.bucket_aggs.proofs.Numbered.{HaveKeywords, shown_text}
use Rattle.bucket_aggs.proofs.Rowed.{count_cons, count_mapped, count_same}
use Rattle.bucket_aggs.proofs.Termed.{IsOf, TermList, of_range, ordinals_of, parts_by}
use Rattle.bucket_aggs.proofs.Viewed.{Scores, View}

-- ---- sets cut by a test

pub cut_same : (one other : ℕ → Bool) → ((doc : ℕ) → one doc ≡ other doc) → (start : ℕ) (flags : List Bool) → cut_from one start flags ≡ cut_from other start flags
cut_same one other same start [] = refl
cut_same one other same start (flag ∷ flags) = ap₂ (λ (b : Bool) (l : List Bool). (flag && b) ∷ l) (same start) (cut_same one other same (start + 1) flags)

pub cut_is : (test : ℕ → Bool) (start : ℕ) (flags own : List Bool) → length own ≡ length flags → ((k : ℕ) → k < length flags → get_or own k false ≡ (get_or flags k false && test (start + k))) → own ≡ cut_from test start flags
cut_is test start [] [] long each = refl
cut_is test start [] (b ∷ own) long each = absurd (omega (arith, long))
cut_is test start (flag ∷ flags) [] long each = absurd (omega (arith, long))
cut_is test start (flag ∷ flags) (b ∷ own) long each =
    let here : start + 0 ≡ start = omega arith in
    ap₂ (λ (x : Bool) (l : List Bool). x ∷ l) (each 0 (omega arith) ∙ ap (λ (i : ℕ). flag && test i) here)
    (cut_is test (start + 1) flags own (omega (arith, long))
    (λ k low. let next : start + suc k ≡ start + 1 + k = omega arith in each (suc k) (omega (arith, low)) ∙ ap (λ (i : ℕ). get_or flags k false && test i) next))

cut_passed : (test : ℕ → Bool) (start : ℕ) (scores : Scores) → map is_some (passed_from test start scores) ≡ cut_from test start (map is_some scores)
cut_passed test start [] = refl
cut_passed test start (s ∷ scores) = ap₂ (λ (b : Bool) (l : List Bool). b ∷ l) (kept (test start) s) (cut_passed test (start + 1) scores)
  where
    kept : (b : Bool) (x : Option ℕ) → is_some (cond b x None) ≡ (is_some x && b)
    kept true None = refl
    kept true (Some n) = refl
    kept false None = refl
    kept false (Some n) = refl

-- no document leads to none
none_reached : (parents others : List Bool) → Each (λ (b : Bool). b ≡ false) others → count_by is_marked (reached false parents others) ≡ 0
none_reached [] others none = refl
none_reached (p ∷ parents) [] none = refl
none_reached (true ∷ parents) (c ∷ others) none = omega (arith, count_cons is_marked false (reached false parents others), none_reached parents others none.1)
none_reached (false ∷ parents) (true ∷ others) none = absurd (let no : true ≡ false = none.0 in cc)
none_reached (false ∷ parents) (false ∷ others) none = omega (arith, count_cons is_marked false (reached false parents others), none_reached parents others none.1)

never_cut : (test : ℕ → Bool) → ((doc : ℕ) → test doc ≡ false) → (start : ℕ) (flags : List Bool) → Each (λ (b : Bool). b ≡ false) (cut_from test start flags)
never_cut test never start [] = tt
never_cut test never start (flag ∷ flags) = (ap (λ (b : Bool). flag && b) (never start) ∙ and_false flag, never_cut test never (start + 1) flags)

never_up : (columns : Columns) (to : ℕ) (test : ℕ → Bool) → ((doc : ℕ) → test doc ≡ false) → (flags : List Bool) → up_marks columns to (cut_from test 0 flags) ≡ 0
never_up columns to test never flags = none_reached (documents_of (scopes_in columns) to) (cut_from test 0 flags) (never_cut test never 0 flags)

-- ---- by postings

pub term_cut : (columns : Columns) (flags own : List Bool) (o : ℕ) → IsTermSet columns flags o own → own ≡ cut_from (λ doc. has_document doc (get_or (postings_of columns) o [])) 0 flags
term_cut columns flags own o is =
    cut_is (λ doc. has_document doc (get_or (postings_of columns) o [])) 0 flags own is.long
    (λ k low. let here : k ≡ 0 + k = omega arith in is.marked k low ∙ ap (λ (i : ℕ). get_or flags k false && has_document i (get_or (postings_of columns) o [])) here)

-- what is cut of a set without that set is none
pub cut_emptied : (test : ℕ → Bool) (start : ℕ) (flags : List Bool) → difference (cut_from test start flags) flags ≡ replicate (length flags) false
cut_emptied test start [] = refl
cut_emptied test start (true ∷ flags) = ap₂ (λ (b : Bool) (l : List Bool). b ∷ l) (and_false (test start)) (cut_emptied test (start + 1) flags)
cut_emptied test start (false ∷ flags) = ap (λ (l : List Bool). false ∷ l) (cut_emptied test (start + 1) flags)

-- as many are cut as pass
cut_counted : (test : ℕ → Bool) (start : ℕ) (flags : List Bool) → count_by is_marked (cut_from test start flags) ≡ count_by test (marked_places start flags)
cut_counted test start [] = refl
cut_counted test start (true ∷ flags) = omega (arith, count_cons is_marked (test start) (cut_from test (start + 1) flags), count_cons test start (marked_places (start + 1) flags), cut_counted test (start + 1) flags)
cut_counted test start (false ∷ flags) = omega (arith, count_cons is_marked false (cut_from test (start + 1) flags), cut_counted test (start + 1) flags)

pub posted_ups : (columns : Columns) (to f : ℕ) (found : List (ℕ × List ℕ)) (flags : List Bool) → AreColumns columns → column_of f columns.ordinals ≡ Some found → (o : ℕ) → IsOf (terms_of columns) f o
    → up_marks columns to (cut_from (λ doc. has_document doc (get_or (postings_of columns) o [])) 0 flags) ≡ ordinal_ups columns to found flags o
posted_ups columns to f found flags are is o of =
    let ps = get_or (postings_of columns) o [] in
    ap (up_marks columns to)
    (cut_same (λ doc. has_document doc ps) (λ doc. has_ordinal o (values_of doc found)) (λ doc. sym (rows_have o doc ps) ∙ posted_same columns f found flags are is o of doc) 0 flags)

-- and so many documents have the ordinal
posted_marks : (columns : Columns) (f : ℕ) (found : List (ℕ × List ℕ)) (flags : List Bool) → AreColumns columns → column_of f columns.ordinals ≡ Some found → (o : ℕ) → IsOf (terms_of columns) f o
    → count_by is_marked (cut_from (λ doc. has_document doc (get_or (postings_of columns) o [])) 0 flags) ≡ count_by (has_ordinal o) (map (λ doc. values_of doc found) (marked_places 0 flags))
posted_marks columns f found flags are is o of =
    let ps = get_or (postings_of columns) o [] in
    cut_counted (λ doc. has_document doc ps) 0 flags
    ∙ count_same (λ doc. has_document doc ps) (λ doc. has_ordinal o (values_of doc found)) (λ doc. sym (rows_have o doc ps) ∙ posted_same columns f found flags are is o of doc) (marked_places 0 flags)
    ∙ sym (count_mapped (has_ordinal o) (λ doc. values_of doc found) (marked_places 0 flags))

same_at : (z n k : ℕ) → get_or (replicate n z) k z ≡ z
same_at z zero k = refl
same_at z (suc n) zero = refl
same_at z (suc n) (suc k) = same_at z n k

-- the counts of the sets of a field's terms
pub sets_counted : (columns : Columns) (f : ℕ) (found : List (ℕ × List ℕ)) (flags : List Bool) → AreColumns columns → column_of f columns.ordinals ≡ Some found
    → (first end : ℕ) (counts : List ℕ) → AreAscending (terms_of columns) → first ≤ end → end ≤ length (terms_of columns) → IsRange (is_of_field f) (terms_of columns) first end → length counts ≡ end - first
    → ((k : ℕ) → k < end - first → get_or counts k 0 ≡ count_by is_marked (cut_from (λ doc. has_document doc (get_or (postings_of columns) (first + k) [])) 0 flags))
    → Counted first (map (λ doc. values_of doc found) (marked_places 0 flags)) (replicate (end - first) 0) counts
sets_counted columns f found flags are is first end counts up ordered within range long each =
    let n : ℕ = end - first in
    let whole : first + n ≡ end = omega (arith, ordered) in
    let there : IsRange (is_of_field f) (terms_of columns) first (first + n) = subst (λ (e : ℕ). IsRange (is_of_field f) (terms_of columns) first e) (sym whole) range in
    record {
      long = long ∙ sym (length-replicate {A = ℕ} n 0);
      each = λ k low.
          let inside : k < n = omega (arith, low, length-replicate {A = ℕ} n 0) in
          omega (
            arith,
            each k inside,
            posted_marks columns f found flags are is (first + k) (of_range (terms_of columns) f first n up there (omega (arith, within, whole)) k inside),
            same_at 0 n k,
          );
    }

-- ---- by values

pub no_ups : (columns : Columns) (to : ℕ) (kind : Kind) (f : ℕ) (flags : List Bool) (v : FieldValue) → is_written kind ≡ true → HaveKeywords columns → column_of f columns.ordinals ≡ None → shown_ups columns to kind f flags v ≡ 0
no_ups columns to kind f flags v written law is =
    never_up columns to (λ doc. shows kind f v (flat_of columns doc))
    (λ doc. ap (list_any (is_same_value v)) (shown_text columns kind f written law doc ∙ ap (λ (c : Option (List (ℕ × List ℕ))). map Written (map (bytes_at (terms_of columns)) (column_values doc c))) is))
    flags

pub text_ups : (columns : Columns) (to : ℕ) (kind : Kind) (f : ℕ) (flags : List Bool) (v : FieldValue) (found : List (ℕ × List ℕ)) → is_written kind ≡ true → HaveKeywords columns → column_of f columns.ordinals ≡ Some found
    → shown_ups columns to kind f flags v ≡ up_marks columns to (cut_from (λ doc. list_any (is_same_value v) (map Written (map (bytes_at (terms_of columns)) (values_of doc found)))) 0 flags)
text_ups columns to kind f flags v found written law is =
    ap (up_marks columns to)
    (cut_same (λ doc. shows kind f v (flat_of columns doc)) (λ doc. list_any (is_same_value v) (map Written (map (bytes_at (terms_of columns)) (values_of doc found))))
    (λ doc. ap (list_any (is_same_value v)) (shown_text columns kind f written law doc ∙ ap (λ (c : Option (List (ℕ × List ℕ))). map Written (map (bytes_at (terms_of columns)) (column_values doc c))) is))
    0 flags)

-- the numbers of ordinals of one segment are those of their terms
pub ups_counted : (columns : Columns) (to f : ℕ) (found : List (ℕ × List ℕ)) (flags : List Bool) → AreColumns columns → column_of f columns.ordinals ≡ Some found
    → (terms : TermList) → terms ≡ terms_of columns → AreAscending terms → (first end : ℕ) → first ≤ end → end ≤ length terms → IsRange (is_of_field f) terms first end
    → (ups shown : List ℕ) → AreUps columns to found flags first (end - first) ups → shown ≡ ups → (v : FieldValue)
    → counts_of terms first v shown 0 (length shown) ≡ up_marks columns to (cut_from (λ doc. list_any (is_same_value v) (map Written (map (bytes_at (terms_of columns)) (values_of doc found)))) 0 flags)
ups_counted columns to f found flags are is terms own up first end ordered within range ups shown counted same v =
    let n : ℕ = end - first in
    let whole : first + n ≡ end = omega (arith, ordered) in
    let mine : AreAscending (terms_of columns) = subst AreAscending own up in
    let there : IsRange (is_of_field f) (terms_of columns) first (first + n) = subst (λ (e : ℕ). IsRange (is_of_field f) (terms_of columns) first e) (sym whole) (subst (λ (t : TermList). IsRange (is_of_field f) t first end) own range) in
    let inside : first + n ≤ length (terms_of columns) = omega (arith, within, ap (λ (t : TermList). length t) own, whole) in
    let made : length shown ≡ n = ap length same ∙ counted.long in
    ap (λ (t : TermList). counts_of t first v shown 0 (length shown)) own
    ∙ ap (counts_of (terms_of columns) first v shown 0) made
    ∙ ap (λ (l : List ℕ). counts_of (terms_of columns) first v l 0 n) same
    ∙ parts_by (terms_of columns) f first n mine there inside (λ test. up_marks columns to (cut_from test 0 flags)) (λ one other alike. ap (up_marks columns to) (cut_same one other alike 0 flags))
    (never_up columns to (λ doc. false) (λ doc. refl) flags) v ups (λ doc. values_of doc found) (λ doc. ordinals_of columns f doc found are is) counted.each

-- ---- entry by entry

pub ups_step : (to : ℕ) (kind : Kind) (f : ℕ) (v : FieldValue) (at : ℕ) (view : View) (scores : List Scores) (e : EntryState) (s : Scores) (columns : Columns) (flags : List Bool) → AreLong view scores → at < length view → e ≡ get_or view at e → s ≡ get_or scores at s → columns ≡ e.columns → flags ≡ map is_some s
    → view_ups to kind f (drop at view) (drop at scores) v ≡ shown_ups columns to kind f flags v + view_ups to kind f (drop (at + 1) view) (drop (at + 1) scores) v
ups_step to kind f v at [] scores e s columns flags long low here own is set = absurd (omega (arith, low))
ups_step to kind f v at (x ∷ view) [] e s columns flags long low here own is set = absurd long
ups_step to kind f v zero (x ∷ view) (y ∷ scores) e s columns flags long low here own is set =
    let rest : ℕ = view_ups to kind f view scores v in
    ap (λ (l : List Bool). up_marks x.columns to l + rest) (cut_passed (λ doc. shows kind f v (flat_of x.columns doc)) 0 y)
    ∙ ap (λ (z : EntryState). shown_ups z.columns to kind f (map is_some y) v + rest) (sym here)
    ∙ ap (λ (z : Scores). shown_ups e.columns to kind f (map is_some z) v + rest) (sym own)
    ∙ ap (λ (c : Columns). shown_ups c to kind f (map is_some s) v + rest) (sym is)
    ∙ ap (λ (b : List Bool). shown_ups columns to kind f b v + rest) (sym set)
ups_step to kind f v (suc at) (x ∷ view) (y ∷ scores) e s columns flags long low here own is set =
    let next : suc at + 1 ≡ suc (at + 1) = omega arith in
    rw next (ups_step to kind f v at view scores e s columns flags long.1 (omega (arith, low)) here own is set)

drop_past : {A : Type 0} (xs : List A) (at : ℕ) → length xs ≤ at → drop at xs ≡ []
drop_past [] zero past = refl
drop_past [] (suc at) past = refl
drop_past (x ∷ xs) zero past = absurd (omega (arith, past))
drop_past (x ∷ xs) (suc at) past = drop_past xs at (omega (arith, past))

pub ups_end : (to : ℕ) (kind : Kind) (f : ℕ) (v : FieldValue) (at : ℕ) (view : View) (scores : List Scores) → length view ≤ at → view_ups to kind f (drop at view) (drop at scores) v ≡ 0
ups_end to kind f v at view scores past = ap (λ (l : View). view_ups to kind f l (drop at scores) v) (drop_past view at past)

-- ---- one number more

at_last : (xs : List ℕ) (x k : ℕ) → k ≡ length xs → get_or (xs ++ x ∷ []) k 0 ≡ x
at_last [] x zero is = refl
at_last [] x (suc k) is = absurd (omega (arith, is))
at_last (y ∷ xs) x zero is = absurd (omega (arith, is))
at_last (y ∷ xs) x (suc k) is = at_last xs x k (omega (arith, is))

before_last : (xs : List ℕ) (x k : ℕ) → k < length xs → get_or (xs ++ x ∷ []) k 0 ≡ get_or xs k 0
before_last [] x k low = absurd (omega (arith, low))
before_last (y ∷ xs) x zero low = refl
before_last (y ∷ xs) x (suc k) low = before_last xs x k (omega (arith, low))

pub one_more : (F : ℕ → ℕ) (xs new : List ℕ) (n m x : ℕ) → length xs ≡ n → m ≡ n + 1 → ((k : ℕ) → k < n → get_or xs k 0 ≡ F k) → x ≡ F n → new ≡ xs ++ x ∷ [] → (k : ℕ) → k < m → get_or new k 0 ≡ F k
one_more F xs new n m x long next each own is k low =
    by_test (k == n)
    (λ held.
    let here : k ≡ n = eqb-true k n held in
    ap (λ (l : List ℕ). get_or l k 0) is ∙ at_last xs x k (omega (arith, here, long)) ∙ own ∙ ap F (sym here))
    (λ failed. let below : k < n = grind (arith, low, next, failed) in ap (λ (l : List ℕ). get_or l k 0) is ∙ before_last xs x k (omega (arith, below, long)) ∙ each k below)
