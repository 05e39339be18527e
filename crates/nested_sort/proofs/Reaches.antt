-- Hits that are met one after another, and the page of those that are left.
use Rattle.std.specs.Prelude.{◌≡◌, ℕ, zero, suc, ◌+◌, ◌≤◌, ◌<◌, ℤ, Bool, true, false, List, [], ◌∷◌, ◌++◌, filter, drop, length, map, get_or, slice_get, IsSomeAnd, Option, Some, None, option_map, refl}
use Rattle.std.specs.List.{All, AllByRecursion, count_by, flat_map}
use Rattle.std.specs.Option.{option_map_or}
use Rattle.std.proofs.Common.{arith, ap, append_assoc, sym, subst, Bor, ◌∙◌}
use Rattle.std.proofs.lemmas.Bool.{false≢true, true≢false}
use Rattle.std.proofs.lemmas.List.{append-nil, drop_more, map-append, take_all}
use Rattle.std.proofs.lemmas.List.Elements.{All-filter, All-from_recursion, filter-append}
use Rattle.hit_order.specs.Reach.{AreMet, IsNarrower, IsWide, Met, first_of_row, is_late, is_near, is_within}
use Rattle.hit_order.specs.Table.{keys_of_row, number_of_row, number_or_null}
use Rattle.mapping.specs.Mapping.{Mapping}
use Rattle.query_ast.specs.Page.{direction_of, page_of}
use Rattle.query_ast.specs.declared.sort.Direction.{Direction}
use Rattle.query_ast.specs.declared.sort.Key.{Key}
use Rattle.query_ast.specs.declared.sort.Key.TheVariants.{Null as NoKey}
use Rattle.query_ast.specs.declared.sort.KeyRow.{KeyRow}
use Rattle.query_ast.specs.declared.sort.Sort.{Sort}
use Rattle.query_eval.specs.Found.{AreLong}
use Rattle.segment.specs.Live.{EntryState}
use Rattle.segment_parts.specs.declared.columns.Columns.{Columns}
use Rattle.view_objects.specs.Hits.{hits_between, hits_from, hits_in, hits_of}
use Rattle.view_objects.specs.declared.hit.Hit.{Hit}
use Rattle.nested_sort.specs.Documents.{clause_key, key_in, question_of}
use Rattle.nested_sort.specs.Inside.{AreAt}
use Rattle.nested_sort.specs.Listed.{IsCapped, IsDocOf}
use Rattle.nested_sort.specs.Reached.{AreKept, HavePages, IsAsked, IsAskedAt, IsLongAt, hit_within, hits_of_kept, key_at, key_by}
use Rattle.nested_sort.specs.declared.reached.Candidate.{Candidate}
use Rattle.nested_sort.specs.declared.reached.NumberClause.{NumberClause}
use Rattle.nested_sort.specs.declared.reached.NumberClause.TheVariants.{Score, Field}
use Rattle.nested_sort.proofs.Alike.{by_test}
use Rattle.nested_sort.proofs.Keying.{all_at}

-- ---- the entry at a place

pub long_at : (view : List EntryState) (found : List (List (Option ℕ))) (at : ℕ) (scores : List (Option ℕ)) → AreLong view found → at < length found → scores ≡ get_or found at scores → IsLongAt view at scores
long_at [] [] at scores long low is = absurd (omega (arith, low))
long_at [] (s ∷ found) at scores long low is = absurd long
long_at (e ∷ view) [] at scores long low is = absurd long
long_at (e ∷ view) (s ∷ found) zero scores long low is = ap length is ∙ long.0
long_at (e ∷ view) (s ∷ found) (suc at) scores long low is = long_at view found at scores long.1 (omega (arith, low)) is

pub doc_at : (view : List EntryState) (place doc : ℕ) (scores : List (Option ℕ)) → IsLongAt view place scores → doc < length scores → IsDocOf view place doc
doc_at [] place doc scores long low = absurd long
doc_at (e ∷ view) zero doc scores long low = subst (λ count. doc < count) long low
doc_at (e ∷ view) (suc place) doc scores long low = doc_at view place doc scores long low

pub read : (view : List EntryState) (place : ℕ) (scores : List (Option ℕ)) (entry : EntryState) → IsLongAt view place scores → entry ≡ get_or view place entry → slice_get view place ≡ Some entry
read [] place scores entry long is = absurd long
read (e ∷ view) zero scores entry long is = ap (λ (own : EntryState). Some own) (sym is)
read (e ∷ view) (suc place) scores entry long is = read view place scores entry long is

module _ (view : List EntryState) (place : ℕ) (scores : List (Option ℕ)) (entry : EntryState) (columns : Columns) (long : IsLongAt view place scores) (is : entry ≡ get_or view place entry) (same : columns ≡ entry.columns) where
  pub low_at : (doc : ℕ) → doc < length scores → doc < columns.documents
  low_at doc low =
      let all : length scores ≡ entry.columns.documents = subst (λ (o : Option EntryState). IsSomeAnd o (λ (e : EntryState). length scores ≡ e.columns.documents)) (read view place scores entry long is) long in
      subst (λ count. doc < count) (all ∙ ap (λ (c : Columns). c.documents) (sym same)) low

  pub asked_at : (clause : NumberClause) → IsAsked view clause → IsAskedAt columns place clause
  asked_at Score asked = tt
  asked_at (Field own) asked = (subst (λ (c : Columns). AreAt place c.documents own.filters.now) (sym same) (all_at view own.filters.now place entry asked.0 (read view place scores entry long is)), asked.1)

  pub key_there : (clause : NumberClause) (hit : Hit) → hit.place ≡ place → key_at columns place clause hit ≡ key_by view clause hit
  key_there Score hit at = refl
  key_there (Field own) hit at =
      ap (λ (c : Columns). key_in false c place (question_of own) hit.doc) same
      ∙ sym (ap (λ (p : ℕ). option_map_or (λ (e : EntryState). key_in false e.columns p (question_of own) hit.doc) (slice_get view p) NoKey) at
      ∙ ap (λ (o : Option EntryState). option_map_or (λ (e : EntryState). key_in false e.columns place (question_of own) hit.doc) o NoKey) (read view place scores entry long is))

-- ---- one hit more

module _ {A : Type 0} (p q : A → Bool) (goes : (x : A) → p x ≡ true → q x ≡ true) where
  filter_weaker : (xs : List A) → filter p (filter q xs) ≡ filter p xs
  filter_weaker [] = refl
  filter_weaker (x ∷ xs) =
      by_test (p x)
      (λ yes. let own : q x ≡ true = goes x yes in rw own (rw yes (ap (λ ys. x ∷ ys) (filter_weaker xs))))
      (λ no. by_test (q x) (λ own. simp (no, own) (filter_weaker xs)) (λ out. simp (no, out) (filter_weaker xs)))

  fewer_same : (xs ys : List A) → filter q xs ≡ filter q ys → filter p xs ≡ filter p ys
  fewer_same xs ys same = sym (filter_weaker xs) ∙ ap (filter p) same ∙ filter_weaker ys

pushed_all : {A : Type 0} (P : A → Type 0) (xs : List A) (x : A) → AllByRecursion P xs → P x → AllByRecursion P (xs ++ x ∷ [])
pushed_all P [] x all own = (own, tt)
pushed_all P (y ∷ xs) x all own = (all.0, pushed_all P xs x all.1 own)

module _ (key : Hit → Key) (d : Direction) (after : Option Key) (most : ℕ) where
  abbrev reached : Option Key → Hit → Bool
  reached bound hit = is_within d after bound (key hit)

  pub kept_none : (met : Met) → met.direction ≡ d → met.after ≡ after → met.most ≡ most → met.bound ≡ None → met.keys ≡ [] → AreKept key d after most [] [] met
  kept_none met directed behind upto unbound none = record {
    directed = directed;
    behind = behind;
    upto = upto;
    capped = tt;
    keyed = tt;
    same = refl;
    known = record {
      counted = λ test. subst (λ (keys : List Key). count_by test keys ≤ 0) (sym none) (omega arith);
      wide = subst (λ (bound : Option Key). IsWide met.most met.direction met.after bound []) (sym unbound) tt;
    };
  }

  tighter : (old met : Met) → old.direction ≡ d → IsNarrower old met → (hit : Hit) → reached met.bound hit ≡ true → reached old.bound hit ≡ true
  tighter old met directed narrow hit is =
      by_test (is_late d after (key hit))
      (λ late.
      let near : is_near d met.bound (key hit) ≡ true = rw late at is in
      rw late (subst (λ (e : Direction). is_near e met.bound (key hit) ≡ true → is_near e old.bound (key hit) ≡ true) directed (narrow.within (key hit)) near))
      (λ early. absurd (false≢true (rw early at is)))

  pub kept_narrower : (all : List Hit) (kept : List Candidate) (old met : Met) → IsNarrower old met → ((ks : List Key) → AreMet ks old → AreMet ks met) → AreKept key d after most all kept old → AreKept key d after most all kept met
  kept_narrower all kept old met narrow meets are = record {
    directed = narrow.direction ∙ are.directed;
    behind = narrow.after ∙ are.behind;
    upto = narrow.most ∙ are.upto;
    capped = are.capped;
    keyed = are.keyed;
    same = fewer_same (reached met.bound) (reached old.bound) (tighter old met are.directed narrow) (hits_of_kept kept) all are.same;
    known = meets (map key all) are.known;
  }

  module _ (all : List Hit) (kept new : List Candidate) (old met : Met) (one : Option ℤ) (hit : Hit) (capped : IsCapped hit) (own : number_or_null one ≡ key hit) (narrow : IsNarrower old met)
      (meets : (ks : List Key) → AreMet ks old → AreMet (ks ++ number_or_null one ∷ []) met) (are : AreKept key d after most all kept old) where
    same_fewer : filter (reached met.bound) (hits_of_kept kept) ≡ filter (reached met.bound) all
    same_fewer = fewer_same (reached met.bound) (reached old.bound) (tighter old met are.directed narrow) (hits_of_kept kept) all are.same

    met_more : AreMet (map key (all ++ hit ∷ [])) met
    met_more = subst (λ (ks : List Key). AreMet ks met) (ap (λ k. map key all ++ k ∷ []) own ∙ sym (map-append key all (hit ∷ []))) (meets (map key all) are.known)

    pub kept_more : new ≡ kept ++ record { key = one; hit = hit } ∷ [] → AreKept key d after most (all ++ hit ∷ []) new met
    kept_more is =
        let w = reached met.bound in
        record {
          directed = narrow.direction ∙ are.directed;
          behind = narrow.after ∙ are.behind;
          upto = narrow.most ∙ are.upto;
          capped = subst (AllByRecursion (λ (c : Candidate). IsCapped c.hit)) (sym is) (pushed_all (λ (c : Candidate). IsCapped c.hit) kept (record { key = one; hit = hit }) are.capped capped);
          keyed = subst (AllByRecursion (λ (c : Candidate). number_or_null c.key ≡ key c.hit)) (sym is) (pushed_all (λ (c : Candidate). number_or_null c.key ≡ key c.hit) kept (record { key = one; hit = hit }) are.keyed own);
          same =
              ap (λ (cs : List Candidate). filter w (hits_of_kept cs)) is
              ∙ ap (filter w) (map-append (λ (c : Candidate). c.hit) kept (record { key = one; hit = hit } ∷ []))
              ∙ filter-append w (hits_of_kept kept) (hit ∷ [])
              ∙ ap (λ (hs : List Hit). hs ++ filter w (hit ∷ [])) same_fewer
              ∙ sym (filter-append w all (hit ∷ []));
          known = met_more;
        }

    pub kept_passed : is_within old.direction old.after old.bound (number_or_null one) ≡ false → new ≡ kept → AreKept key d after most (all ++ hit ∷ []) new met
    kept_passed far is =
        let w = reached met.bound in
        let out : reached old.bound hit ≡ false =
        sym (ap (λ (e : Direction). is_within e old.after old.bound (number_or_null one)) are.directed ∙ ap (λ (a : Option Key). is_within d a old.bound (number_or_null one)) are.behind ∙ ap (is_within d after old.bound) own) ∙ far in
        let gone : w hit ≡ false = by_test (w hit) (λ yes. absurd (true≢false (sym (tighter old met are.directed narrow hit yes) ∙ out))) (λ no. no) in
        let none : filter w (hit ∷ []) ≡ [] = rw gone refl in
        record {
          directed = narrow.direction ∙ are.directed;
          behind = narrow.after ∙ are.behind;
          upto = narrow.most ∙ are.upto;
          capped = subst (AllByRecursion (λ (c : Candidate). IsCapped c.hit)) (sym is) are.capped;
          keyed = subst (AllByRecursion (λ (c : Candidate). number_or_null c.key ≡ key c.hit)) (sym is) are.keyed;
          same =
              ap (λ (cs : List Candidate). filter w (hits_of_kept cs)) is
              ∙ same_fewer
              ∙ sym (filter-append w all (hit ∷ []) ∙ ap (λ (hs : List Hit). filter w all ++ hs) none ∙ append-nil (filter w all));
          known = met_more;
        }

-- ---- those that are left

within_are : (key : Hit → Key) (met : Met) (kept : List Candidate) → AllByRecursion (λ (c : Candidate). number_or_null c.key ≡ key c.hit) kept
    → flat_map (hit_within met) kept ≡ filter (λ hit. is_within met.direction met.after met.bound (key hit)) (hits_of_kept kept)
within_are key met [] keyed = refl
within_are key met (c ∷ kept) keyed =
    let test : Key → Bool = is_within met.direction met.after met.bound in
    by_test (test (key c.hit))
    (λ yes. let own : test (number_or_null c.key) ≡ true = ap test keyed.0 ∙ yes in rw (yes, own) (ap (λ (hs : List Hit). c.hit ∷ hs) (within_are key met kept keyed.1)))
    (λ no. let own : test (number_or_null c.key) ≡ false = ap test keyed.0 ∙ no in rw (no, own) (within_are key met kept keyed.1))

abbrev pub PageLaw : Type 0
PageLaw =
    (direction : Direction) (directions : List Direction) (after : Option KeyRow) (bound : Option Key) (most from size : ℕ) (rows : List KeyRow)
    → IsWide most direction (option_map first_of_row after) bound (map first_of_row rows)
    → from + size ≤ most
    → page_of keys_of_row number_of_row (direction ∷ directions) after from size (filter (λ row. is_within direction (option_map first_of_row after) bound (first_of_row row)) rows) ≡ page_of keys_of_row number_of_row (direction ∷ directions) after from size rows

module _ (key : Hit → Key) (row : Hit → KeyRow) where
  keys_same : (hits : List Hit) → AllByRecursion (λ hit. first_of_row (row hit) ≡ key hit) hits → map first_of_row (map row hits) ≡ map key hits
  keys_same [] agree = refl
  keys_same (hit ∷ hits) agree = ap (λ k. k ∷ map first_of_row (map row hits)) agree.0 ∙ ap (λ ks. key hit ∷ ks) (keys_same hits agree.1)

  rows_chosen : (test : Key → Bool) (hits : List Hit) → AllByRecursion (λ hit. first_of_row (row hit) ≡ key hit) hits → map row (filter (λ hit. test (key hit)) hits) ≡ filter (λ r. test (first_of_row r)) (map row hits)
  rows_chosen test [] agree = refl
  rows_chosen test (hit ∷ hits) agree =
      by_test (test (key hit))
      (λ yes. let own : test (first_of_row (row hit)) ≡ true = ap test agree.0 ∙ yes in rw (yes, own) (ap (λ rs. row hit ∷ rs) (rows_chosen test hits agree.1)))
      (λ no. let own : test (first_of_row (row hit)) ≡ false = ap test agree.0 ∙ no in rw (no, own) (rows_chosen test hits agree.1))

module _ (key : Hit → Key) (d : Direction) (after : Option KeyRow) (most : ℕ) (all hits : List Hit) (kept : List Candidate) (met : Met) (are : AreKept key d (option_map first_of_row after) most all kept met)
    (chosen : hits ≡ flat_map (hit_within met) kept) where
  left : hits ≡ filter (λ hit. is_within met.direction met.after met.bound (key hit)) (hits_of_kept kept)
  left = chosen ∙ within_are key met kept are.keyed

  abbrev pub is_left : Hit → Bool
  is_left hit = is_within d (option_map first_of_row after) met.bound (key hit)

  pub left_are : hits ≡ filter is_left all
  left_are =
      left
      ∙ ap (λ (e : Direction). filter (λ hit. is_within e met.after met.bound (key hit)) (hits_of_kept kept)) are.directed
      ∙ ap (λ (a : Option Key). filter (λ hit. is_within d a met.bound (key hit)) (hits_of_kept kept)) are.behind
      ∙ are.same

  pub left_capped : All IsCapped hits
  left_capped =
      subst (All IsCapped) (sym left)
      (All-filter (λ hit. is_within met.direction met.after met.bound (key hit)) IsCapped (hits_of_kept kept) (All-from_recursion IsCapped (hits_of_kept kept) (by kept are.capped)))
    where
      by : (cs : List Candidate) → AllByRecursion (λ (c : Candidate). IsCapped c.hit) cs → AllByRecursion IsCapped (hits_of_kept cs)
      by [] caps = tt
      by (c ∷ cs) caps = (caps.0, by cs caps.1)

  pub page_left : PageLaw → (ds : List Direction) (row : Hit → KeyRow) (from size : ℕ) → AllByRecursion (λ hit. first_of_row (row hit) ≡ key hit) all → from + size ≤ most
      → page_of keys_of_row number_of_row (d ∷ ds) after from size (map row hits) ≡ page_of keys_of_row number_of_row (d ∷ ds) after from size (map row all)
  page_left law ds row from size agree within =
      let wide : IsWide most d (option_map first_of_row after) met.bound (map first_of_row (map row all)) =
      subst (λ (ks : List Key). IsWide most d (option_map first_of_row after) met.bound ks) (sym (keys_same key row all agree))
      (subst (λ (a : Option Key). IsWide most d a met.bound (map key all)) are.behind
      (subst (λ (e : Direction). IsWide most e met.after met.bound (map key all)) are.directed
      (subst (λ (n : ℕ). IsWide n met.direction met.after met.bound (map key all)) are.upto are.known.wide))) in
      ap (λ (hs : List Hit). page_of keys_of_row number_of_row (d ∷ ds) after from size (map row hs)) left_are
      ∙ ap (page_of keys_of_row number_of_row (d ∷ ds) after from size) (rows_chosen key row (is_within d (option_map first_of_row after) met.bound) all agree)
      ∙ law d ds after met.bound most from size (map row all) wide within

pub all_chosen : {A : Type 0} (xs : List A) → xs ≡ filter (λ (x : A). true) xs
all_chosen [] = refl
all_chosen (x ∷ xs) = ap (λ ys. x ∷ ys) (all_chosen xs)

-- ---- the pages of those that are left

abbrev pub after_of : Option (Bor KeyRow) → Option KeyRow
after_of after = option_map (λ row. row.now) after

pub after_first : (after : Option (Bor KeyRow)) → option_map (λ row. first_of_row row.now) after ≡ option_map first_of_row (after_of after)
after_first None = refl
after_first (Some row) = refl

front_is : (sorts : List Sort) (first : Sort) → 1 ≤ length sorts → first ≡ get_or sorts 0 first → sorts ≡ first ∷ drop 1 sorts
front_is [] first some is = absurd (omega (arith, some))
front_is (s ∷ sorts) first some is = ap (λ (t : Sort). t ∷ sorts) (sym is)

module _ (m : Mapping) (view : List EntryState) (n : ℕ) (filters : List (List (List (Option ℕ)))) (sorts : List Sort) (first : Sort) (after : Option KeyRow) (most : ℕ) (all hits : List Hit) (kept : List Candidate) (met made : Met) (key : Hit → Key) (d : Direction) (a : Option Key)
    (directed : d ≡ direction_of first) (behind : a ≡ option_map first_of_row after) (new : made ≡ record { direction = d; after = a; most = most; bound = None; keys = [] }) (were : AreKept key made.direction made.after made.most all kept met) (chosen : hits ≡ flat_map (hit_within met) kept) where
  kept_so : AreKept key (direction_of first) (option_map first_of_row after) most all kept met
  kept_so =
      subst (λ (b : Option Key). AreKept key (direction_of first) b most all kept met) behind
      (subst (λ (e : Direction). AreKept key e a most all kept met) directed
      (subst (λ (k : Met). AreKept key k.direction k.after k.most all kept met) new were))

  pub some_chosen : (keep : Hit → Bool) × (hits ≡ filter keep all)
  some_chosen = (is_left key (direction_of first) after most all hits kept met kept_so chosen, left_are key (direction_of first) after most all hits kept met kept_so chosen)

  pub some_capped : All IsCapped hits
  some_capped = left_capped key (direction_of first) after most all hits kept met kept_so chosen

  pub have_pages : PageLaw → 1 ≤ length sorts → first ≡ get_or sorts 0 first → key ≡ clause_key m view n filters first.missing first.key → HavePages m view n filters sorts after most all hits
  have_pages law some is own =
      subst (λ (ss : List Sort). HavePages m view n filters ss after most all hits) (sym (front_is sorts first some is))
      (λ row from size agree within.
      page_left key (direction_of first) after most all hits kept met kept_so chosen law (map direction_of (drop 1 sorts)) row from size
      (subst (λ (k : Hit → Key). AllByRecursion (λ hit. first_of_row (row hit) ≡ k hit) all) (sym own) agree) within)

-- ---- entry by entry

pub all_between : (place end : ℕ) (scores : List (Option ℕ)) → end ≡ length scores → hits_between place 0 end scores ≡ hits_from place 0 scores
all_between place end scores is = ap (hits_from place 0) (take_all end scores (omega (arith, is)))

pub done_all : (done all : List Hit) (rest : List Hit) → rest ≡ [] → done ++ rest ≡ all → done ≡ all
done_all done all rest none is = sym (ap (λ (hs : List Hit). done ++ hs) none ∙ append-nil done) ∙ is

pub entry_more : (found : List (List (Option ℕ))) (at : ℕ) (scores : List (Option ℕ)) (done : List Hit) → at < length found → scores ≡ get_or found at scores → done ++ hits_of at (drop at found) ≡ hits_in found
    → (done ++ hits_from at 0 scores) ++ hits_of (at + 1) (drop (at + 1) found) ≡ hits_in found
entry_more found at scores done low is was =
    append_assoc done (hits_from at 0 scores) (hits_of (at + 1) (drop (at + 1) found))
    ∙ ap (λ (hs : List Hit). done ++ hs) (sym (ap (hits_of at) (drop_more found at scores low ∙ ap (λ (s : List (Option ℕ)). s ∷ drop (at + 1) found) (sym is))))
    ∙ was
