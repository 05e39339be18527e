-- A page of hits that have one score, by which alone they are ordered: they stand in order as they are found.
use Rattle.std.proofs.Common.{◌≡◌, ℕ, zero, suc, ◌+◌, ◌==◌, ℤ, pos, Bool, true, false, cond, List as Seq, [], ◌∷◌, ◌++◌, length, map, take, drop, get_or, slice_get, Option, Some, None, is_some, refl, sym, ap, subst, ◌∙◌, arith}
use Rattle.std.specs.List.{AllByRecursion, cons_option, filter_map, sum_by}
use Rattle.std.specs.Option.{option_map}
use Rattle.std.specs.Ordering.{int_cmp, is_lt}
use Rattle.std.proofs.lemmas.List.{map-append}
use Rattle.block_join.specs.Scores.{filled}
use Rattle.flattener.specs.StandsFor.{Marked, ViewStandsFor}
use Rattle.hit_order.specs.Table.{keys_of_row, number_of_row}
use Rattle.hit_order.specs.declared.column.RowPlace.{RowPlace}
use Rattle.mapping.specs.Mapping.{Mapping}
use Rattle.nested_sort.specs.Keyed.{keyed_rows, rows_from, rows_in, scored}
use Rattle.query_ast.specs.Clause.{Clause}
use Rattle.query_ast.specs.Hit.{hit, those_hit}
use Rattle.query_ast.specs.Joined.{roots}
use Rattle.query_ast.specs.Page.{direction_of, page_of}
use Rattle.query_ast.specs.Rows.{Row, number_of, row_if, row_of, rows_of}
use Rattle.query_ast.specs.Search.{found_rows, hit_of, hit_page}
use Rattle.query_ast.specs.SortKey.{key_by, sort_key}
use Rattle.query_ast.specs.declared.hit.Hit.{Hit}
use Rattle.query_ast.specs.declared.search.SearchBody.{SearchBody}
use Rattle.query_ast.specs.declared.sort.Key.{Key}
use Rattle.query_ast.specs.declared.sort.Key.TheVariants.{Number}
use Rattle.query_ast.specs.declared.sort.KeyRow.{KeyRow}
use Rattle.query_ast.specs.declared.sort.Sort.{Sort}
use Rattle.query_ast.specs.declared.sort.SortKey.{SortKey}
use Rattle.query_ast.specs.declared.sort.SortKey.TheVariants.{Score}
use Rattle.query_eval.specs.Found.{IsFound, live_trees, score_by}
use Rattle.segment.specs.Live.{EntryState}
use Rattle.segment_parts.specs.Text.{marked_places}
use Rattle.tree_joins.specs.Seen.{at_scope, if_live, seen}
use Rattle.tree_objects.specs.Object.{Object, block_objects, root, scope}
use Rattle.tree_objects.specs.Tree.{ComesFirst, IsLiveList, Tree}
use Rattle.search_page.specs.Hits.{AreRootRows, AreShared, IsByScore, hit_at, hit_in, place_of, places_of, plain_row, row_reads, shown_at, shown_of}
use Rattle.search_page.specs.Searched.{page_reads}
use Rattle.search_page.proofs.Agreeing.{Agree, agree_shown}
use Rattle.search_page.proofs.Empty.{rows_long}
use Rattle.search_page.proofs.Paged.{Pair, at_roots, own_shown, reads_are, rows_are, shown, shown_are}
use Rattle.search_page.proofs.Rising.{AreAlike, Rise, lower, page_alike}
use Rattle.search_page.proofs.Rows.{OneRoot, Scores}
use Rattle.search_page.proofs.Shown.{sum_first}

-- ---- lists

take_mapped : {A B : Type 0} (f : A → B) (n : ℕ) (xs : Seq A) → map f (take n xs) ≡ take n (map f xs)
take_mapped f zero xs = refl
take_mapped f (suc n) [] = refl
take_mapped {A} {B} f (suc n) (x ∷ xs) = ap (λ (l : Seq B). f x ∷ l) (take_mapped f n xs)

drop_mapped : {A B : Type 0} (f : A → B) (n : ℕ) (xs : Seq A) → map f (drop n xs) ≡ drop n (map f xs)
drop_mapped f zero xs = refl
drop_mapped f (suc n) [] = refl
drop_mapped f (suc n) (x ∷ xs) = drop_mapped f n xs

cut_mapped : {A B : Type 0} (f : A → B) (from size : ℕ) (xs : Seq A) → map f (take size (drop from xs)) ≡ take size (drop from (map f xs))
cut_mapped {A} {B} f from size xs = take_mapped f size (drop from xs) ∙ ap (take size) (drop_mapped f from xs)

-- ---- rows without the numbers of their trees

abbrev unnumbered : KeyRow → KeyRow
unnumbered row = record { keys = row.keys; place = row.place; doc = row.doc; number = pos 0 }

abbrev second : Option (Object × ℕ) → Option ℕ
second hit = option_map (λ (h : Object × ℕ). h.1) hit

module _ (m : Mapping) (live : Seq Tree) (score : ℕ) (sort : Sort) (key : sort.key ≡ Score) where
  plain_key : (o : Object) → map (sort_key m live score o) (sort ∷ []) ≡ Number (pos score) ∷ []
  unfolding sort_key
  plain_key o = ap (λ (k : SortKey). key_by m live sort.missing score o k ∷ []) key

  -- those of one entry
  entry_plain : (place doc : ℕ) (hits : Seq (Option (Object × ℕ))) → map second hits ≡ filled (Some score) (map is_some (map second hits))
      → map unnumbered (rows_from m live (sort ∷ []) place doc hits) ≡ map (plain_row score) (map (place_of place) (marked_places doc (map is_some (map second hits))))
  entry_plain place doc [] same = refl
  entry_plain place doc (None ∷ hits) same =
      let next : suc doc ≡ doc + 1 = omega arith in
      let rest : map second hits ≡ filled (Some score) (map is_some (map second hits)) = cc in
      entry_plain place (suc doc) hits rest
      ∙ ap (λ (k : ℕ). map (plain_row score) (map (place_of place) (marked_places k (map is_some (map second hits))))) next
  entry_plain place doc (Some h ∷ hits) same =
      let next : suc doc ≡ doc + 1 = omega arith in
      let own : h.1 ≡ score = cc in
      let rest : map second hits ≡ filled (Some score) (map is_some (map second hits)) = cc in
      let keys : map (sort_key m live h.1 h.0) (sort ∷ []) ≡ Number (pos score) ∷ [] = ap (λ (k : ℕ). map (sort_key m live k h.0) (sort ∷ [])) own ∙ plain_key h.0 in
      ap (λ (ks : Seq Key). record { keys = ks; place = place; doc = doc; number = pos 0 } ∷ map unnumbered (rows_from m live (sort ∷ []) place (suc doc) hits)) keys
      ∙ ap (λ (l : Seq KeyRow). plain_row score (place_of place doc) ∷ l)
      (entry_plain place (suc doc) hits rest
      ∙ ap (λ (k : ℕ). map (plain_row score) (map (place_of place) (marked_places k (map is_some (map second hits))))) next)

  module _ (given : Object → Option ℕ) where
    block_second : (alive : Bool) (os : Seq Object) → map second (map (if_live (at_scope 0 (scored given)) alive) os) ≡ map (if_live (at_scope 0 given) alive) os
    block_second alive [] = refl
    block_second alive (o ∷ os) =
        ap (λ (l : Seq (Option ℕ)). second (if_live (at_scope 0 (scored given)) alive o) ∷ l) (block_second alive os)
        ∙ ap (λ (x : Option ℕ). x ∷ map (if_live (at_scope 0 given) alive) os) (by alive (scope o == 0) (given o))
      where
        by : (alive here : Bool) (score : Option ℕ) → second (cond alive (cond here (option_map (λ score. (o, score)) score) None) None) ≡ cond alive (cond here score None) None
        by false here score = refl
        by true false score = refl
        by true true None = refl
        by true true (Some s) = refl

    seen_second : (trees : Seq (Marked Tree)) → map second (seen m (at_scope 0 (scored given)) trees) ≡ seen m (at_scope 0 given) trees
    seen_second [] = refl
    seen_second (t ∷ trees) =
        map-append second (map (if_live (at_scope 0 (scored given)) t.live) (block_objects m t.item)) (seen m (at_scope 0 (scored given)) trees)
        ∙ ap (λ (l : Seq (Option ℕ)). l ++ map second (seen m (at_scope 0 (scored given)) trees)) (block_second t.live (block_objects m t.item))
        ∙ ap (λ (l : Seq (Option ℕ)). map (if_live (at_scope 0 given) t.live) (block_objects m t.item) ++ l) (seen_second trees)

    view_plain : (place : ℕ) (trees : Seq (Seq (Marked Tree))) → AreShared score (map (seen m (at_scope 0 given)) trees)
        → map unnumbered (rows_in m 0 live (sort ∷ []) given place trees) ≡ map (plain_row score) (places_of place (map (seen m (at_scope 0 given)) trees))
    view_plain place [] same = refl
    view_plain place (ts ∷ more) same =
        let hits = seen m (at_scope 0 (scored given)) ts in
        let own : map second hits ≡ filled (Some score) (map is_some (map second hits)) = rw (seen_second ts) same.0 in
        map-append unnumbered (rows_from m live (sort ∷ []) place 0 hits) (rows_in m 0 live (sort ∷ []) given (suc place) more)
        ∙ ap (λ (l : Seq KeyRow). l ++ map unnumbered (rows_in m 0 live (sort ∷ []) given (suc place) more))
        (entry_plain place 0 hits own ∙ ap (λ (s : Scores). map (plain_row score) (map (place_of place) (marked_places 0 (map is_some s)))) (seen_second ts))
        ∙ ap (λ (l : Seq KeyRow). map (plain_row score) (map (place_of place) (marked_places 0 (map is_some (seen m (at_scope 0 given) ts)))) ++ l) (view_plain (suc place) more same.1)
        ∙ sym (map-append (plain_row score) (map (place_of place) (marked_places 0 (map is_some (seen m (at_scope 0 given) ts)))) (places_of (suc place) (map (seen m (at_scope 0 given)) more)))

alike_from : (score : ℕ) (rows : Seq KeyRow) (places : Seq RowPlace) → map unnumbered rows ≡ map (plain_row score) places → AreAlike keys_of_row (pos score) rows
alike_from score [] places same = tt
alike_from score (row ∷ rows) [] same = absurd (let no : ⊥ = cc in no)
alike_from score (row ∷ rows) (at ∷ places) same =
    let first : unnumbered row ≡ plain_row score at = cc in
    let rest : map unnumbered rows ≡ map (plain_row score) places = cc in
    (ap (λ (r : KeyRow). r.keys) first, alike_from score rows places rest)

-- ---- the rows of live trees rise

module _ (m : Mapping) (live : Seq Tree) (query : Clause) (sorts : Seq Sort) where
  rows_later : (tree : Tree) (trees : Seq Tree) → ComesFirst tree trees → AllByRecursion (λ (row : Row). is_lt (int_cmp (number_of row) (pos tree.number)) ≡ false) (filter_map (row_if m live query sorts) (roots trees))
  rows_later tree [] first = tt
  rows_later tree (t ∷ trees) first = by (hit m live query (root t)) (rows_later tree trees first.1)
    where
      by : (score : Option ℕ) → AllByRecursion (λ (row : Row). is_lt (int_cmp (number_of row) (pos tree.number)) ≡ false) (filter_map (row_if m live query sorts) (roots trees))
          → AllByRecursion (λ (row : Row). is_lt (int_cmp (number_of row) (pos tree.number)) ≡ false) (cons_option (option_map (row_of m live sorts (root t)) score) (filter_map (row_if m live query sorts) (roots trees)))
      by None rest = rest
      by (Some score) rest = (lower tree.number t.number first.0.0, rest)

  rows_rise : (trees : Seq Tree) → IsLiveList trees → Rise number_of (filter_map (row_if m live query sorts) (roots trees))
  rows_rise [] list = tt
  rows_rise (t ∷ trees) list = by (hit m live query (root t)) (rows_rise trees list.1)
    where
      by : (score : Option ℕ) → Rise number_of (filter_map (row_if m live query sorts) (roots trees)) → Rise number_of (cons_option (option_map (row_of m live sorts (root t)) score) (filter_map (row_if m live query sorts) (roots trees)))
      by None rest = rest
      by (Some score) rest = (rows_later t trees list.0, rest)

module _ {A B : Type 0} (R : A → B → Type 0) (number : A → ℤ) (other : B → ℤ) (same : (x : A) (y : B) → R x y → number x ≡ other y) where
  later_agree : (z w : ℤ) → z ≡ w → (xs : Seq A) (ys : Seq B) → Agree R xs ys → AllByRecursion (λ (y : B). is_lt (int_cmp (other y) w) ≡ false) ys → AllByRecursion (λ (x : A). is_lt (int_cmp (number x) z) ≡ false) xs
  later_agree z w is [] ys are later = tt
  later_agree z w is (x ∷ xs) [] are later = absurd are
  later_agree z w is (x ∷ xs) (y ∷ ys) are later = (rw (same x y are.0, is) later.0, later_agree z w is xs ys are.1 later.1)

  rise_agree : (xs : Seq A) (ys : Seq B) → Agree R xs ys → Rise other ys → Rise number xs
  rise_agree [] ys are up = tt
  rise_agree (x ∷ xs) [] are up = absurd are
  rise_agree (x ∷ xs) (y ∷ ys) are up = (later_agree (number x) (other y) (same x y are.0) xs ys are.1 up.0, rise_agree xs ys are.1 up.1)

-- ---- the page

module _ (m : Mapping) (one_root : OneRoot m) (view : Seq EntryState) (found : Seq Scores) (body : SearchBody) (is_found : IsFound m view 0 body.query found) (trees : Seq (Seq (Marked Tree))) (stands : ViewStandsFor m view trees)
    (numbered : IsLiveList (live_trees trees)) (score : ℕ) (after : body.after ≡ None) (by_score : IsByScore body.sort) (shared : AreShared score found) where
  abbrev live : Seq Tree
  live = live_trees trees

  abbrev rows : Seq KeyRow
  rows = keyed_rows m 0 body.sort (score_by m body.query) trees

  abbrev cut : Seq KeyRow
  cut = take body.size (drop body.from rows)

  abbrev page_shown : Seq KeyRow
  page_shown = shown m one_root view found body is_found trees stands

  rows_plain : map unnumbered rows ≡ map (plain_row score) (places_of 0 found)
  unfolding keyed_rows
  rows_plain =
      let are = is_found.are trees stands in
      ap (λ (sorts : Seq Sort). map unnumbered (rows_in m 0 live sorts (score_by m body.query live) 0 trees)) by_score.1
      ∙ view_plain m live score by_score.0 by_score.2 (score_by m body.query live) 0 trees (subst (AreShared score) are shared)
      ∙ ap (λ (l : Seq Scores). map (plain_row score) (places_of 0 l)) (sym are)

  own_rise : Rise number_of (found_rows m live body)
  unfolding rows_of
  own_rise = rows_rise m live body.query body.sort live numbered

  shown_is : page_shown ≡ cut
  shown_is =
      ap (λ (sorts : Seq Sort). page_of keys_of_row number_of_row (map direction_of sorts) body.after body.from body.size rows) by_score.1
      ∙ ap (λ (o : Option KeyRow). page_of keys_of_row number_of_row (direction_of by_score.0 ∷ []) o body.from body.size rows) after
      ∙ page_alike keys_of_row number_of_row (direction_of by_score.0) (pos score) body.from body.size rows
      (alike_from score rows (places_of 0 found) rows_plain)
      (rise_agree (Pair m one_root view found body is_found trees stands) number_of_row number_of (λ row own it. it.number) rows (found_rows m live body) (rows_are m one_root view found body is_found trees stands) own_rise)

  module _ (page : Seq KeyRow) (is : page ≡ map (plain_row score) (take body.size (drop body.from (places_of 0 found)))) where
    page_is : page ≡ map unnumbered page_shown
    page_is =
        is
        ∙ cut_mapped (plain_row score) body.from body.size (places_of 0 found)
        ∙ ap (λ (l : Seq KeyRow). take body.size (drop body.from l)) (sym rows_plain)
        ∙ sym (cut_mapped unnumbered body.from body.size rows)
        ∙ ap (map unnumbered) (sym shown_is)

    roots_plain : (some : Seq KeyRow) → AreRootRows m trees some → AreRootRows m trees (map unnumbered some)
    roots_plain [] are = tt
    roots_plain (row ∷ some) are = (are.0, roots_plain some are.1)

    same_hit : (entry : Option EntryState) (scores : Scores) (row : KeyRow) → hit_in entry scores (unnumbered row) ≡ hit_in entry scores row
    same_hit None scores row = refl
    same_hit (Some entry) scores row = refl

    same_shown : (row : KeyRow) (hit : Option Hit) → option_map (shown_of m trees body (unnumbered row)) hit ≡ option_map (shown_of m trees body row) hit
    same_shown row None = refl
    same_shown row (Some hit) = refl

    row_plain : (row : KeyRow) → shown_at m view found trees body (unnumbered row) ≡ shown_at m view found trees body row
    unfolding shown_at hit_at
    row_plain row =
        ap (option_map (shown_of m trees body (unnumbered row))) (same_hit (slice_get view row.place) (get_or found row.place []) row)
        ∙ same_shown row (hit_in (slice_get view row.place) (get_or found row.place []) row)

    shown_plain : (some : Seq KeyRow) → filter_map (shown_at m view found trees body) (map unnumbered some) ≡ filter_map (shown_at m view found trees body) some
    shown_plain [] = refl
    shown_plain (row ∷ some) =
        ap (λ (o : Option Hit). cons_option o (filter_map (shown_at m view found trees body) (map unnumbered some))) (row_plain row)
        ∙ ap (cons_option (shown_at m view found trees body row)) (shown_plain some)

    reads_plain : (some : Seq KeyRow) → sum_by (row_reads m trees body) (map unnumbered some) ≡ sum_by (row_reads m trees body) some
    reads_plain [] = refl
    reads_plain (row ∷ some) =
        sum_first (row_reads m trees body) (unnumbered row) (map unnumbered some)
        ∙ ap (λ (n : ℕ). row_reads m trees body row + n) (reads_plain some)
        ∙ sym (sum_first (row_reads m trees body) row some)

    abbrev own_page : Seq Row
    own_page = own_shown m one_root view found body is_found trees stands

    pub front_at_roots : AreRootRows m trees page
    front_at_roots =
        subst (AreRootRows m trees) (sym page_is)
        (roots_plain page_shown (at_roots m one_root view found body is_found trees stands page_shown own_page (shown_are m one_root view found body is_found trees stands)))

    pub front_found : (hits : Seq Hit) (total : ℕ) → hits ≡ filter_map (shown_at m view found trees body) page → total ≡ length (those_hit m live body.query (roots live)) → record { hits = hits; total = total } ≡ hit_page m live body
    unfolding hit_page rows_of
    front_found hits total shown_by count =
        ap (λ (hs : Seq Hit). record { hits = hs; total = total })
        (shown_by ∙ ap (filter_map (shown_at m view found trees body)) page_is ∙ shown_plain page_shown
        ∙ agree_shown (Pair m one_root view found body is_found trees stands) (shown_at m view found trees body) (hit_of m live body) (λ row own it. it.shown) page_shown own_page (shown_are m one_root view found body is_found trees stands))
        ∙ ap (λ (n : ℕ). record { hits = map (hit_of m live body) own_page; total = n }) (count ∙ sym (rows_long m live body.query body.sort (roots live)))

    pub front_reads_are : sum_by (row_reads m trees body) page ≡ page_reads (hit_page m live body)
    unfolding hit_page
    front_reads_are = ap (sum_by (row_reads m trees body)) page_is ∙ reads_plain page_shown ∙ reads_are m one_root view found body is_found trees stands page_shown own_page (shown_are m one_root view found body is_found trees stands)
