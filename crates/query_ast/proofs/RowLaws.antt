-- What the order of rows and their pages keep.
use Rattle.std.specs.Prelude.{◌≡◌, ◌≢◌, ℕ, suc, ◌+◌, ℤ, true, false, List, [], ◌∷◌, ◌++◌, take, drop, get_or, AllPairs, Option, Some, None, refl}
use Rattle.std.specs.Cmp.{IsStrictWeakOrder, signed_Decides}
use Rattle.std.specs.Ordering.{is_lt, is_eq, int_cmp, ordering_then, ordering_reverse}
use Rattle.std.specs.declared.cmp.Ordering.{Ordering}
use Rattle.std.specs.declared.cmp.Ordering.TheVariants.{Less, Equal, Greater}
use Rattle.std.proofs.Common.{arith, ap, sym, ◌∙◌}
use Rattle.std.proofs.lemmas.Bool.{true≢false}
use Rattle.std.proofs.lemmas.List.Elements.{recursion_from_All}
use Rattle.std.proofs.lemmas.List.Sorted.{ranks_by}
use Rattle.query_ast.specs.Compare.{in_order}
use Rattle.query_ast.specs.Page.{place_cmp, keys_cmp, comes_before, comes_after, after_row, page_of}
use Rattle.query_ast.specs.declared.sort.Direction.{Direction}
use Rattle.query_ast.specs.declared.sort.Key.{Key}
use Rattle.query_ast.specs.declared.sort.KeyRow.{KeyRow}
use Rattle.query_ast.proofs.Orders.{places_total, rows_rank}
use Rattle.query_ast.proofs.Sorting.{split, in_order_rises}
use Rattle.query_ast.proofs.Paging as paging

places_rank : (ds : List Direction) → IsStrictWeakOrder (λ (a b : List Key × ℤ). is_lt (place_cmp ds a b))
places_rank ds = ranks_by (places_total ds) (λ (a : List Key × ℤ). a)

later_equal : (p q : Ordering) → ordering_then p q ≡ Equal → q ≡ Equal
later_equal Less q e = cc
later_equal Equal q e = e
later_equal Greater q e = cc

parted_by : (ds : List Direction) (a b : List Key × ℤ) → a.1 ≢ b.1 → (o : Ordering) → place_cmp ds a b ≡ o → is_lt (place_cmp ds b a) ≡ false → is_lt o ≡ true
parted_by ds a b apart Less e back = refl
parted_by ds a b apart Equal e back =
    absurd (apart ((signed_Decides a.1 b.1).0 (ap is_eq (later_equal (keys_cmp ds a.0 b.0) (int_cmp a.1 b.1) e))))
parted_by ds a b apart Greater e back =
    absurd (true≢false (sym (ap is_lt ((places_total ds).antisymm b a ∙ ap ordering_reverse e)) ∙ back))

module _ {A : Type 0} (keys : A → List Key) (number : A → ℤ) (ds : List Direction) where
  -- what stands behind a row that comes after another comes after it too
  after_goes_on : (after : Option KeyRow) (x y : A) → comes_before keys number ds y x ≡ false → comes_after keys number ds after x ≡ true → comes_after keys number ds after y ≡ true
  after_goes_on None x y behind passes = refl
  after_goes_on (Some row) x y behind passes =
      split (is_lt (place_cmp ds (row.keys, row.number) (keys y, number y)))
      (λ yes. yes)
      (λ no. absurd (true≢false (sym passes ∙ (places_rank ds).chain (row.keys, row.number) (keys y, number y) (keys x, number x) no behind)))

  pub part : (after : Option KeyRow) (from size : ℕ) (rows : List A) → (skipped : ℕ) × (page_of keys number ds after from size rows ≡ take size (drop (skipped + from) (in_order (comes_before keys number ds) rows)))
  unfolding page_of
  part after from size rows =
      let lt = comes_before keys number ds in
      let all = in_order lt rows in
      let o = rows_rank keys number ds in
      paging.page_is_part (comes_after keys number ds after) all
      (paging.after_climbs o (comes_after keys number ds after) (after_goes_on after) all (in_order_rises o rows)) from size

  apart : (x y : A) → number x ≢ number y → paging.Parted (comes_before keys number ds) x y
  apart x y differ back = parted_by ds (keys x, number x) (keys y, number y) differ (place_cmp ds (keys x, number x) (keys y, number y)) refl back

  are_parted : (rows : List A) → AllPairs (λ a b. number a ≢ number b) rows → paging.AreParted (comes_before keys number ds) rows
  are_parted [] h = tt
  are_parted (x ∷ xs) h = (
    recursion_from_All (paging.Parted (comes_before keys number ds) x) xs (λ k d to. apart x (get_or xs k d) (h 0 (suc k) d (omega arith) (omega arith))),
    are_parted xs (λ i j d before to. h (suc i) (suc j) d (omega arith) (omega arith)),
  )

  pub meet : (after : Option KeyRow) (from size more : ℕ) (rows front : List A) (last : A) → AllPairs (λ a b. number a ≢ number b) rows → page_of keys number ds after from size rows ≡ front ++ (last ∷ []) → page_of keys number ds after from size rows ++ page_of keys number ds (Some (after_row keys number last)) 0 more rows ≡ page_of keys number ds after from (size + more) rows
  unfolding page_of
  meet after from size more rows front last differ page =
      let o = rows_rank keys number ds in
      paging.pages_meet o (comes_after keys number ds after) (after_goes_on after) (in_order (comes_before keys number ds) rows)
      (paging.in_order_ascends o rows (are_parted rows differ)) from size more front last page
