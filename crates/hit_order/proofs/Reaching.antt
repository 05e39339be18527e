-- Rows whose first keys are out of reach don't matter to a page.
use Rattle.std.specs.Prelude.{◌≡◌, ℕ, ◌+◌, ◌≤◌, ℤ, pos, Bool, true, false, not, cond, List, [], ◌∷◌, take, drop, filter, map, Option, Some, None, option_map, refl}
use Rattle.std.specs.Cmp.{IsStrictWeakOrder}
use Rattle.std.specs.List.{count_by}
use Rattle.std.specs.Ordering.{int_cmp, is_lt, ordering_then}
use Rattle.std.specs.declared.cmp.Ordering.{Ordering}
use Rattle.std.specs.declared.cmp.Ordering.TheVariants.{Less, Equal, Greater}
use Rattle.std.proofs.Common.{arith, ap, sym, subst, ◌∙◌}
use Rattle.std.proofs.lemmas.Bool.{true≢false, false≢true}
use Rattle.std.proofs.lemmas.List.Sums.{sum_by-cons}
use Rattle.query_ast.specs.Compare.{in_order}
use Rattle.query_ast.specs.Page.{comes_after, comes_before, key_cmp, keys_cmp, later_keys, page_of}
use Rattle.query_ast.specs.declared.sort.Direction.{Direction}
use Rattle.query_ast.specs.declared.sort.Key.{Key}
use Rattle.query_ast.specs.declared.sort.KeyRow.{KeyRow}
use Rattle.hit_order.specs.Reach.{IsWide, first_of_row, is_late, is_near, is_next, is_within, key_before}
use Rattle.hit_order.specs.Table.{keys_of_row, number_of_row}
use Rattle.hit_order.proofs.Selecting.{split, GoesUp}
use Rattle.hit_order.proofs.Parting.{left_out, page_of_near}

-- ---- keys stand in one order

pub key_order : (d : Direction) → ((keys : Key → List Key) (number : Key → ℤ) (ds : List Direction) → IsStrictWeakOrder (comes_before keys number ds)) → IsStrictWeakOrder (key_before d)
key_order d law =
    let o = law (λ k. k ∷ []) (λ k. pos 0) (d ∷ []) in
    record {
      one_way = λ x y before. sym (same (key_cmp d y x)) ∙ o.one_way x y (same (key_cmp d x y) ∙ before);
      chain = λ x y z one other. sym (same (key_cmp d x z)) ∙ o.chain x y z (same (key_cmp d x y) ∙ one) (same (key_cmp d y z) ∙ other);
    }
  where
    same : (c : Ordering) → is_lt (ordering_then (ordering_then c Equal) (int_cmp (pos 0) (pos 0))) ≡ is_lt c
    same Less = refl
    same Equal = refl
    same Greater = refl

pub isnt : (t : Bool) → not t ≡ true → t ≡ false
isnt true is = absurd (false≢true is)
isnt false is = refl

-- ---- rows by their first keys

module _ (d : Direction) (ds : List Direction) (o : IsStrictWeakOrder (comes_before keys_of_row number_of_row (d ∷ ds))) (ko : IsStrictWeakOrder (key_before d)) where
  abbrev before : KeyRow → KeyRow → Bool
  before = comes_before keys_of_row number_of_row (d ∷ ds)

  decides : (x y : KeyRow) → key_before d (first_of_row x) (first_of_row y) ≡ true → before x y ≡ true
  decides x y first = by (key_cmp d (first_of_row x) (first_of_row y)) (keys_cmp ds (later_keys x.keys) (later_keys y.keys)) (int_cmp x.number y.number) first
    where
      by : (c rest last : Ordering) → is_lt c ≡ true → is_lt (ordering_then (ordering_then c rest) last) ≡ true
      by Less rest last is = refl
      by Equal rest last is = absurd (false≢true is)
      by Greater rest last is = absurd (false≢true is)

  not_before : (x y : KeyRow) → before x y ≡ false → key_before d (first_of_row x) (first_of_row y) ≡ false
  not_before x y behind = split (key_before d (first_of_row x) (first_of_row y)) (λ yes. absurd (true≢false (sym (decides x y yes) ∙ behind))) (λ no. no)

  near_down : (bound : Option Key) (x y : KeyRow) → before x y ≡ false → is_near d bound (first_of_row x) ≡ true → is_near d bound (first_of_row y) ≡ true
  near_down None x y behind near = refl
  near_down (Some b) x y behind near =
      ap not (ko.chain b (first_of_row x) (first_of_row y) (isnt (key_before d b (first_of_row x)) near) (not_before x y behind))

  late_up : (after : Option Key) → GoesUp before (λ row. is_late d after (first_of_row row))
  late_up None x y behind late = refl
  late_up (Some a) x y behind late =
      ap not (ko.chain (first_of_row y) (first_of_row x) a (not_before y x behind) (isnt (key_before d (first_of_row x) a) late))

  passes_up : (after : Option KeyRow) → GoesUp before (comes_after keys_of_row number_of_row (d ∷ ds) after)
  passes_up None x y behind passes = refl
  passes_up (Some row) x y behind passes = split (before row y) (λ yes. yes) (λ no. absurd (true≢false (sym passes ∙ o.chain row y x no behind)))

  passes_late : (after : Option KeyRow) (x : KeyRow) → comes_after keys_of_row number_of_row (d ∷ ds) after x ≡ true → is_late d (option_map first_of_row after) (first_of_row x) ≡ true
  passes_late None x passes = refl
  passes_late (Some row) x passes = ap not (not_before x row (o.one_way row x passes))

  next_passes : (after : Option KeyRow) (x : KeyRow) → is_next d (option_map first_of_row after) (first_of_row x) ≡ true → comes_after keys_of_row number_of_row (d ∷ ds) after x ≡ true
  next_passes None x next = refl
  next_passes (Some row) x next = decides row x next

  all_near : (xs : List KeyRow) → filter (λ (x : KeyRow). true) xs ≡ xs
  all_near [] = refl
  all_near (x ∷ xs) = ap (λ ys. x ∷ ys) (all_near xs)

  count_first : (test : Key → Bool) (rows : List KeyRow) → count_by test (map first_of_row rows) ≡ count_by (λ row. test (first_of_row row)) rows
  count_first test [] = refl
  count_first test (row ∷ rows) =
      let first = sum_by-cons (λ key. cond (test key) 1 0) (first_of_row row) (map first_of_row rows) in
      let own = sum_by-cons (λ row. cond (test (first_of_row row)) 1 0) row rows in
      omega (arith, first, own, count_first test rows)

  pub page_within : (after : Option KeyRow) (bound : Option Key) (most from size : ℕ) (rows : List KeyRow) → IsWide most d (option_map first_of_row after) bound (map first_of_row rows) → from + size ≤ most
      → page_of keys_of_row number_of_row (d ∷ ds) after from size (filter (λ row. is_within d (option_map first_of_row after) bound (first_of_row row)) rows) ≡ page_of keys_of_row number_of_row (d ∷ ds) after from size rows
  unfolding page_of
  page_within after None most from size rows wide within =
      let passes = comes_after keys_of_row number_of_row (d ∷ ds) after in
      ap (λ (xs : List KeyRow). take size (drop from xs))
      (left_out (λ x. true) before o (λ x y behind near. refl) passes (λ row. is_late d (option_map first_of_row after) (first_of_row row)) (λ row. is_next d (option_map first_of_row after) (first_of_row row))
      (passes_up after) (late_up (option_map first_of_row after)) (passes_late after) (next_passes after) rows
      ∙ all_near (filter passes (in_order before rows)))
  page_within after (Some b) most from size rows wide within =
      page_of_near (λ row. is_near d (Some b) (first_of_row row)) before o (near_down (Some b))
      (comes_after keys_of_row number_of_row (d ∷ ds) after) (λ row. is_late d (option_map first_of_row after) (first_of_row row)) (λ row. is_next d (option_map first_of_row after) (first_of_row row))
      (passes_up after) (late_up (option_map first_of_row after)) (passes_late after) (next_passes after) most from size rows
      (subst (λ n. most ≤ n) (count_first (λ key. cond (is_next d (option_map first_of_row after) key) (is_near d (Some b) key) false) rows) wide) within
