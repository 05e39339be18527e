-- Rows that are sorted by their counts are the rows in order.
use Rattle.std.proofs.Common.{◌≡◌, ℕ, ◌+◌, ℤ, pos, Bool, true, false, cond, nat_lt, List, [], ◌∷◌, get_or, refl, sym, ap, ◌∙◌, eqb}
use Rattle.std.specs.Cmp.{IsStrictWeakOrder}
use Rattle.std.specs.List.Sorted.{IsSortedBy, IsStableBy, ties}
use Rattle.std.specs.Ordering.{int_cmp, is_lt, nat_cmp, ordering_then}
use Rattle.std.specs.declared.cmp.Ordering.{Ordering}
use Rattle.std.specs.declared.cmp.Ordering.TheVariants.{Less, Equal, Greater}
use Rattle.std.proofs.lemmas.Cmp.{nat_cmp_total}
use Rattle.std.proofs.lemmas.List.MinMax.{IsStrictWeakOrder-flip, ranks_by}
use Rattle.query_ast.specs.Compare.{in_order, placed}
use Rattle.query_ast.specs.Page.{comes_before}
use Rattle.query_ast.specs.declared.sort.Direction.{Direction}
use Rattle.query_ast.specs.declared.sort.Key.{Key}
use Rattle.query_ast.specs.declared.sort.Key.TheVariants.{Number as NumberKey}
use Rattle.bucket_aggs.specs.Counts.{row_first}
use Rattle.bucket_aggs.specs.declared.rows.CountRow.{CountRow}
use Rattle.query_ast.proofs.Elements.{by_test}
use Rattle.bucket_aggs.proofs.Lists.{filter_same}

abbrev Rows : Type 0
Rows = List CountRow

-- ---- two tests that agree

module _ (one other : CountRow → CountRow → Bool) (same : (a b : CountRow) → one a b ≡ other a b) where
  sorted_as : (rows : Rows) → IsSortedBy one rows → IsSortedBy other rows
  sorted_as rows up = λ k d from to. sym (same (get_or rows (k + 1) d) (get_or rows k d)) ∙ up k d from to

  ties_as : (a b : CountRow) → ties one a b ≡ ties other a b
  ties_as a b = rw (same a b, same b a) refl

  stable_as : (xs ys : Rows) → IsStableBy one xs ys → IsStableBy other xs ys
  stable_as xs ys keeps = λ x. sym (filter_same (ties one x) (ties other x) (ties_as x) ys) ∙ keeps x ∙ filter_same (ties one x) (ties other x) (ties_as x) xs

  placed_as : (row : CountRow) (rows : Rows) → placed one row rows ≡ placed other row rows
  placed_as row [] = refl
  placed_as row (first ∷ rows) =
      ap (λ (b : Bool). cond b (first ∷ placed one row rows) (row ∷ first ∷ rows)) (same first row)
      ∙ ap (λ (l : Rows). cond (other first row) (first ∷ l) (row ∷ first ∷ rows)) (placed_as row rows)

  order_as : (rows : Rows) → in_order one rows ≡ in_order other rows
  order_as [] = refl
  order_as (row ∷ rows) = placed_as row (in_order one rows) ∙ ap (placed other row) (order_as rows)

-- ---- counts as the keys of rows

abbrev pub count_keys : CountRow → List Key
count_keys row = NumberKey (pos row.count) ∷ []

abbrev pub no_number : CountRow → ℤ
no_number row = pos 0

abbrev pub towards : Bool → List Direction
towards descending = record { descending = descending; null_first = false } ∷ []

-- one comes strictly before the other by count
abbrev pub by_count : Bool → CountRow → CountRow → Bool
by_count true a b = is_lt (nat_cmp b.count a.count)
by_count false a b = is_lt (nat_cmp a.count b.count)

pub counts_rank : (descending : Bool) → IsStrictWeakOrder (by_count descending)
counts_rank true = IsStrictWeakOrder-flip (λ a b. is_lt (nat_cmp a.count b.count)) (ranks_by nat_cmp_total (λ (row : CountRow). row.count))
counts_rank false = ranks_by nat_cmp_total (λ (row : CountRow). row.count)

lt_is : (x y : ℕ) → is_lt (nat_cmp x y) ≡ nat_lt x y
lt_is x y = by_test (nat_lt x y) (λ held. rw held refl) (λ failed. rw failed (not_less (eqb x y)))
  where
    not_less : (b : Bool) → is_lt (cond b Equal Greater) ≡ false
    not_less true = refl
    not_less false = refl

count_first : (descending : Bool) (a b : CountRow) → by_count descending a b ≡ row_first descending a b
count_first true a b = lt_is b.count a.count
count_first false a b = lt_is a.count b.count

only_first : (x y : ℕ) → is_lt (int_cmp (pos x) (pos y)) ≡ is_lt (nat_cmp x y)
only_first x y = by_test (nat_lt x y) (λ held. rw held refl) (λ failed. rw failed (none (nat_lt y x) (eqb x y)))
  where
    none : (b c : Bool) → is_lt (cond b Greater Equal) ≡ is_lt (cond c Equal Greater)
    none true true = refl
    none true false = refl
    none false true = refl
    none false false = refl

end_less : (o : Ordering) → is_lt o ≡ is_lt (ordering_then (ordering_then o Equal) Equal)
end_less Less = refl
end_less Equal = refl
end_less Greater = refl

count_comes : (descending : Bool) (a b : CountRow) → by_count descending a b ≡ comes_before count_keys no_number (towards descending) a b
count_comes true a b = sym (only_first b.count a.count) ∙ end_less (int_cmp (pos b.count) (pos a.count))
count_comes false a b = sym (only_first a.count b.count) ∙ end_less (int_cmp (pos a.count) (pos b.count))

-- ---- what a stable sort gives

abbrev pub OneOrder : Type 0
OneOrder = (keys : CountRow → List Key) (number : CountRow → ℤ) (directions : List Direction) (rows sorted : Rows) → IsSortedBy (comes_before keys number directions) sorted → IsStableBy (comes_before keys number directions) rows sorted
    → sorted ≡ in_order (comes_before keys number directions) rows

pub sorted_is : OneOrder → (descending : Bool) (rows sorted : Rows) → IsSortedBy (by_count descending) sorted → IsStableBy (by_count descending) rows sorted → sorted ≡ in_order (row_first descending) rows
sorted_is only descending rows sorted up keeps =
    only count_keys no_number (towards descending) rows sorted
    (sorted_as (by_count descending) (comes_before count_keys no_number (towards descending)) (count_comes descending) sorted up)
    (stable_as (by_count descending) (comes_before count_keys no_number (towards descending)) (count_comes descending) rows sorted keeps)
    ∙ sym (order_as (by_count descending) (comes_before count_keys no_number (towards descending)) (count_comes descending) rows)
    ∙ order_as (by_count descending) (row_first descending) (count_first descending) rows
