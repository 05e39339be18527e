-- What a key weighs in rows that ascend, by what a search by halves says.
use Rattle.std.proofs.Common.{◌≡◌, ℕ, zero, suc, ◌+◌, ◌<◌, Bool, false, [], ◌∷◌, length, get_or, sym, ap, ◌∙◌, arith}
use Rattle.std.specs.List.Sorted.{IsNonDecreasingBy, IsPartitionPoint, IsSortedBy}
use Rattle.std.specs.Ordering.{is_eq, ordering_index}
use Rattle.std.specs.declared.cmp.Ordering.TheVariants.{Less, Equal, Greater}
use Rattle.std.proofs.lemmas.List.Sorted.{searchable_from_sorted}
use Rattle.query_ast.specs.Compare.{is_less, is_same_value, value_cmp}
use Rattle.tree_objects.specs.declared.field_value.FieldValue.{FieldValue}
use Rattle.bucket_aggs.specs.Counts.{KeysAscend, weight}
use Rattle.bucket_aggs.specs.declared.rows.CountRow.{CountRow}
use Rattle.bucket_aggs.proofs.Groups.{counts_own, none_weighs}
use Rattle.query_ast.proofs.Keys.{less_once, same_back}
use Rattle.query_ast.proofs.Elements.{Each}
use Rattle.bucket_aggs.proofs.Lists.{each_at}
use Rattle.query_ast.proofs.Values.{value_exact, value_total}
use Rattle.bucket_aggs.proofs.Weights.{Rows}

sorted : (rows : Rows) → KeysAscend rows → IsSortedBy (λ (a : CountRow) (b : CountRow). is_less a.key b.key) rows
sorted [] up k d low high = absurd (omega (arith, high))
sorted (row ∷ []) up k d low high = absurd (omega (arith, high))
sorted (row ∷ next ∷ rows) up zero d low high = less_once value_cmp value_total value_exact row.key next.key up.0.0
sorted (row ∷ next ∷ rows) up (suc k) d low high =
    let step : suc k + 1 ≡ suc (k + 1) = omega arith in
    rw step (sorted (next ∷ rows) up.1 k d (omega arith) (omega (arith, high)))

module _ (v : FieldValue) where
  rises : (rows : Rows) → KeysAscend rows → IsNonDecreasingBy (λ (row : CountRow). ordering_index (value_cmp row.key v)) rows
  rises rows up = searchable_from_sorted value_total (λ (row : CountRow). row.key) rows v (sorted rows up)

  other : (row : CountRow) (b : Bool) → is_eq (value_cmp row.key v) ≡ b → is_same_value v row.key ≡ b
  other row b h = same_back value_cmp value_total value_exact v row.key ∙ h

  none_between : (rows : Rows) (i : ℕ) → IsPartitionPoint (λ (row : CountRow). value_cmp row.key v ≡ Less) (λ (row : CountRow). value_cmp row.key v ≡ Greater) rows i → Each (λ (row : CountRow). is_same_value v row.key ≡ false) rows
  none_between [] i point = tt
  none_between (row ∷ rows) zero point =
      (other row false (ap is_eq (point.1 0 row (omega arith) (omega arith))), none_between rows 0 ((λ k d low less. absurd (omega (arith, less))), (λ k d low less. point.1 (suc k) d (omega arith) (omega (arith, less)))))
  none_between (row ∷ rows) (suc i) point =
      (other row false (ap is_eq (point.0 0 row (omega arith) (omega arith))), none_between rows i ((λ k d low less. point.0 (suc k) d (omega arith) (omega (arith, less))), (λ k d low less. point.1 (suc k) d (omega (arith, low)) (omega (arith, less)))))

  pub weighs_nothing : (rows : Rows) (i : ℕ) → KeysAscend rows → (IsNonDecreasingBy (λ (row : CountRow). ordering_index (value_cmp row.key v)) rows → IsPartitionPoint (λ (row : CountRow). value_cmp row.key v ≡ Less) (λ (row : CountRow). value_cmp row.key v ≡ Greater) rows i) → weight v rows ≡ 0
  weighs_nothing rows i up point = none_weighs v rows (none_between rows i (point (rises rows up)))

  pub weighs_own : (rows : Rows) (i : ℕ) (row : CountRow) → KeysAscend rows → i < length rows → value_cmp (get_or rows i row).key v ≡ Equal → weight v rows ≡ (get_or rows i row).count
  weighs_own rows i row up low same =
      ap (λ (k : FieldValue). weight k rows) (sym (value_exact (get_or rows i row).key v same))
      ∙ each_at (λ (r : CountRow). weight r.key rows ≡ r.count) rows i row (counts_own rows up) low
