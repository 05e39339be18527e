-- The last document of a column is its greatest.
use Rattle.std.proofs.Common.{◌≡◌, ◌↔◌, ℕ, ◌-◌, ◌<◌, IsTrue, List, [], length, get_or, ap, inl, inr, arith}
use Rattle.std.specs.Prelude.{nat_lt}
use Rattle.std.specs.List.Sorted.{IsStrictlyIncreasing}
use Rattle.std.proofs.lemmas.Bool.{cases_lt}
use Rattle.std.proofs.lemmas.Bool.Decides.{nat_tests}
use Rattle.std.proofs.lemmas.List.{length-map, get_or-map}
use Rattle.std.proofs.lemmas.Map.Keys.{sorted_from_strictly_increasing, below_from_sorted}
use Rattle.doc_values.specs.Values.{documents}
use Rattle.segment_parts.specs.Agree.{AreWithin}

lt_true : (a b : ℕ) → a < b → IsTrue (nat_lt a b)
lt_true a b less = grind (arith, nat_tests)

true_lt : (a b : ℕ) → IsTrue (nat_lt a b) → a < b
true_lt a b holds = grind (arith, nat_tests)

pub last_within : {X : Type 0} (rows : List (ℕ × List X)) (n count doc : ℕ) → IsStrictlyIncreasing (documents rows) → n ≡ length rows → (n ≡ 0 → ⊥) → doc ≡ get_or (documents rows) (n - 1) 0 → IsTrue (nat_lt doc count) ↔ AreWithin count rows
last_within {X} rows n count doc ascend long some is =
    let first : ℕ × List X → ℕ = λ row. row.0 in
    let size : length (documents rows) ≡ length rows = length-map rows first in (
      λ holds k d below.
          let less : doc < count = true_lt doc count holds in
          let here : get_or (documents rows) k 0 ≡ (get_or rows k d).0 = get_or-map first rows k d 0 below in
          elim (cases_lt k (n - 1)) [
            | inl early ↦
                let rise : get_or (documents rows) k 0 < get_or (documents rows) (n - 1) 0 = below_from_sorted (documents rows) k (n - 1) 0 (sorted_from_strictly_increasing (documents rows) ascend) early (omega (arith, size, long, some)) in
                omega (arith, rise, here, is, less)
            | inr last ↦
                let same : k ≡ n - 1 = omega (arith, last, below, long, some) in
                let there : get_or (documents rows) k 0 ≡ get_or (documents rows) (n - 1) 0 = ap (λ i. get_or (documents rows) i 0) same in
                omega (arith, there, here, is, less)
          ],
      λ all.
          let row : ℕ × List X = get_or rows (n - 1) (0, []) in
          let inside : n - 1 < length rows = omega (arith, long, some) in
          let here : get_or (documents rows) (n - 1) 0 ≡ (get_or rows (n - 1) (0, [])).0 = get_or-map first rows (n - 1) (0, []) 0 inside in
          lt_true doc count (omega (arith, all (n - 1) (0, []) inside, here, is)),
    )
