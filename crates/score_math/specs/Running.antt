-- Scores that come one by one: the sum, the count, the least and the greatest that are kept as each comes are those of
-- the list, and they are what `combine` asks for.
use Rattle.std.specs.Prelude.{◌≡◌, ℕ, ◌+◌, ◌*◌, ◌≤◌, min, max, List, [], ◌∷◌, ◌++◌, length, sum, fold, Some, refl}
use Rattle.std.proofs.Common.{arith, length-append, suc-mul, ap, sym}
use Rattle.std.proofs.lemmas.List.Sums.{fold-append, sum_by-append, sum_by-cons}
use Rattle.score_math.specs.Scores.{least_of, greatest_of, Summarizes}

-- the first score
pub summary_of_one : (s : ℕ) → Summarizes (s ∷ []) s 1 s s
summary_of_one s = record { total_is = grind arith; count_is = refl; least_is = refl; greatest_is = refl }

least_of_more : (scores : List ℕ) (least s : ℕ) → least_of scores ≡ Some least → least_of (scores ++ s ∷ []) ≡ Some (min least s)
least_of_more [] least s e = cc
least_of_more (x ∷ xs) least s e =
    let is : fold min x xs ≡ least = cc in rw (fold-append min x xs (s ∷ [])) (ap (λ n. Some (min n s)) is)

greatest_of_more : (scores : List ℕ) (greatest s : ℕ) → greatest_of scores ≡ Some greatest → greatest_of (scores ++ s ∷ []) ≡ Some (max greatest s)
greatest_of_more [] greatest s e = cc
greatest_of_more (x ∷ xs) greatest s e =
    let is : fold max x xs ≡ greatest = cc in rw (fold-append max x xs (s ∷ [])) (ap (λ n. Some (max n s)) is)

-- one score more
pub summary_of_more : (scores : List ℕ) (total count least greatest s : ℕ) → Summarizes scores total count least greatest → Summarizes (scores ++ s ∷ []) (total + s) (count + 1) (min least s) (max greatest s)
summary_of_more scores total count least greatest s h =
    record {
      total_is = omega (arith, sum_by-append (λ x. x) scores (s ∷ []));
      count_is = omega (arith, length-append scores (s ∷ []));
      least_is = least_of_more scores least s h.least_is;
      greatest_is = greatest_of_more scores greatest s h.greatest_is;
    }

-- the greatest is no less than the score that it began with
max_above : (a : ℕ) (xs : List ℕ) → a ≤ fold max a xs
max_above a [] = omega arith
max_above a (x ∷ xs) = omega (arith, max_above (max a x) xs)

-- no score is more than the greatest, so no sum is more than that many of it
sum_under : (a m : ℕ) (xs : List ℕ) → fold max a xs ≤ m → sum xs ≤ length xs * m
sum_under a m [] h = omega arith
sum_under a m (x ∷ xs) h =
    rw (suc-mul (length xs) m) (omega (arith, sum_by-cons (λ x. x) x xs, max_above (max a x) xs, sum_under (max a x) m xs h))

-- what `combine` asks of its sum
pub total_is_bounded : (scores : List ℕ) (total count least greatest : ℕ) → Summarizes scores total count least greatest → total ≤ count * greatest
total_is_bounded [] total count least greatest h = omega arith
total_is_bounded (x ∷ xs) total count least greatest h =
    let most : fold max x xs ≡ greatest = cc in
    let rest : sum xs ≤ length xs * greatest = sum_under x greatest xs (omega arith) in
    let all : sum (x ∷ xs) ≤ length (x ∷ xs) * greatest =
    rw (suc-mul (length xs) greatest) (omega (arith, sum_by-cons (λ x. x) x xs, max_above x xs)) in
    rw (sym h.total_is, sym h.count_is) all
