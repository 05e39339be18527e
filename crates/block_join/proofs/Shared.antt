-- Documents that share one score: some of them together have one, whichever they are.
use Rattle.std.proofs.Common.{◌≡◌, ℕ, zero, suc, ◌*◌, ◌/◌, ◌<◌, ◌≤◌, min, max, List, ◌∷◌, length, map, replicate, Option, Some, is_some, refl, ap, ap₂, ◌∙◌, arith, suc-mul}
use Rattle.std.specs.Prelude.{sum, fold}
use Rattle.std.proofs.lemmas.List.{length-replicate}
use Rattle.std.proofs.lemmas.List.Sums.{sum_by-cons}
use Rattle.std.proofs.lemmas.Nat.{le-div, div_below}
use Rattle.score_math.specs.declared.score.ScoreMode.TheVariants.{Avg, Max, Min, Zero}
use Rattle.block_join.specs.Kept.{AreAlike}
use Rattle.block_join.specs.Scores.{filled}

sum_alike : (n score : ℕ) → sum (replicate n score) ≡ n * score
sum_alike zero score = omega arith
sum_alike (suc n) score = omega (arith, suc-mul n score, sum_alike n score, sum_by-cons (λ x. x) score (replicate n score))

max_alike : (n score : ℕ) → fold max score (replicate n score) ≡ score
max_alike zero score = refl
max_alike (suc n) score = let same : max score score ≡ score = omega arith in ap (λ m. fold max m (replicate n score)) same ∙ max_alike n score

min_alike : (n score : ℕ) → fold min score (replicate n score) ≡ score
min_alike zero score = refl
min_alike (suc n) score = let same : min score score ≡ score = omega arith in ap (λ m. fold min m (replicate n score)) same ∙ min_alike n score

mean_alike : (n score : ℕ) → (suc n * score) / suc n ≡ score
mean_alike n score =
    let enough : score ≤ (suc n * score) / suc n = le-div score (suc n * score) (suc n) (omega arith) (omega arith) in
    let below : (suc n * score) / suc n < suc score = div_below (suc n * score) (suc n) (suc score) (omega arith) (omega (arith, suc-mul n score, suc-mul n (suc score))) in
    omega (arith, enough, below)

-- ---- the mode of equal scores

module _ (scores : List (Option ℕ)) (own : ℕ) (are : scores ≡ filled (Some own) (map is_some scores)) where
  pub alike_avg : AreAlike Avg scores own
  alike_avg = record {
    own = own;
    are = are;
    together = λ n.
        let total : sum (own ∷ replicate n own) ≡ suc n * own = sum_alike (suc n) own in
        let long : length (own ∷ replicate n own) ≡ suc n = length-replicate (suc n) own in
        ap Some (ap₂ (λ a b. a / b) total long ∙ mean_alike n own);
  }

  pub alike_max : AreAlike Max scores own
  alike_max = record { own = own; are = are; together = λ n. ap Some (max_alike n own) }

  pub alike_min : AreAlike Min scores own
  alike_min = record { own = own; are = are; together = λ n. ap Some (min_alike n own) }

  pub alike_zero : AreAlike Zero scores 0
  alike_zero = record { own = own; are = are; together = λ n. refl }
