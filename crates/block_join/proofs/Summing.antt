-- The mode of scores that are read one by one.
use Rattle.std.proofs.Common.{◌≡◌, ℕ, ◌+◌, ◌*◌, ◌<◌, ◌≤◌, min, max, List, [], ◌∷◌, ◌++◌, sym, ap, ◌∙◌, arith, append_assoc, append-nil}
use Rattle.score_math.specs.declared.score.TheConstants.{SCORE_CAP}
use Rattle.score_math.specs.Scores.{Summarizes}
use Rattle.score_math.specs.Running.{summary_of_one, summary_of_more, total_is_bounded}
use Rattle.block_join.specs.Scores.{Standing, between}

pub record Summing (start now : Standing) (end total count least greatest : ℕ) : Type 0 where
  pub done : List ℕ
  pub summary : Summarizes done total count least greatest
  pub scores : now.scores ≡ start.scores
  pub reads : between start.scores start.from end ≡ done ++ between now.scores now.from end
  pub some : 1 ≤ count
  pub counted : count + start.from ≤ now.from
  pub within : now.from ≤ end
  pub small : total ≤ count * SCORE_CAP
  pub least_capped : least ≤ SCORE_CAP
  pub greatest_capped : greatest ≤ SCORE_CAP

pub summing_one : (start now : Standing) (end score : ℕ) → now.scores ≡ start.scores → between start.scores start.from end ≡ score ∷ between now.scores now.from end
    → score ≤ SCORE_CAP → start.from < now.from → now.from ≤ end → Summing start now end score 1 score score
summing_one start now end score same reads capped later within = record {
  done = score ∷ [];
  summary = summary_of_one score;
  scores = same;
  reads = reads;
  some = omega arith;
  counted = omega arith;
  within = within;
  small = omega (arith, capped);
  least_capped = capped;
  greatest_capped = capped;
}

pub summing_more : (start old now : Standing) (end total count least greatest score : ℕ) → Summing start old end total count least greatest → now.scores ≡ old.scores
    → between old.scores old.from end ≡ score ∷ between now.scores now.from end → score ≤ SCORE_CAP → old.from < now.from → now.from ≤ end
    → Summing start now end (total + score) (count + 1) (min least score) (max greatest score)
summing_more start old now end total count least greatest score it same reads capped later within = record {
  done = it.done ++ (score ∷ []);
  summary = summary_of_more it.done total count least greatest score it.summary;
  scores = same ∙ it.scores;
  reads = it.reads ∙ ap (λ ss. it.done ++ ss) reads ∙ sym (append_assoc it.done (score ∷ []) (between now.scores now.from end));
  some = omega arith;
  counted = omega (arith, it.counted);
  within = within;
  small = omega (arith, it.small, capped);
  least_capped = omega (arith, it.least_capped);
  greatest_capped = omega (arith, it.greatest_capped, capped);
}

pub summing_ends : (start old : Standing) (end total count least greatest : ℕ) → Summing start old end total count least greatest → between old.scores old.from end ≡ []
    → Summarizes (between start.scores start.from end) total count least greatest
summing_ends start old end total count least greatest it none =
    let all : between start.scores start.from end ≡ it.done = it.reads ∙ ap (λ ss. it.done ++ ss) none ∙ append-nil it.done in
    rw all it.summary

pub summing_bounded : (start old : Standing) (end total count least greatest : ℕ) → Summing start old end total count least greatest → total ≤ count * greatest
summing_bounded start old end total count least greatest it = total_is_bounded it.done total count least greatest it.summary
