-- Scores are whole numbers from 0 to the cap. An object that contains several hits, such as the root of a block of
-- nested objects, takes one score for all of them: the mode of their scores.
use Rattle.std.specs.Prelude.{◌≡◌, ℕ, ◌/◌, min, max, List, [], ◌∷◌, length, sum, fold, Option, Some, None}
use Rattle.score_math.specs.declared.score.TheConstants.{SCORE_CAP}
use Rattle.score_math.specs.declared.score.ScoreMode.{ScoreMode}
use Rattle.score_math.specs.declared.score.ScoreMode.TheVariants.{Avg, Max, Min, Sum, Zero}

-- A score that would pass the cap stays at the cap.
abbrev pub capped : ℕ → ℕ
capped n = min n SCORE_CAP

-- The least of some scores; of no scores there is none.
abbrev pub least_of : List ℕ → Option ℕ
least_of [] = None
least_of (s ∷ ss) = Some (fold min s ss)

-- The greatest of some scores; of no scores there is none.
abbrev pub greatest_of : List ℕ → Option ℕ
greatest_of [] = None
greatest_of (s ∷ ss) = Some (fold max s ss)

-- The mode of a list of scores: their mean rounded down, their greatest, their least, their capped sum, or 0.
-- Where nothing hit there is no score.
abbrev pub mode_of : ScoreMode → List ℕ → Option ℕ
mode_of mode [] = None
mode_of Avg (s ∷ ss) = Some (sum (s ∷ ss) / length (s ∷ ss))
mode_of Max (s ∷ ss) = greatest_of (s ∷ ss)
mode_of Min (s ∷ ss) = least_of (s ∷ ss)
mode_of Sum (s ∷ ss) = Some (capped (sum (s ∷ ss)))
mode_of Zero (s ∷ ss) = Some 0

-- These four numbers are the sum, the count, the least and the greatest of the scores.
pub record Summarizes (scores : List ℕ) (total count least greatest : ℕ) : Type 0 where
  pub total_is : sum scores ≡ total
  pub count_is : length scores ≡ count
  pub least_is : least_of scores ≡ Some least
  pub greatest_is : greatest_of scores ≡ Some greatest
