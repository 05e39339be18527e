-- The number, the sum, the least, the greatest and the first of some scores.
use Rattle.std.specs.Prelude.{◌≡◌, ℕ, List, [], ◌∷◌}
use Rattle.score_math.specs.Scores.{Summarizes}

-- of no scores there is only their number
abbrev pub IsTally : List ℕ → ℕ → ℕ → ℕ → ℕ → ℕ → Type 0
IsTally [] count total least greatest first = count ≡ 0
IsTally (s ∷ scores) count total least greatest first = Summarizes (s ∷ scores) total count least greatest × (first ≡ s)
