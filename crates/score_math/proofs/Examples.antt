-- Modes of scores, caps, means and clamps computed: the numbers are known beforehand, so that a wrong definition doesn't
-- check.
use Rattle.std.specs.Prelude.{◌≡◌, ◌+◌, ◌-◌, ◌^◌, pos, negsuc, [], ◌∷◌, replicate, Some, None, refl}
use Rattle.std.specs.Int.{saturate_signed, w64}
use Rattle.score_math.specs.Scores.{capped, mode_of}
use Rattle.score_math.specs.Integers.{floor_div}
use Rattle.score_math.specs.declared.score.TheConstants.{SCORE_CAP}
use Rattle.score_math.specs.declared.score.ScoreMode.TheVariants.{Avg, Max, Min, Sum, Zero}

-- ---- the scores 2 and 3 of one block

mean : mode_of Avg (2 ∷ 3 ∷ []) ≡ Some 2
mean = refl

greatest : mode_of Max (2 ∷ 3 ∷ []) ≡ Some 3
greatest = refl

least : mode_of Min (2 ∷ 3 ∷ []) ≡ Some 2
least = refl

total : mode_of Sum (2 ∷ 3 ∷ []) ≡ Some 5
total = refl

nothing_counts : mode_of Zero (2 ∷ 3 ∷ []) ≡ Some 0
nothing_counts = refl

no_hit : mode_of Sum [] ≡ None
no_hit = refl

-- ---- sums below the cap and past it

a_hundred_below_the_cap : mode_of Sum (replicate 100 10_000_000_000_000_000) ≡ Some 1_000_000_000_000_000_000
a_hundred_below_the_cap = refl

a_hundred_past_the_cap : mode_of Sum (replicate 100 1_000_000_000_000_000_000) ≡ Some 9_223_372_036_854_775_807
a_hundred_past_the_cap = refl

two_and_three : capped (2 + 3) ≡ 5
two_and_three = refl

up_to_the_cap : capped (9_223_372_036_854_775_806 + 1) ≡ SCORE_CAP
up_to_the_cap = refl

one_past_the_cap : capped (9_223_372_036_854_775_807 + 1) ≡ SCORE_CAP
one_past_the_cap = refl

far_past_the_cap : capped ((2 ^ 64 - 1) + (2 ^ 64 - 1)) ≡ 9_223_372_036_854_775_807
far_past_the_cap = refl

-- ---- means towards minus infinity; `negsuc a` is -(a + 1)

five_over_two : floor_div (pos 5) 2 ≡ pos 2
five_over_two = refl

minus_five_over_two : floor_div (negsuc 4) 2 ≡ negsuc 2
minus_five_over_two = refl

minus_four_over_two : floor_div (negsuc 3) 2 ≡ negsuc 1
minus_four_over_two = refl

minus_one_over_three : floor_div (negsuc 0) 3 ≡ negsuc 0
minus_one_over_three = refl

zero_over_seven : floor_div (pos 0) 7 ≡ pos 0
zero_over_seven = refl

-- ---- the nearest number of 64 bits

within : saturate_signed w64 (negsuc 6) ≡ negsuc 6
within = refl

last_number : saturate_signed w64 (pos 9_223_372_036_854_775_807) ≡ pos 9_223_372_036_854_775_807
last_number = refl

one_above : saturate_signed w64 (pos 9_223_372_036_854_775_808) ≡ pos 9_223_372_036_854_775_807
one_above = refl

first_number : saturate_signed w64 (negsuc 9_223_372_036_854_775_807) ≡ negsuc 9_223_372_036_854_775_807
first_number = refl

one_below : saturate_signed w64 (negsuc 9_223_372_036_854_775_808) ≡ negsuc 9_223_372_036_854_775_807
one_below = refl

far_above : saturate_signed w64 (pos (2 ^ 127 - 1)) ≡ pos 9_223_372_036_854_775_807
far_above = refl
