-- A set that is lent: all of its documents are live.
use Rattle.std.proofs.Common.{◌≡◌, ◌+◌, ◌≤◌, Bool, true, false, cond, List, [], ◌∷◌, length, count_by, refl, ap, arith}
use Rattle.std.proofs.lemmas.List.Sums.{sum_by-cons}
use Rattle.block_bits.specs.Flags.{intersection, is_marked}

count_step : (flag : Bool) (flags : List Bool) → count_by is_marked (flag ∷ flags) ≡ cond flag 1 0 + count_by is_marked flags
count_step flag flags = sum_by-cons (λ (flag : Bool). cond flag 1 0) flag flags

meet_few : (ones others : List Bool) → count_by is_marked (intersection ones others) ≤ count_by is_marked others
meet_few [] others = omega arith
meet_few (one ∷ ones) [] = omega arith
meet_few (true ∷ ones) (other ∷ others) = omega (arith, count_step other (intersection ones others), count_step other others, meet_few ones others)
meet_few (false ∷ ones) (true ∷ others) = omega (arith, count_step false (intersection ones others), count_step true others, meet_few ones others)
meet_few (false ∷ ones) (false ∷ others) = omega (arith, count_step false (intersection ones others), count_step false others, meet_few ones others)

-- no fewer of a set are in another than there are: all of them are
pub all_meet : (ones others : List Bool) → length ones ≡ length others → count_by is_marked others ≤ count_by is_marked (intersection ones others) → intersection ones others ≡ others
all_meet [] [] long many = refl
all_meet [] (other ∷ others) long many = absurd (omega (arith, long))
all_meet (one ∷ ones) [] long many = refl
all_meet (true ∷ ones) (other ∷ others) long many =
    ap (λ (l : List Bool). other ∷ l) (all_meet ones others (omega (arith, long)) (omega (arith, many, count_step other (intersection ones others), count_step other others)))
all_meet (false ∷ ones) (true ∷ others) long many = absurd (omega (arith, many, count_step false (intersection ones others), count_step true others, meet_few ones others))
all_meet (false ∷ ones) (false ∷ others) long many =
    ap (λ (l : List Bool). false ∷ l) (all_meet ones others (omega (arith, long)) (omega (arith, many, count_step false (intersection ones others), count_step false others)))
