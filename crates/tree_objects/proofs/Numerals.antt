-- Numbers that digits write, up to the greatest of 64 bits.
use Rattle.std.proofs.Common.{◌≡◌, ℕ, zero, suc, ◌+◌, ◌*◌, ◌-◌, ◌<◌, ◌^◌, ◌∙◌, min, List, [], ◌∷◌, sym, ap, arith, length, drop, get_or, true, false}
use Rattle.std.proofs.lemmas.Bool.Decides.{nat_tests}
use Rattle.std.specs.Char.{is_ascii_digit, digit_value}
use Rattle.std.specs.List.{list_all}
use Rattle.std.specs.Str.Parse.{digits_value_after}
use Rattle.mapping_body.proofs.Walks.{split}

-- where two numbers agree up to the greatest, so do the numbers that further digits make of them
pub after_same : (ds : List ℕ) (a b : ℕ) → min a (2 ^ 64 - 1) ≡ min b (2 ^ 64 - 1)
    → min (digits_value_after 10 a ds) (2 ^ 64 - 1) ≡ min (digits_value_after 10 b ds) (2 ^ 64 - 1)
after_same [] a b e = e
after_same (d ∷ ds) a b e = after_same ds _ _ (omega arith)

digit_worth : (c : ℕ) → is_ascii_digit c ≡ true → digit_value c ≡ c - 48
digit_worth c h = grind (arith, nat_tests)

-- one digit more
pub value_step : (ds : List ℕ) (i n m : ℕ) → list_all is_ascii_digit ds ≡ true → i < length ds → min m (2 ^ 64 - 1) ≡ min (n * 10 + (get_or ds i 0 - 48)) (2 ^ 64 - 1)
    → min (digits_value_after 10 m (drop (i + 1) ds)) (2 ^ 64 - 1) ≡ min (digits_value_after 10 n (drop i ds)) (2 ^ 64 - 1)
value_step [] i n m all h e = absurd (omega arith)
value_step (d ∷ ds) zero n m all h e =
    split (is_ascii_digit d)
    (λ digit. after_same ds m (n * 10 + digit_value d) (e ∙ ap (λ (k : ℕ). min (n * 10 + k) (2 ^ 64 - 1)) (sym (digit_worth d digit))))
    (λ other. let none : false ≡ true = rw other at all in cc)
value_step (d ∷ ds) (suc i) n m all h e =
    let more : i < length ds = omega arith in
    let step : suc i + 1 ≡ suc (i + 1) = omega arith in
    split (is_ascii_digit d)
    (λ digit. rw step (value_step ds i n m (rw digit at all) more e))
    (λ other. let none : false ≡ true = rw other at all in cc)
