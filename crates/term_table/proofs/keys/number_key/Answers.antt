use Rattle.std.proofs.Common.{◌≡◌, ℤ, pos, negsuc, ◌+◌, ◌%◌, ◌^◌, w64, FitsSigned, of_z, ap, ◌∙◌, arith}
use Rattle.std.specs.Int.{to_be_bytes}
use Rattle.std.proofs.lemmas.Int.{to_z-of_z}
use Rattle.term_table.specs.Keys.{shifted, number_key}
use Rattle.term_table.proofs.keys.number_key.Goals as goal

-- the bits of a number, plus 2^63, without the carry
shifts : (number : ℤ) → FitsSigned w64 number → (of_z w64 number + 2 ^ 63) % 2 ^ 64 ≡ shifted number
shifts (pos n) fits = omega arith
shifts (negsuc n) fits = omega arith

pub returns : goal.returns
unfolding number_key
returns c =
    c.to_be_bytes.ensures
    ∙ ap (λ n. to_be_bytes w64 ((n + 2 ^ 63) % 2 ^ 64)) (c.cast_unsigned.ensures ∙ ap (of_z w64) (to_z-of_z w64 c.args.number c.ranges.number))
    ∙ ap (to_be_bytes w64) (shifts c.args.number c.ranges.number)
