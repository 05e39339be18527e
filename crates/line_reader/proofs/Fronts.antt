-- Fronts of lists put together.
use Rattle.std.proofs.Common.{◌≡◌, ℕ, zero, suc, ◌+◌, ◌≤◌, List, [], ◌∷◌, ◌++◌, ◌||◌, nat_lt, length, take, refl, sym, ap, ◌∙◌, arith, length-append, length-take}
use Rattle.std.proofs.lemmas.Grind.{common_steps}
use Rattle.std.proofs.lemmas.List.{take_all}
use Rattle.std.proofs.lemmas.Bool.Decides.{nat_tests}
use Rattle.std.proofs.Math.Seq.{take-append-add}

-- what fits is kept whole
pub kept_whole : (most : ℕ) (front piece : List ℕ) → length front + length piece ≤ most → take most (front ++ piece) ≡ front ++ piece
kept_whole most front piece fits = take_all most (front ++ piece) (grind (arith, common_steps))

-- of what doesn't fit, as much as there is room for
pub kept_part : (most room : ℕ) (front piece : List ℕ) → length front + room ≡ most → take most (front ++ piece) ≡ front ++ take room piece
kept_part most room front piece fits = ap (λ n. take n (front ++ piece)) (sym fits) ∙ take-append-add front piece room

-- a front of a front and a piece is a front of all
pub kept_again : (most : ℕ) (bytes piece : List ℕ) → take most (take most bytes ++ piece) ≡ take most (bytes ++ piece)
kept_again zero bytes piece = refl
kept_again (suc most) [] piece = refl
kept_again (suc most) (b ∷ bs) piece = ap (λ xs. b ∷ xs) (kept_again most bs piece)

-- all is longer than the most exactly where the first part is, or its front with the piece
pub long_again : (most : ℕ) (bytes piece : List ℕ) → (nat_lt most (length bytes) || nat_lt most (length (take most bytes ++ piece))) ≡ nat_lt most (length (bytes ++ piece))
long_again most bytes piece = grind (arith, common_steps, nat_tests, length-append {A = ℕ}, length-take {A = ℕ})
