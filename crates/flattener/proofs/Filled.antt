-- A list whose last element is put in place of another.
use Rattle.std.proofs.Common.{◌≡◌, List, [], ◌∷◌, ◌++◌, length, map, slice_set, refl, ap}

pub last_filled : {A B : Type 0} (f : A → B) (xs : List A) (first new : A) → map f (slice_set (xs ++ first ∷ []) (length xs) new) ≡ map f xs ++ f new ∷ []
last_filled f [] first new = refl
last_filled {A} {B} f (x ∷ xs) first new = ap (λ (ys : List B). f x ∷ ys) (last_filled f xs first new)
