-- An item of a list that is walked over.
use Rattle.std.proofs.Common.{◌≡◌, ℕ, ◌+◌, ◌<◌, List, ◌∷◌, length, map, get_or, drop, sym, ap, subst, ◌∙◌, arith}
use Rattle.std.specs.List.{All}
use Rattle.std.proofs.lemmas.List.{drop_more, get_or-map, length-map}

pub item_meets : {X Y : Type 0} (P : Y → Type 0) (f : X → Y) (xs : List X) (at : ℕ) (x : X) → All P (map f xs) → at < length xs → x ≡ get_or xs at x → P (f x)
item_meets P f xs at x all inside read =
    subst P (get_or-map f xs at x (f x) inside ∙ ap f (sym read)) (all at (f x) (omega (arith, inside, length-map xs f)))

pub item_left : {X : Type 0} (xs : List X) (at : ℕ) (x : X) → at < length xs → x ≡ get_or xs at x → drop at xs ≡ x ∷ drop (at + 1) xs
item_left {X} xs at x inside read = drop_more xs at x inside ∙ ap (λ (y : X). y ∷ drop (at + 1) xs) (sym read)
