-- Lists that are one since what they are taken to is.
use Rattle.std.proofs.Common.{◌≡◌, ℕ, suc, ◌<◌, List, [], ◌∷◌, length, map, get_or, drop, refl, sym, ap, ◌∙◌, arith}
use Rattle.std.specs.List.{AllByRecursion}

-- where only one thing is taken to another
pub map_once : {X Y : Type 0} (f : X → Y) (Ok : X → Type 0) → ((x y : X) → Ok x → Ok y → f x ≡ f y → x ≡ y)
    → (xs ys : List X) → AllByRecursion Ok xs → AllByRecursion Ok ys → map f xs ≡ map f ys → xs ≡ ys
map_once f Ok once [] [] one other same = refl
map_once f Ok once [] (y ∷ ys) one other same = absurd (let long : 0 ≡ suc (length (map f ys)) = ap length same in omega (arith, long))
map_once f Ok once (x ∷ xs) [] one other same = absurd (let long : suc (length (map f xs)) ≡ 0 = ap length same in omega (arith, long))
map_once {X} {Y} f Ok once (x ∷ xs) (y ∷ ys) one other same =
    let first : f x ≡ f y = ap (λ (zs : List Y). get_or zs 0 (f x)) same in
    let others : map f xs ≡ map f ys = ap (λ (zs : List Y). drop 1 zs) same in
    ap (λ (z : X). z ∷ xs) (once x y one.0 other.0 first) ∙ ap (λ (zs : List X). y ∷ zs) (map_once f Ok once xs ys one.1 other.1 others)

-- where the way back is known
undone : {X Y : Type 0} (f : X → Y) (g : Y → X) → ((x : X) → g (f x) ≡ x) → (xs : List X) → map g (map f xs) ≡ xs
undone f g back [] = refl
undone {X} {Y} f g back (x ∷ xs) = ap (λ (z : X). z ∷ map g (map f xs)) (back x) ∙ ap (λ (zs : List X). x ∷ zs) (undone f g back xs)

pub map_back : {X Y : Type 0} (f : X → Y) (g : Y → X) → ((x : X) → g (f x) ≡ x) → (xs ys : List X) → map f xs ≡ map f ys → xs ≡ ys
map_back f g back xs ys same = sym (undone f g back xs) ∙ (ap (map g) same ∙ undone f g back ys)

-- lists of one length with the same at each index
pub same_lists : {X : Type 0} (xs ys : List X) → length xs ≡ length ys → ((k : ℕ) (d : X) → k < length xs → get_or xs k d ≡ get_or ys k d) → xs ≡ ys
same_lists [] [] long same = refl
same_lists [] (y ∷ ys) long same = absurd (omega (arith, long))
same_lists (x ∷ xs) [] long same = absurd (omega (arith, long))
same_lists {X} (x ∷ xs) (y ∷ ys) long same =
    ap (λ (z : X). z ∷ xs) (same 0 x (omega arith))
    ∙ ap (λ (zs : List X). y ∷ zs) (same_lists xs ys (omega (arith, long)) (λ k d h. same (suc k) d (omega (arith, h))))
