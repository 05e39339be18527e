-- Things that are among others, and what each of them is.
use Rattle.std.proofs.Common.{◌≡◌, ℕ, zero, suc, ◌<◌, ◌==◌, Bool, true, List, [], ◌∷◌, ◌++◌, length, map, get_or, slice_get, Some, Contains, refl, sym, ap, subst, ◌∙◌, append_assoc, arith, eqb-true}
use Rattle.std.specs.List.{All, AllByRecursion, list_any}
use Rattle.std.proofs.lemmas.List.{get_or-map, length-map}
use Rattle.std.proofs.lemmas.Option.{get_or_from_slice_get, slice_get_within}
use Rattle.segment_builder.proofs.Keys.{split}

pub each_at : {X : Type 0} (P : X → Type 0) (xs : List X) (at : ℕ) (x : X) → AllByRecursion P xs → slice_get xs at ≡ Some x → P x
each_at P [] at x all is = absurd (cc (is))
each_at P (y ∷ ys) zero x all is = let here : y ≡ x = cc (is) in subst P here all.0
each_at P (y ∷ ys) (suc at) x all is = each_at P ys at x all.1 is

pub each_both_sides : {X : Type 0} (P : X → Type 0) (xs ys : List X) → AllByRecursion P xs → AllByRecursion P ys → AllByRecursion P (xs ++ ys)
each_both_sides P [] ys one two = two
each_both_sides P (x ∷ xs) ys one two = (one.0, each_both_sides P xs ys one.1 two)

pub any_first : {X : Type 0} (test : X → Bool) (xs ys : List X) → list_any test xs ≡ true → list_any test (xs ++ ys) ≡ true
any_first test [] ys is = absurd (cc (is))
any_first test (x ∷ xs) ys is =
    split (test x)
    (λ yes. rw yes refl)
    (λ no. rw no (any_first test xs ys (rw no at is)))

pub any_later : {X : Type 0} (test : X → Bool) (xs ys : List X) → list_any test ys ≡ true → list_any test (xs ++ ys) ≡ true
any_later test [] ys is = is
any_later test (x ∷ xs) ys is =
    split (test x)
    (λ yes. rw yes refl)
    (λ no. rw no (any_later test xs ys is))

-- one of a list that passes a test
pub record IsOne {X : Type 0} (test : X → Bool) (xs : List X) : Type 0 where
  pub at : ℕ
  pub own : X
  pub is : slice_get xs at ≡ Some own
  pub passes : test own ≡ true

pub one_of : {X : Type 0} (test : X → Bool) (xs : List X) → list_any test xs ≡ true → IsOne test xs
one_of test [] some = absurd (cc (some))
one_of test (x ∷ xs) some =
    split (test x)
    (λ yes. record { at = 0; own = x; is = refl; passes = yes })
    (λ no. let rest : IsOne test xs = one_of test xs (rw no at some) in record { at = suc rest.at; own = rest.own; is = rest.is; passes = rest.passes })

pub one_is : {X : Type 0} (test : X → Bool) (xs : List X) (at : ℕ) (x : X) → slice_get xs at ≡ Some x → test x ≡ true → list_any test xs ≡ true
one_is test [] at x is passes = absurd (cc (is))
one_is test (y ∷ ys) zero x is passes = let here : y ≡ x = cc (is) in rw (here, passes) refl
one_is test (y ∷ ys) (suc at) x is passes = any_later test (y ∷ []) ys (one_is test ys at x is passes)

pub there_at : {X : Type 0} (xs : List X) (at : ℕ) (x : X) → slice_get xs at ≡ Some x → Contains xs x
there_at xs at x is = (at, slice_get_within xs at x is, get_or_from_slice_get xs at x x is)

pub any_number : (n : ℕ) (ns : List ℕ) → list_any (λ m. m == n) ns ≡ true → Contains ns n
any_number n ns some =
    let one : IsOne (λ m. m == n) ns = one_of (λ m. m == n) ns some in
    there_at ns one.at n (one.is ∙ ap Some (eqb-true one.own n one.passes))

pub any_mapped : {X Y : Type 0} (f : X → Y) (test : Y → Bool) (xs : List X) → list_any test (map f xs) ≡ list_any (λ x. test (f x)) xs
any_mapped f test [] = refl
any_mapped f test (x ∷ xs) = rw (any_mapped f test xs) refl

-- ---- lists that are seen as the same

head_or : {Z : Type 0} → Z → List Z → Z
head_or z [] = z
head_or z (w ∷ ws) = w

tail_of : {Z : Type 0} → List Z → List Z
tail_of [] = []
tail_of (w ∷ ws) = ws

-- are so one by one
pub each_along : {X Y Z : Type 0} (f : X → Z) (g : Y → Z) (P : Y → Type 0) (Q : X → Type 0) → ((x : X) (y : Y) → f x ≡ g y → P y → Q x)
    → (xs : List X) (ys : List Y) → map f xs ≡ map g ys → AllByRecursion P ys → AllByRecursion Q xs
unfolding head_or tail_of
each_along f g P Q goes [] ys same all = tt
each_along f g P Q goes (x ∷ xs) [] same all = absurd (cc (same))
each_along f g P Q goes (x ∷ xs) (y ∷ ys) same all =
    (goes x y (ap (head_or (f x)) same) all.0, each_along f g P Q goes xs ys (ap tail_of same) all.1)

-- and where each one gives the other, the one list gives the other
pub map_along : {X Y Z : Type 0} (f : X → Z) (g : Y → Z) (h : X → Y) → ((x : X) (y : Y) → f x ≡ g y → h x ≡ y) → (xs : List X) (ys : List Y) → map f xs ≡ map g ys → map h xs ≡ ys
unfolding head_or tail_of
map_along f g h gives [] [] same = refl
map_along f g h gives [] (y ∷ ys) same = absurd (cc (same))
map_along f g h gives (x ∷ xs) [] same = absurd (cc (same))
map_along f g h gives (x ∷ xs) (y ∷ ys) same =
    rw (gives x y (ap (head_or (f x)) same), map_along f g h gives xs ys (ap tail_of same)) refl

-- ---- what a list is seen as, at one of its places

pub seen_at : {X Y : Type 0} (f : X → Y) (P : Y → Type 0) (xs : List X) (i : ℕ) (d : X) → i < length xs → All P (map f xs) → P (f (get_or xs i d))
seen_at f P xs i d inside all = subst P (get_or-map f xs i d (f d) inside) (all i (f d) (omega (arith, inside, length-map xs f)))

pub item_at : {X Y : Type 0} (f : X → Y) (P : Y → Type 0) (xs : List X) (i : ℕ) (item : X) → i < length xs → item ≡ get_or xs i item → All P (map f xs) → P (f item)
item_at f P xs i item inside is all = subst (λ x. P (f x)) (sym is) (seen_at f P xs i item inside all)

-- one more of a list is done
pub goes_on : {Y : Type 0} (done next new rest whole : List Y) (y : Y) → next ≡ y ∷ rest → new ≡ done ++ y ∷ [] → done ++ next ≡ whole → new ++ rest ≡ whole
goes_on done next new rest whole y is more goes = rw more (append_assoc done (y ∷ []) rest ∙ ap (λ ys. done ++ ys) (sym is) ∙ goes)
