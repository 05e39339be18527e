-- The starts between two starts, one after the other, and the buckets that are put among them.
use Rattle.std.proofs.Common.{◌≡◌, ℕ, zero, suc, ◌<◌, ◌⊎◌, inl, inr, Bool, true, false, not, ◌&&◌, List, [], ◌∷◌, ◌++◌, filter, length, get_or, refl, sym, ap, arith, ℤ, ◌<ℤ◌, ◌≤ℤ◌, int_lt}
use Rattle.std.specs.Prelude.{Contains}
use Rattle.std.specs.List.Sorted.{IsStrictlySortedBy}
use Rattle.std.specs.Ordering.{int_cmp}
use Rattle.std.specs.declared.cmp.Ordering.TheVariants.{Less}
use Rattle.std.proofs.lemmas.Int.{ints, by_lt_z}
use Rattle.query_ast.proofs.Elements.{Each, by_test, each_as}

-- ---- tests on numbers

not_lower : (a b : ℤ) → a ≤ℤ b → int_lt b a ≡ false
not_lower a b h = grind (arith, ints)

is_lower_z : (a b : ℤ) → a <ℤ b → int_lt a b ≡ true
is_lower_z a b h = grind (arith, ints)

lower_z : (a b : ℤ) → int_cmp a b ≡ Less → a <ℤ b
lower_z a b h = grind (arith, ints)

-- ---- membership, from the front on

abbrev pub IsIn : ℤ → List ℤ → Type 0
IsIn s [] = ⊥
IsIn s (x ∷ xs) = (s ≡ x) ⊎ IsIn s xs

pub in_at : (xs : List ℤ) (k : ℕ) (s : ℤ) → k < length xs → get_or xs k s ≡ s → IsIn s xs
in_at [] k s h e = absurd (omega arith)
in_at (x ∷ xs) zero s h e = inl (sym e)
in_at (x ∷ xs) (suc k) s h e = inr (in_at xs k s (omega arith) e)

pub is_in : (xs : List ℤ) (s : ℤ) → Contains xs s → IsIn s xs
is_in xs s h = in_at xs h.0 s h.1 h.2

pub contains : (xs : List ℤ) (s : ℤ) → IsIn s xs → Contains xs s
contains [] s h = absurd h
contains (x ∷ xs) s (inl e) = (0, omega arith, sym e)
contains (x ∷ xs) s (inr h) = let there = contains xs s h in (suc there.0, omega (arith, there.1), there.2)

-- ---- from one start to another

abbrev pub lies_from_to : ℤ → ℤ → ℤ → Bool
lies_from_to low high s = not (int_lt s low) && not (int_lt high s)

abbrev pub Sorted : List ℤ → Type 0
Sorted [] = Unit {0}
Sorted (x ∷ xs) = Each (λ y. x <ℤ y) xs × Sorted xs

pub sorted_is : (xs : List ℤ) → IsStrictlySortedBy int_cmp xs → Sorted xs
unfolding IsStrictlySortedBy
sorted_is [] h = tt
sorted_is (x ∷ xs) h = (each_as (λ y. int_cmp x y ≡ Less) (λ y. x <ℤ y) (λ y e. lower_z x y e) xs h.0, sorted_is xs h.1)

in_each : (P : ℤ → Type 0) (xs : List ℤ) (s : ℤ) → Each P xs → IsIn s xs → P s
in_each P [] s h m = absurd m
in_each P (x ∷ xs) s h (inl e) = rw e h.0
in_each P (x ∷ xs) s h (inr m) = in_each P xs s h.1 m

-- nothing of what lies behind
none_behind : (low high : ℤ) (xs : List ℤ) → Each (λ y. high <ℤ y) xs → filter (lies_from_to low high) xs ≡ []
none_behind low high [] h = refl
none_behind low high (x ∷ xs) h = rw (is_lower_z high x h.0, and_no (not (int_lt x low))) (none_behind low high xs h.1)
  where
    and_no : (b : Bool) → (b && false) ≡ false
    and_no true = refl
    and_no false = refl

below_all : (at x : ℤ) (xs : List ℤ) → at <ℤ x → Each (λ y. x <ℤ y) xs → Each (λ y. at <ℤ y) xs
below_all at x xs h all = each_as (λ y. x <ℤ y) (λ y. at <ℤ y) (λ y g. grind (arith, ints)) xs all

-- the next start
pub one_more : (low at n : ℤ) (xs : List ℤ) → Sorted xs → low ≤ℤ at → at <ℤ n → IsIn n xs → ((t : ℤ) → IsIn t xs → at <ℤ t → n ≤ℤ t) → filter (lies_from_to low n) xs ≡ filter (lies_from_to low at) xs ++ n ∷ []
one_more low at n [] sorted first next m least = absurd m
one_more low at n (x ∷ xs) sorted first next m least =
    by_lt_z at x
    (λ behind.
    let up_to : n ≤ℤ x = least x (inl refl) behind in
    let here : n ≡ x = same m up_to in
    let left : lies_from_to low n x ≡ true = rw (not_lower low x (grind (arith, ints)), not_lower x n (grind (arith, ints))) refl in
    let right : int_lt at x ≡ true = is_lower_z at x behind in
    rw (left, right, and_no (not (int_lt x low)), none_behind low n xs (rw here sorted.0), none_behind low at xs (below_all at x xs behind sorted.0), here) refl)
    (λ before.
    let more : IsIn n xs = later m before in
    let rest = one_more low at n xs sorted.1 first next more (λ t h g. least t (inr h) g) in
    let left : int_lt n x ≡ false = not_lower x n (grind (arith, ints)) in
    let right : int_lt at x ≡ false = not_lower x at before in
    rw (left, right) (by_test (not (int_lt x low)) (λ held. rw held (ap (λ l. x ∷ l) rest)) (λ failed. rw failed rest)))
  where
    and_no : (b : Bool) → (b && false) ≡ false
    and_no true = refl
    and_no false = refl

    same : IsIn n (x ∷ xs) → n ≤ℤ x → n ≡ x
    same (inl e) h = e
    same (inr there) h = let far : x <ℤ n = in_each (λ y. x <ℤ y) xs n sorted.0 there in absurd (grind (arith, ints))

    later : IsIn n (x ∷ xs) → x ≤ℤ at → IsIn n xs
    later (inl e) h = absurd (grind (arith, ints))
    later (inr there) h = there

pub only_first : (low : ℤ) (xs : List ℤ) → Sorted xs → IsIn low xs → filter (lies_from_to low low) xs ≡ low ∷ []
only_first low [] sorted m = absurd m
only_first low (x ∷ xs) sorted (inl e) =
    let here : lies_from_to low low x ≡ true = rw (e, not_lower x x (grind (arith, ints))) refl in
    rw (here, none_behind low low xs (rw e sorted.0)) (ap (λ z. z ∷ []) (sym e))
only_first low (x ∷ xs) sorted (inr there) =
    let far : x <ℤ low = in_each (λ y. x <ℤ y) xs low sorted.0 there in
    rw (is_lower_z x low far) (only_first low xs sorted.1 there)
