-- Lists that ascend strictly, put together.
use Rattle.std.proofs.Common.{◌≡◌, ℕ, false, List, [], ◌∷◌, ◌++◌, refl, ap, ◌∙◌, arith}
use Rattle.std.specs.List.{AllByRecursion}
use Rattle.std.specs.List.Sorted.{IsStrictlySortedBy}
use Rattle.std.specs.Ordering.{is_gt, is_eq, nat_cmp}
use Rattle.std.specs.declared.cmp.Ordering.{Ordering}
use Rattle.std.specs.declared.cmp.Ordering.TheVariants.{Less, Equal, Greater}
use Rattle.std.proofs.lemmas.Bool.Decides.{nat_tests}
use Rattle.term_table.specs.Terms.{term_cmp}

abbrev pub Sorted : {K : Type 0} → (K → K → Ordering) → List K → Type 0
Sorted {K} cmp xs = IsStrictlySortedBy cmp xs

pub sorted_cons : {K : Type 0} (cmp : K → K → Ordering) (x : K) (xs : List K) → AllByRecursion (λ y. cmp x y ≡ Less) xs → Sorted cmp xs → Sorted cmp (x ∷ xs)
unfolding IsStrictlySortedBy
sorted_cons cmp x xs first rest = (first, rest)

pub sorted_first : {K : Type 0} (cmp : K → K → Ordering) (x : K) (xs : List K) → Sorted cmp (x ∷ xs) → AllByRecursion (λ y. cmp x y ≡ Less) xs
unfolding IsStrictlySortedBy
sorted_first cmp x xs up = up.0

pub sorted_rest : {K : Type 0} (cmp : K → K → Ordering) (x : K) (xs : List K) → Sorted cmp (x ∷ xs) → Sorted cmp xs
unfolding IsStrictlySortedBy
sorted_rest cmp x xs up = up.1

pub sorted_none : {K : Type 0} (cmp : K → K → Ordering) → Sorted cmp []
unfolding IsStrictlySortedBy
sorted_none cmp = tt

pub each_append : {X : Type 0} (P : X → Type 0) (xs ys : List X) → AllByRecursion P xs → AllByRecursion P ys → AllByRecursion P (xs ++ ys)
each_append P [] ys one two = two
each_append P (x ∷ xs) ys one two = (one.0, each_append P xs ys one.1 two)

pub less_then : (a b : Ordering) → is_gt a ≡ false → is_eq a ≡ false → a ≡ Less
less_then Less b h k = refl
less_then Equal b h k = absurd (cc (k))
less_then Greater b h k = absurd (cc (h))

pub same_field : (f : ℕ) → nat_cmp f f ≡ Equal
same_field f = grind (arith, nat_tests)

across : (f g : ℕ) (term : ℕ × List ℕ) (terms : List (ℕ × List ℕ)) → term.0 ≡ f → AllByRecursion (λ (other : ℕ × List ℕ). nat_cmp f other.0 ≡ Less) terms → AllByRecursion (λ other. term_cmp term other ≡ Less) terms
across f g term [] is all = tt
across f g term (other ∷ terms) is all =
    let less : nat_cmp term.0 other.0 ≡ Less = ap (λ n. nat_cmp n other.0) is ∙ all.0 in
    (rw less refl, across f g term terms is all.1)

pub sorted_append : (f : ℕ) (xs ys : List (ℕ × List ℕ)) → Sorted term_cmp xs → AllByRecursion (λ (term : ℕ × List ℕ). term.0 ≡ f) xs → Sorted term_cmp ys → AllByRecursion (λ (other : ℕ × List ℕ). nat_cmp f other.0 ≡ Less) ys → Sorted term_cmp (xs ++ ys)
sorted_append f [] ys up of_field rest later = rest
sorted_append f (x ∷ xs) ys up of_field rest later =
    sorted_cons term_cmp x (xs ++ ys)
    (each_append (λ y. term_cmp x y ≡ Less) xs ys (sorted_first term_cmp x xs up) (across f f x ys of_field.0 later))
    (sorted_append f xs ys (sorted_rest term_cmp x xs up) of_field.1 rest later)
