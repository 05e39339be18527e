-- The dead roots of a segment, as a record lists them and as marks say them.
use Rattle.std.proofs.Common.{◌≡◌, ℕ, zero, suc, ◌+◌, ◌<◌, ◌≤◌, ◌↔◌, ◌⊎◌, inl, inr, ⊎_elim, Bool, true, false, List, [], ◌∷◌, length, get_or, All, refl, sym, ◌∙◌, ap, subst, arith}
use Rattle.std.specs.Prelude.{Contains}
use Rattle.std.specs.List.Sorted.{IsStrictlyIncreasing}
use Rattle.std.proofs.lemmas.Bool.{false≢true}
use Rattle.std.proofs.lemmas.List.Elements.{All-nil, All-cons, All-contains}
use Rattle.commit_store.specs.Saying.{dead_from, dead_of}

-- ---- ascending lists

-- each is at least one number, and more than the one before it
abbrev Rises : ℕ → List ℕ → Type 0
Rises low [] = Unit {0}
Rises low (d ∷ ds) = (low ≤ d) × Rises (d + 1) ds

rises_lower : (low less : ℕ) (ds : List ℕ) → less ≤ low → Rises low ds → Rises less ds
rises_lower low less [] fewer rises = tt
rises_lower low less (d ∷ ds) fewer rises = (omega (arith, fewer, rises.0), rises.1)

rises_of : (low : ℕ) (ds : List ℕ) → (0 < length ds → low ≤ get_or ds 0 0) → IsStrictlyIncreasing ds → Rises low ds
rises_of low [] first up = tt
rises_of low (d ∷ ds) first up = (
  first (omega arith),
  rises_of (d + 1) ds (λ some. let next : d < get_or ds 0 0 = up zero (omega (arith, some)) in omega (arith, next)) (λ k inside. up_next k inside),
)
  where
    up_next : (k : ℕ) → k + 1 < length ds → get_or ds k 0 < get_or ds (k + 1) 0
    up_next k inside =
        let e : suc k + 1 ≡ suc (k + 1) = omega arith in
        subst (λ (n : ℕ). get_or ds k 0 < get_or (d ∷ ds) n 0) e (up (suc k) (omega (arith, inside)))

-- ---- elements

first_or : (d x : ℕ) (ds : List ℕ) → Contains (d ∷ ds) x → (d ≡ x) ⊎ Contains ds x
first_or d x ds (zero, inside, is) = inl is
first_or d x ds (suc k, inside, is) = inr (k, omega (arith, inside), is)

behind : (d x : ℕ) (ds : List ℕ) → Contains ds x → Contains (d ∷ ds) x
behind d x ds (k, inside, is) = (suc k, omega (arith, inside), is)

here : (d : ℕ) (ds : List ℕ) → Contains (d ∷ ds) d
here d ds = (zero, omega arith, refl)

none_in : (x : ℕ) → Contains [] x → ⊥
none_in x (k, inside, is) = omega (arith, inside)

at_least : (low x : ℕ) (ds : List ℕ) → Rises low ds → Contains ds x → low ≤ x
at_least low x [] rises has = absurd (none_in x has)
at_least low x (d ∷ ds) rises has =
    ⊎_elim (λ (same : d ≡ x). omega (arith, rises.0, same)) (λ (more : Contains ds x). omega (arith, rises.0, at_least (d + 1) x ds rises.1 more)) (first_or d x ds has)

-- ---- a list that says the same as marks is that of the dead

-- a list has the indexes of the marks that aren't set, from one on
abbrev pub Lists : ℕ → List Bool → List ℕ → Type 0
Lists index live dead = (i : ℕ) → i < length live → (get_or live i false ≡ false) ↔ Contains dead (index + i)

abbrev Below : ℕ → List ℕ → Type 0
Below end dead = (x : ℕ) → Contains dead x → x < end

moved : (index i : ℕ) → index + suc i ≡ (index + 1) + i
moved index i = omega arith

none_added : (index : ℕ) → index + 0 ≡ index
none_added index = omega arith

later_true : (index : ℕ) (live : List Bool) (dead : List ℕ) → Lists index (true ∷ live) dead → Lists (index + 1) live dead
later_true index live dead lists i inside =
    let own = lists (suc i) (omega (arith, inside)) in
    (λ none. subst (λ (n : ℕ). Contains dead n) (moved index i) (own.0 none), λ has. own.1 (subst (λ (n : ℕ). Contains dead n) (sym (moved index i)) has))

later_false : (index : ℕ) (live : List Bool) (ds : List ℕ) → Lists index (false ∷ live) (index ∷ ds) → Lists (index + 1) live ds
later_false index live ds lists i inside =
    let own = lists (suc i) (omega (arith, inside)) in (
      λ none.
          ⊎_elim (λ (same : index ≡ (index + 1) + i). absurd (omega (arith, same))) (λ (more : Contains ds ((index + 1) + i)). more)
          (first_or index ((index + 1) + i) ds (subst (λ (n : ℕ). Contains (index ∷ ds) n) (moved index i) (own.0 none))),
      λ has. own.1 (subst (λ (n : ℕ). Contains (index ∷ ds) n) (sym (moved index i)) (behind index ((index + 1) + i) ds has)),
    )

at_next : (a b : ℕ) → a ≤ b → (a ≡ b → ⊥) → a + 1 ≤ b
at_next a b least other = omega (arith, least, other)

not_first : (index : ℕ) (live : List Bool) (dead : List ℕ) → Lists index (true ∷ live) dead → Rises index dead → Rises (index + 1) dead
not_first index live [] lists rises = tt
not_first index live (d ∷ ds) lists rises =
    let not_same : index ≡ d → ⊥
    = λ same. false≢true (sym ((lists zero (omega arith)).1 (subst (λ (n : ℕ). Contains (d ∷ ds) n) (sym same ∙ sym (none_added index)) (here d ds)))) in
    (at_next index d rises.0 not_same, rises.1)

dead_same : (index : ℕ) (live : List Bool) (dead : List ℕ) → Rises index dead → Below (index + length live) dead → Lists index live dead → dead_from index live ≡ dead
dead_same index [] [] rises below lists = refl
dead_same index [] (d ∷ ds) rises below lists = absurd (omega (arith, rises.0, below d (here d ds)))
dead_same index (true ∷ live) dead rises below lists =
    dead_same (index + 1) live dead (not_first index live dead lists rises) (λ x has. omega (arith, below x has)) (later_true index live dead lists)
dead_same index (false ∷ live) [] rises below lists = absurd (none_in (index + 0) ((lists zero (omega arith)).0 refl))
dead_same index (false ∷ live) (d ∷ ds) rises below lists =
    let has : Contains (d ∷ ds) index = subst (λ (n : ℕ). Contains (d ∷ ds) n) (none_added index) ((lists zero (omega arith)).0 refl) in
    let first : d ≡ index = omega (arith, rises.0, at_least d index (d ∷ ds) (omega arith, rises.1) has) in
    let own : Lists index (false ∷ live) (index ∷ ds) = subst (λ (n : ℕ). Lists index (false ∷ live) (n ∷ ds)) first lists in
    let rest : dead_from (index + 1) live ≡ ds
    = dead_same (index + 1) live ds (rises_lower (d + 1) (index + 1) ds (omega (arith, first)) rises.1) (λ x there. omega (arith, below x (behind d x ds there))) (later_false index live ds own) in
    ap (λ (xs : List ℕ). index ∷ xs) rest ∙ ap (λ (n : ℕ). n ∷ ds) (sym first)

pub dead_are : (live : List Bool) (dead : List ℕ) (many : ℕ) → length live ≡ many → IsStrictlyIncreasing dead → All (λ (root : ℕ). root < many) dead
    → ((root : ℕ) → root < many → (get_or live root false ≡ false) ↔ Contains dead root) → dead_of live ≡ dead
dead_are live dead many long up inside are =
    dead_same 0 live dead (rises_of 0 dead (λ some. omega arith) up) (λ x has. omega (arith, long, All-contains (λ (root : ℕ). root < many) dead x inside has))
    (λ i within. subst (λ (n : ℕ). (get_or live i false ≡ false) ↔ Contains dead n) (sym (zero_plus i)) (are i (omega (arith, within, long))))
  where
    zero_plus : (n : ℕ) → 0 + n ≡ n
    zero_plus n = omega arith

-- ---- and the list of the dead says the same as marks

rises_dead : (index : ℕ) (live : List Bool) → Rises index (dead_from index live)
rises_dead index [] = tt
rises_dead index (true ∷ live) = rises_lower (index + 1) index (dead_from (index + 1) live) (omega arith) (rises_dead (index + 1) live)
rises_dead index (false ∷ live) = (omega arith, rises_dead (index + 1) live)

dead_has : (index : ℕ) (live : List Bool) → Lists index live (dead_from index live)
dead_has index [] i inside = absurd (omega (arith, inside))
dead_has index (true ∷ live) zero inside = (
  λ none. absurd (false≢true (sym none)),
  λ has. absurd (omega (arith, at_least (index + 1) (index + 0) (dead_from (index + 1) live) (rises_dead (index + 1) live) has)),
)
dead_has index (true ∷ live) (suc i) inside =
    let own = dead_has (index + 1) live i (omega (arith, inside)) in (
      λ none. subst (λ (n : ℕ). Contains (dead_from (index + 1) live) n) (sym (moved index i)) (own.0 none),
      λ has. own.1 (subst (λ (n : ℕ). Contains (dead_from (index + 1) live) n) (moved index i) has),
    )
dead_has index (false ∷ live) zero inside = (
  λ none. subst (λ (n : ℕ). Contains (index ∷ dead_from (index + 1) live) n) (sym (none_added index)) (here index (dead_from (index + 1) live)),
  λ has. refl,
)
dead_has index (false ∷ live) (suc i) inside =
    let own = dead_has (index + 1) live i (omega (arith, inside)) in (
      λ none. behind index (index + suc i) (dead_from (index + 1) live) (subst (λ (n : ℕ). Contains (dead_from (index + 1) live) n) (sym (moved index i)) (own.0 none)),
      λ has.
          own.1 (subst (λ (n : ℕ). Contains (dead_from (index + 1) live) n) (moved index i)
          (⊎_elim (λ (same : index ≡ index + suc i). absurd (omega (arith, same))) (λ (more : Contains (dead_from (index + 1) live) (index + suc i)). more)
          (first_or index (index + suc i) (dead_from (index + 1) live) has))),
    )

pub dead_listed : (live : List Bool) (root : ℕ) → root < length live → (get_or live root false ≡ false) ↔ Contains (dead_of live) root
dead_listed live root inside = subst (λ (n : ℕ). (get_or live root false ≡ false) ↔ Contains (dead_of live) n) (zero_plus root) (dead_has 0 live root inside)
  where
    zero_plus : (n : ℕ) → 0 + n ≡ n
    zero_plus n = omega arith

dead_under : (index most : ℕ) (live : List Bool) → index + length live ≤ most → All (λ (root : ℕ). root < most) (dead_from index live)
dead_under index most [] within = All-nil (λ (root : ℕ). root < most)
dead_under index most (true ∷ live) within = dead_under (index + 1) most live (omega (arith, within))
dead_under index most (false ∷ live) within =
    All-cons (λ (root : ℕ). root < most) index (dead_from (index + 1) live) (omega (arith, within)) (dead_under (index + 1) most live (omega (arith, within)))

pub dead_inside : (live : List Bool) (many : ℕ) → length live ≡ many → All (λ (root : ℕ). root < many) (dead_of live)
dead_inside live many long = dead_under 0 many live (omega (arith, long))
