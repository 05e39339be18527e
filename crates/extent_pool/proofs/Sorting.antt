-- Extents in ascending order of place: where each begins at the end of the one in front or behind, no byte belongs to
-- two, and else some byte does.
use Rattle.std.proofs.Common.{◌≡◌, ℕ, suc, ◌%◌, ◌^◌, ◌<◌, ◌≤◌, Bool, true, false, cond, nat_le, List, [], ◌∷◌, refl, sym, ap, ◌∙◌, arith}
use Rattle.std.specs.List.{All, AllByRecursion, Any, count_by, list_all}
use Rattle.std.specs.List.Sorted.{IsNonDecreasingBy, IsPermutation}
use Rattle.std.proofs.lemmas.List.Elements.{recursion_from_All, All-nil, All-cons}
use Rattle.std.proofs.lemmas.List.Sorted.{All-permutation, sum_by-IsPermutation}
use Rattle.extent_pool.specs.declared.extent.TheConstants.{UNIT}
use Rattle.extent_pool.specs.declared.extent.Extent.{Extent}
use Rattle.extent_pool.specs.Extents.{end_of, keeps, AreDisjoint}
use Rattle.extent_pool.specs.Gaps.{AreLaid, whole}
use Rattle.extent_pool.specs.Changes.{are_apart}
use Rattle.extent_pool.proofs.Laid.{split, keepers-cons}

-- some extent ends past the limit, or none does
some_beyond : (es : List Extent) (limit : ℕ) → list_all (λ e. nat_le (end_of e) limit) es ≡ false → Any (λ e. limit < end_of e) es
some_beyond [] limit h = absurd (cc)
some_beyond (e ∷ es) limit h =
    split (nat_le (end_of e) limit)
    (λ (inside : nat_le (end_of e) limit ≡ true).
    let rest = some_beyond es limit (rw inside at h) in
    (suc rest.0, rest.1, omega (arith, rest.2), rest.3, rest.4))
    (λ (past : nat_le (end_of e) limit ≡ false). (0, e, omega arith, refl, grind arith))

none_beyond : (es : List Extent) (limit : ℕ) → list_all (λ e. nat_le (end_of e) limit) es ≡ true → All (λ e. end_of e ≤ limit) es
none_beyond [] limit h = All-nil (λ e. end_of e ≤ limit)
none_beyond (e ∷ es) limit h =
    split (nat_le (end_of e) limit)
    (λ (inside : nat_le (end_of e) limit ≡ true). All-cons (λ x. end_of x ≤ limit) e es (grind arith) (none_beyond es limit (rw inside at h)))
    (λ (past : nat_le (end_of e) limit ≡ false). absurd (grind arith))

-- the same for what a test of the extents answered
pub beyond_of : (es tested : List Extent) (limit : ℕ) (answer : Bool) → answer ≡ list_all (λ e. nat_le (end_of e) limit) tested → tested ≡ es → answer ≡ false → Any (λ e. limit < end_of e) es
beyond_of es tested limit answer is same refused =
    some_beyond es limit (ap (list_all (λ e. nat_le (end_of e) limit)) (sym same) ∙ (sym is ∙ refused))

pub within_of : (es tested : List Extent) (limit : ℕ) (answer : Bool) → answer ≡ list_all (λ e. nat_le (end_of e) limit) tested → tested ≡ es → answer ≡ true → All (λ e. end_of e ≤ limit) es
within_of es tested limit answer is same passed =
    none_beyond es limit (ap (list_all (λ e. nat_le (end_of e) limit)) (sym same) ∙ (sym is ∙ passed))

-- each begins no earlier than the one in front
abbrev BeginInOrder : Extent → List Extent → Type 0
BeginInOrder x [] = Unit {0}
BeginInOrder x (y ∷ ys) = (x.at ≤ y.at) × BeginInOrder y ys

shared_byte : (x : Extent) (es : List Extent) → 1 ≤ x.len → AllByRecursion (λ e. (1 ≤ e.len) × (e.len ≤ 2 ^ 60)) es → BeginInOrder x es → are_apart (end_of x) es ≡ false → (byte : ℕ) × (2 ≤ count_by (keeps byte) (x ∷ es))
shared_byte x [] some have order apart = absurd (cc)
shared_byte x (y ∷ ys) some have order apart =
    split (nat_le (end_of x) y.at)
    (λ (behind : nat_le (end_of x) y.at ≡ true).
    let rest = shared_byte y ys have.0.0 have.1 order.1 (rw behind at apart) in
    (rest.0, omega (arith, rest.1, keepers-cons rest.0 x (y ∷ ys))))
    (λ (inside : nat_le (end_of x) y.at ≡ false).
    let in_x : keeps y.at x ≡ true = grind arith in
    let in_y : keeps y.at y ≡ true = grind arith in
    (y.at, rw (keepers-cons y.at x (y ∷ ys), keepers-cons y.at y ys, in_x, in_y) (omega arith)))

begins : (x : Extent) (es : List Extent) → IsNonDecreasingBy (λ e. e.at) (x ∷ es) → BeginInOrder x es
begins x [] rising = tt
begins x (y ∷ ys) rising =
    (rising 0 1 x (omega arith) (omega arith), begins y ys (λ i j d l h. rising (suc i) (suc j) d (omega arith) (omega arith)))

pub overlap : (given sorted : List Extent) → IsPermutation given sorted → IsNonDecreasingBy (λ e. e.at) sorted → All (λ e. (1 ≤ e.len) × (e.len ≤ 2 ^ 60)) given → are_apart 0 sorted ≡ false → AreDisjoint given → ⊥
overlap given [] same rising lengths apart alone = absurd (cc)
overlap given (x ∷ xs) same rising lengths apart alone =
    let have = recursion_from_All (λ e. (1 ≤ e.len) × (e.len ≤ 2 ^ 60)) (x ∷ xs) (All-permutation (λ e. (1 ≤ e.len) × (e.len ≤ 2 ^ 60)) given (x ∷ xs) same lengths) in
    let rest : are_apart (end_of x) xs ≡ false = grind arith in
    let shared = shared_byte x xs have.0.0 have.1 (begins x xs rising) rest in
    omega (arith, shared.1, alone.one_at_most shared.0, sum_by-IsPermutation (λ e. cond (keeps shared.0 e) 1 0) given (x ∷ xs) same)

laid_from : (es : List Extent) (from limit : ℕ) → AllByRecursion (λ e. e.at % UNIT ≡ 0) es → AllByRecursion (λ e. (1 ≤ e.len) × (e.len ≤ 2 ^ 60)) es → AllByRecursion (λ e. end_of e ≤ limit) es → from % UNIT ≡ 0 → from ≤ limit → are_apart from es ≡ true → AreLaid from es (whole limit)
laid_from [] from limit places lengths ends unit h apart = omega arith
laid_from (e ∷ es) from limit places lengths ends unit h apart =
    split (nat_le from e.at)
    (λ (behind : nat_le from e.at ≡ true).
    (grind arith, places.0, lengths.0.0, laid_from es (end_of e) limit places.1 lengths.1 ends.1 (omega (arith, places.0)) ends.0 (rw behind at apart)))
    (λ (before : nat_le from e.at ≡ false). absurd (grind arith))

pub laid_in_order : (given sorted : List Extent) (limit : ℕ) → IsPermutation given sorted → All (λ e. e.at % UNIT ≡ 0) given → All (λ e. (1 ≤ e.len) × (e.len ≤ 2 ^ 60)) given → All (λ e. end_of e ≤ limit) given → are_apart 0 sorted ≡ true → AreLaid 0 sorted (whole limit)
laid_in_order given sorted limit same places lengths ends apart =
    laid_from sorted 0 limit
    (recursion_from_All (λ e. e.at % UNIT ≡ 0) sorted (All-permutation (λ e. e.at % UNIT ≡ 0) given sorted same places))
    (recursion_from_All (λ e. (1 ≤ e.len) × (e.len ≤ 2 ^ 60)) sorted (All-permutation (λ e. (1 ≤ e.len) × (e.len ≤ 2 ^ 60)) given sorted same lengths))
    (recursion_from_All (λ e. end_of e ≤ limit) sorted (All-permutation (λ e. end_of e ≤ limit) given sorted same ends))
    refl (omega arith) apart

pub given_disjoint : (given sorted : List Extent) → IsPermutation given sorted → AreDisjoint sorted → AreDisjoint given
given_disjoint given sorted same alone =
    record { one_at_most = λ byte. omega (arith, alone.one_at_most byte, sum_by-IsPermutation (λ x. cond (keeps byte x) 1 0) given sorted same) }
