-- Terms in order: those before a cut stand before all others.
use Rattle.std.proofs.Common.{◌≡◌, ℕ, ◌+◌, ◌<◌, ◌≤◌, Bool, true, false, not, ◌&&◌, nat_eq, max, IsTrue, Contains, ◌↔◌, Bor, List, [], ◌∷◌, length, take, get_or, Some, slice_get, zero, suc, refl, sym, ◌∙◌, ap, subst, arith, inl, inr, ◌⊎◌}
use Rattle.std.specs.List.{starts_with}
use Rattle.std.specs.Ordering.{nat_cmp, is_lt, is_le, is_gt, ordering_reverse, ordering_then}
use Rattle.std.specs.declared.cmp.Ordering.{Ordering}
use Rattle.std.specs.declared.cmp.Ordering.TheVariants.{Less, Equal, Greater}
use Rattle.std.specs.Cmp.Lexicographic.{slice_cmp}
use Rattle.std.proofs.lemmas.List.{get_or_default}
use Rattle.std.proofs.lemmas.Cmp.{nat_list_cmp_total, by_ranked, ranked, upto, tied_itself}
use Rattle.std.proofs.lemmas.Map.Keys.{Less-from_sorted}
use Rattle.std.proofs.lemmas.Option.{slice_get_within, get_or_from_slice_get, slice_get-get_or}
use Rattle.std.proofs.lemmas.Bool.{cases_lt, false≢true}
use Rattle.std.proofs.lemmas.Bool.Decides.{nat_tests}
use Rattle.term_table.specs.declared.edge.Edge.{Edge}
use Rattle.term_table.specs.declared.edge.Edge.TheVariants.{Unbounded, Closed, Past}
use Rattle.term_table.specs.declared.cut.Cut.{Cut}
use Rattle.term_table.specs.declared.cut.Cut.TheVariants.{Low, High, Prefix}
use Rattle.term_table.specs.Terms.{term_cmp, AreAscending}
use Rattle.term_table.specs.Ranges.{is_before, comes_before, is_between, has_prefix}

-- the order of bytes
abbrev bytes_cmp : List ℕ → List ℕ → Ordering
bytes_cmp one other = slice_cmp nat_cmp one other

-- tests of an answer, and of the answer the other way round
less_not_greater : (r : Ordering) → r ≡ Less → is_gt r ≡ false
less_not_greater r e = ap is_gt e

le_not_greater : (r : Ordering) → is_le r ≡ true → is_gt r ≡ false
le_not_greater Less e = refl
le_not_greater Equal e = refl
le_not_greater Greater e = cc

not_greater_le : (r : Ordering) → is_gt r ≡ false → is_le r ≡ true
not_greater_le Less e = refl
not_greater_le Equal e = refl
not_greater_le Greater e = cc

lt_less : (r : Ordering) → is_lt r ≡ true → r ≡ Less
lt_less Less e = refl
lt_less Equal e = cc
lt_less Greater e = cc

turned_less : (r : Ordering) → not (is_le (ordering_reverse r)) ≡ true → r ≡ Less
turned_less Less e = refl
turned_less Equal e = cc
turned_less Greater e = cc

turned_not_greater : (r : Ordering) → not (is_lt (ordering_reverse r)) ≡ true → is_gt r ≡ false
turned_not_greater Less e = refl
turned_not_greater Equal e = refl
turned_not_greater Greater e = cc

not_greater_turned : (r : Ordering) → is_gt r ≡ false → not (is_lt (ordering_reverse r)) ≡ true
not_greater_turned Less e = refl
not_greater_turned Equal e = refl
not_greater_turned Greater e = cc

-- the fronts of bytes in order are in order
take_cmp : (n : ℕ) (one other : List ℕ) → is_gt (bytes_cmp one other) ≡ false → is_gt (bytes_cmp (take n one) (take n other)) ≡ false
take_cmp zero one other h = refl
take_cmp (suc n) [] [] h = refl
take_cmp (suc n) [] (y ∷ ys) h = refl
take_cmp (suc n) (x ∷ xs) [] h = cc
take_cmp (suc n) (x ∷ xs) (y ∷ ys) h =
    elim (nat_cmp x y) as (λ r. is_gt (ordering_then r (bytes_cmp xs ys)) ≡ false → is_gt (ordering_then r (bytes_cmp (take n xs) (take n ys))) ≡ false) [
      | Less ↦ λ _. refl
      | Equal ↦ λ rest. take_cmp n xs ys rest
      | Greater ↦ λ no. cc
    ] h

-- what lies before a cut goes on to all that is less
pub is_before-less : (cut : Cut) (one other : List ℕ) → bytes_cmp one other ≡ Less → is_before cut other ≡ true → is_before cut one ≡ true
is_before-less (Low Unbounded) one other less h = cc
is_before-less (Low (Closed edge)) one other less h =
    let below : bytes_cmp other edge.now ≡ Less = turned_less _ (subst (λ r. not (is_le r) ≡ true) (nat_list_cmp_total.antisymm edge.now other) h) in
    subst (λ r. not (is_le r) ≡ true) (sym (nat_list_cmp_total.antisymm edge.now one)) (ap (λ r. not (is_le (ordering_reverse r))) (nat_list_cmp_total.trans one other edge.now less below))
is_before-less (Low (Past edge)) one other less h =
    let upto_edge : is_gt (bytes_cmp other edge.now) ≡ false = turned_not_greater _ (subst (λ r. not (is_lt r) ≡ true) (nat_list_cmp_total.antisymm edge.now other) h) in
    subst (λ r. not (is_lt r) ≡ true) (sym (nat_list_cmp_total.antisymm edge.now one)) (not_greater_turned _ (upto nat_list_cmp_total one other edge.now (less_not_greater _ less) upto_edge))
is_before-less (High Unbounded) one other less h = refl
is_before-less (High (Closed edge)) one other less h = not_greater_le _ (upto nat_list_cmp_total one other edge.now (less_not_greater _ less) (le_not_greater _ h))
is_before-less (High (Past edge)) one other less h = ap is_lt (nat_list_cmp_total.trans one other edge.now less (lt_less _ h))
is_before-less (Prefix prefix) one other less h =
    let n = length prefix.now in
    not_greater_le _ (upto nat_list_cmp_total (take n one) (take n other) prefix.now (take_cmp n one other (less_not_greater _ less)) (le_not_greater _ h))

-- a term before another has a smaller field, or the same and smaller bytes
term_cmp-less : (one other : ℕ × List ℕ) → term_cmp one other ≡ Less → (one.0 < other.0) ⊎ ((one.0 ≡ other.0) × (bytes_cmp one.1 other.1 ≡ Less))
term_cmp-less one other e =
    by_ranked (one.0 < other.0) (one.0 ≡ other.0) (other.0 < one.0) (nat_cmp one.0 other.0) (ranked one.0 other.0 _ refl)
    (λ is smaller. inl smaller)
    (λ is same. inr (same, subst (λ r. ordering_then r (bytes_cmp one.1 other.1) ≡ Less) is e))
    (λ is greater. let no : Greater ≡ Less = subst (λ r. ordering_then r (bytes_cmp one.1 other.1) ≡ Less) is e in cc)

comes_before-true : (field : ℕ) (cut : Cut) (term : ℕ × List ℕ) → comes_before field cut term ≡ true → (term.0 < field) ⊎ ((term.0 ≡ field) × (is_before cut term.1 ≡ true))
comes_before-true field cut term e = grind arith

comes_before-smaller : (field : ℕ) (cut : Cut) (term : ℕ × List ℕ) → term.0 < field → comes_before field cut term ≡ true
comes_before-smaller field cut term smaller = grind arith

comes_before-same : (field : ℕ) (cut : Cut) (term : ℕ × List ℕ) → term.0 ≡ field → is_before cut term.1 ≡ true → comes_before field cut term ≡ true
comes_before-same field cut term same before = grind arith

pub comes_before-less : (field : ℕ) (cut : Cut) (one other : ℕ × List ℕ) → term_cmp one other ≡ Less → comes_before field cut other ≡ true → comes_before field cut one ≡ true
comes_before-less field cut one other less h =
    elim (term_cmp-less one other less) [
      | inl smaller ↦ comes_before-smaller field cut one
          (elim (comes_before-true field cut other h) [ inl below ↦ omega arith | inr here ↦ omega (arith, here.0) ])
      | inr same ↦ elim (comes_before-true field cut other h) [
        | inl below ↦ comes_before-smaller field cut one (omega (arith, same.0))
        | inr here ↦ comes_before-same field cut one (same.0 ∙ here.0) (is_before-less cut one.1 other.1 same.1 here.1)
      ]
    ]

-- where a binary search for a cut stands: the terms below `low` come before it, and those from `high` on don't
pub record Searched (terms : List (ℕ × List ℕ)) (field : ℕ) (cut : Cut) (low high : ℕ) : Type 0 where
  pub ordered : low ≤ high
  pub within : high ≤ length terms
  pub before : (k : ℕ) (term : ℕ × List ℕ) → slice_get terms k ≡ Some term → k < low → comes_before field cut term ≡ true
  pub past : (k : ℕ) (term : ℕ × List ℕ) → slice_get terms k ≡ Some term → high ≤ k → comes_before field cut term ≡ false

pub searched_at_start : (terms : List (ℕ × List ℕ)) (field : ℕ) (cut : Cut) → Searched terms field cut 0 (length terms)
searched_at_start terms field cut = record {
  ordered = omega arith;
  within = omega arith;
  before = λ k term at below. absurd (omega arith);
  past = λ k term at beyond. let inside : k < length terms = slice_get_within terms k term at in absurd (omega arith);
}

-- a term of the table comes before those with greater ordinals
before_later : (terms : List (ℕ × List ℕ)) (field : ℕ) (cut : Cut) (k later : ℕ) (one other : ℕ × List ℕ) → AreAscending terms → slice_get terms k ≡ Some one → slice_get terms later ≡ Some other → k < later → comes_before field cut other ≡ true → comes_before field cut one ≡ true
before_later terms field cut k later one other ascend at at_later earlier before =
    let inside : later < length terms = slice_get_within terms later other at_later in
    let less : term_cmp (get_or terms k one) (get_or terms later one) ≡ Less = Less-from_sorted term_cmp terms k later one ascend earlier inside in
    comes_before-less field cut one other
    (sym (ap (λ first. term_cmp first other) (get_or_from_slice_get terms k one one at)) ∙ sym (ap (λ second. term_cmp (get_or terms k one) second) (get_or_from_slice_get terms later other one at_later)) ∙ less)
    before

pub searched_above : (terms : List (ℕ × List ℕ)) (field : ℕ) (cut : Cut) (low middle high : ℕ) → Searched terms field cut low high → AreAscending terms → middle < high → ((term : ℕ × List ℕ) → slice_get terms middle ≡ Some term → comes_before field cut term ≡ true) → Searched terms field cut (middle + 1) high
searched_above terms field cut low middle high was ascend below before = record {
  ordered = omega arith;
  within = was.within;
  before = λ k term at here.
      elim (cases_lt k middle) [
        | inl earlier ↦
            let inside : middle < length terms = omega (arith, was.within) in
            let there : slice_get terms middle ≡ Some (get_or terms middle term) = slice_get-get_or terms middle term inside in
            before_later terms field cut k middle term _ ascend at there earlier (before _ there)
        | inr beyond ↦
            let same : k ≡ middle = omega arith in
            before term (sym (ap (slice_get terms) same) ∙ at)
      ];
  past = was.past;
}

not_true : (b : Bool) → (b ≡ true → ⊥) → b ≡ false
not_true b never = elim b as (λ v. (v ≡ true → ⊥) → v ≡ false) [ true ↦ λ so. absurd (so refl) | false ↦ λ _. refl ] never

pub searched_below : (terms : List (ℕ × List ℕ)) (field : ℕ) (cut : Cut) (low middle high : ℕ) → Searched terms field cut low high → AreAscending terms → low ≤ middle → middle < high → ((term : ℕ × List ℕ) → slice_get terms middle ≡ Some term → comes_before field cut term ≡ false) → Searched terms field cut low middle
searched_below terms field cut low middle high was ascend above below past = record {
  ordered = above;
  within = omega (arith, was.within);
  before = was.before;
  past = λ k term at here. not_true (comes_before field cut term) (λ so.
      elim (cases_lt middle k) [
        | inl later ↦
            let inside : middle < length terms = omega (arith, was.within) in
            let there : slice_get terms middle ≡ Some (get_or terms middle term) = slice_get-get_or terms middle term inside in
            false≢true (sym (past _ there) ∙ before_later terms field cut middle k _ term ascend there at later so)
        | inr not_later ↦
            let same : k ≡ middle = omega arith in
            false≢true (sym (past term (sym (ap (slice_get terms) same) ∙ at)) ∙ so)
      ]);
}

pub ruleset searches = (searched_at_start)

-- a term doesn't come before the cut at itself, and each smaller one does
own_cut : (field : ℕ) (bytes : Bor (List ℕ)) → comes_before field (Low (Closed bytes)) (field, bytes.now) ≡ false
own_cut field bytes =
    let same : not (is_le (bytes_cmp bytes.now bytes.now)) ≡ false = ap (λ r. not (is_le r)) (tied_itself nat_list_cmp_total bytes.now) in
    grind (arith, same)

less_own_cut : (field : ℕ) (bytes : Bor (List ℕ)) (term : ℕ × List ℕ) → term_cmp term (field, bytes.now) ≡ Less → comes_before field (Low (Closed bytes)) term ≡ true
less_own_cut field bytes term less =
    elim (term_cmp-less term (field, bytes.now) less) [
      | inl smaller ↦ comes_before-smaller field (Low (Closed bytes)) term smaller
      | inr same ↦ comes_before-same field (Low (Closed bytes)) term same.0
          (ap (λ r. not (is_le r)) (nat_list_cmp_total.antisymm bytes.now term.1) ∙ ap (λ r. not (is_le (ordering_reverse r))) same.1)
    ]

-- what isn't at its place in the order isn't in the table
pub missing : (terms : List (ℕ × List ℕ)) (field at : ℕ) (bytes : Bor (List ℕ)) → AreAscending terms → ((k : ℕ) (term : ℕ × List ℕ) → slice_get terms k ≡ Some term → (k < at) ↔ IsTrue (comes_before field (Low (Closed bytes)) term)) → (slice_get terms at ≡ Some (field, bytes.now) → ⊥) → Contains terms (field, bytes.now) → ⊥
missing terms field at bytes ascend split absent there =
    let place : ℕ = there.0 in
    let inside : place < length terms = there.1 in
    let at_place : slice_get terms place ≡ Some (field, bytes.now) = slice_get-get_or terms place (field, bytes.now) inside ∙ ap Some there.2 in
    elim (cases_lt place at) [
      | inl earlier ↦ false≢true (sym (own_cut field bytes) ∙ (split place _ at_place).0 earlier)
      | inr from ↦ elim (cases_lt at place) [
        | inl later ↦
            let one : ℕ × List ℕ = get_or terms at (field, bytes.now) in
            let here : at < length terms = omega (arith, inside, later) in
            let at_here : slice_get terms at ≡ Some one = slice_get-get_or terms at (field, bytes.now) here in
            let less : term_cmp one (get_or terms place (field, bytes.now)) ≡ Less = Less-from_sorted term_cmp terms at place (field, bytes.now) ascend later inside in
            let before : comes_before field (Low (Closed bytes)) one ≡ true = less_own_cut field bytes one (sym (ap (term_cmp one) there.2) ∙ less) in
            let below : at < at = (split at one at_here).1 before in
            absurd (omega (arith, below))
        | inr not_later ↦
            let same : at ≡ place = omega (arith, from, not_later) in
            absent (ap (slice_get terms) same ∙ at_place)
      ]
    ]

-- between two cuts: not before the first, and before the second
pub in_range : (first last end k : ℕ) (before ahead inside : Bool) → end ≡ max last first → (not before && ahead) ≡ inside → (k < first) ↔ IsTrue before → (k < last) ↔ IsTrue ahead → ((first ≤ k) × (k < end)) ↔ IsTrue inside
in_range first last end k true ahead inside ends is low high = (λ between. absurd (let below : k < first = low.1 refl in omega (arith, between.0)), λ so. absurd (false≢true (is ∙ so)))
in_range first last end k false true inside ends is low high = (
  λ _. sym is,
  λ _. (
    elim (cases_lt k first) [ inl below ↦ absurd (false≢true (low.0 below)) | inr from ↦ from ],
    let below : k < last = high.1 refl in omega (arith, ends),
  ),
)
in_range first last end k false false inside ends is low high = (
  λ between. elim (cases_lt k last) [ inl below ↦ absurd (false≢true (high.0 below)) | inr past ↦ absurd (omega (arith, ends, between.0, between.1)) ],
  λ so. absurd (false≢true (is ∙ so)),
)

pub is_between-cuts : (field : ℕ) (low high : Edge) (term : ℕ × List ℕ) → (not (comes_before field (Low low) term) && comes_before field (High high) term) ≡ is_between field low high term
is_between-cuts field low high term = grind arith

starts_with-cuts : (prefix bytes : List ℕ) → starts_with nat_eq bytes prefix ≡ (is_le (bytes_cmp prefix bytes) && is_le (bytes_cmp (take (length prefix) bytes) prefix))
starts_with-cuts [] [] = refl
starts_with-cuts [] (y ∷ ys) = refl
starts_with-cuts (x ∷ xs) [] = refl
starts_with-cuts (x ∷ xs) (y ∷ ys) =
    by_ranked (x < y) (x ≡ y) (y < x) (nat_cmp x y) (ranked x y _ refl)
    (λ is less. grind (arith, nat_tests))
    (λ is same. grind (arith, nat_tests, starts_with-cuts xs ys))
    (λ is greater. grind (arith, nat_tests))

pub has_prefix-cuts : (field : ℕ) (prefix : Bor (List ℕ)) (term : ℕ × List ℕ) → (not (comes_before field (Low (Closed prefix)) term) && comes_before field (Prefix prefix) term) ≡ has_prefix field prefix.now term
has_prefix-cuts field prefix term = grind (arith, starts_with-cuts prefix.now term.1)

pub ascending_at : (terms : List (ℕ × List ℕ)) (before at : ℕ) (one other : ℕ × List ℕ) → AreAscending terms → before < at → at < length terms → one ≡ get_or terms before one → other ≡ get_or terms at other → is_lt (term_cmp one other) ≡ true
ascending_at terms before at one other ascend earlier inside is_one is_other =
    let first : one ≡ get_or terms before (0, []) = is_one ∙ get_or_default terms before one (0, []) (omega arith) in
    let second : other ≡ get_or terms at (0, []) = is_other ∙ get_or_default terms at other (0, []) inside in
    ap (λ term. is_lt (term_cmp term other)) first
    ∙ ap (λ term. is_lt (term_cmp (get_or terms before (0, [])) term)) second
    ∙ ap is_lt (Less-from_sorted term_cmp terms before at (0, []) ascend earlier inside)
