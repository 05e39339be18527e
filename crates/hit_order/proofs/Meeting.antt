-- First keys that are met one after another.
use Rattle.std.specs.Prelude.{◌≡◌, ℕ, zero, suc, ◌-◌, ◌≤◌, ◌<◌, ℤ, pos, Bool, true, false, not, cond, List, [], ◌∷◌, ◌++◌, take, length, get_or, map, slice_get, Option, Some, None, IfSome, option_map, refl}
use Rattle.std.specs.Cmp.{IsStrictWeakOrder}
use Rattle.std.specs.List.{AllByRecursion, count_by}
use Rattle.std.specs.List.Sorted.{IsPermutation}
use Rattle.std.specs.Ordering.{int_cmp, is_lt, ordering_then}
use Rattle.std.specs.declared.cmp.Ordering.{Ordering}
use Rattle.std.specs.declared.cmp.Ordering.TheVariants.{Less, Equal, Greater}
use Rattle.std.proofs.Common.{arith, ap, sym, subst, ◌∙◌}
use Rattle.std.proofs.lemmas.List.{length-append, map-append}
use Rattle.std.proofs.lemmas.List.Elements.{All-from_recursion, All-take, recursion_from_All}
use Rattle.std.proofs.lemmas.List.Sorted.{All-permutation, sum_by-IsPermutation}
use Rattle.std.proofs.lemmas.List.Sums.{sum_by-cons, sum_by-take-le, sum_by_push}
use Rattle.query_ast.specs.Page.{comes_before, key_cmp}
use Rattle.query_ast.specs.declared.sort.Direction.{Direction}
use Rattle.query_ast.specs.declared.sort.Key.{Key}
use Rattle.hit_order.specs.Reach.{AreMet, IsNarrower, IsWide, Met, is_near, is_next, key_before}
use Rattle.hit_order.specs.Table.{number_or_null}
use Rattle.hit_order.proofs.Selecting.{split}
use Rattle.hit_order.proofs.Parting.{one}
use Rattle.hit_order.proofs.Reaching.{isnt}

-- numbers stand in one order
pub number_order : (d : Direction) → ((keys : Option ℤ → List Key) (number : Option ℤ → ℤ) (ds : List Direction) → IsStrictWeakOrder (comes_before keys number ds)) → IsStrictWeakOrder (λ one other. key_before d (number_or_null one) (number_or_null other))
number_order d law =
    let o = law (λ k. number_or_null k ∷ []) (λ k. pos 0) (d ∷ []) in
    record {
      one_way = λ x y before. sym (same (key_cmp d (number_or_null y) (number_or_null x))) ∙ o.one_way x y (same (key_cmp d (number_or_null x) (number_or_null y)) ∙ before);
      chain = λ x y z one other. sym (same (key_cmp d (number_or_null x) (number_or_null z))) ∙ o.chain x y z (same (key_cmp d (number_or_null x) (number_or_null y)) ∙ one) (same (key_cmp d (number_or_null y) (number_or_null z)) ∙ other);
    }
  where
    same : (c : Ordering) → is_lt (ordering_then (ordering_then c Equal) (int_cmp (pos 0) (pos 0))) ≡ is_lt c
    same Less = refl
    same Equal = refl
    same Greater = refl

-- ---- counts

count_all : (test : Key → Bool) (keys : List Key) → AllByRecursion (λ key. test key ≡ true) keys → count_by test keys ≡ length keys
count_all test [] all = refl
count_all test (key ∷ keys) all =
    let first = sum_by-cons (λ k. cond (test k) 1 0) key keys in
    let own : one (test key) ≡ 1 = rw all.0 refl in
    omega (arith, first, own, count_all test keys all.1)

wide_more : (most : ℕ) (d : Direction) (after bound : Option Key) (all : List Key) (key : Key) → IsWide most d after bound all → IsWide most d after bound (all ++ key ∷ [])
wide_more most d after None all key wide = tt
wide_more most d after (Some b) all key wide = omega (arith, wide, sum_by_push (λ k. cond (cond (is_next d after k) (is_near d (Some b) k) false) 1 0) all key)

-- ---- one key more

pub met_passed : (all : List Key) (met : Met) (key : Key) → AreMet all met → AreMet (all ++ key ∷ []) met
met_passed all met key are = record {
  counted = λ test. omega (arith, are.counted test, sum_by_push (λ k. cond (cond (is_next met.direction met.after k) (test k) false) 1 0) all key);
  wide = wide_more met.most met.direction met.after met.bound all key are.wide;
}

pub met_kept : (all : List Key) (met : Met) (key : Key) (keys : List Key) → is_next met.direction met.after key ≡ true → keys ≡ met.keys ++ key ∷ [] → AreMet all met → AreMet (all ++ key ∷ []) (record met { keys = keys })
met_kept all met key keys next is are = record {
  counted = λ test.
      let own = sum_by_push (λ k. cond (test k) 1 0) met.keys key in
      let other = sum_by_push (λ k. cond (cond (is_next met.direction met.after k) (test k) false) 1 0) all key in
      let same : one (cond (is_next met.direction met.after key) (test key) false) ≡ one (test key) = rw next refl in
      subst (λ (ks : List Key). count_by test ks ≤ count_by (λ k. cond (is_next met.direction met.after k) (test k) false) (all ++ key ∷ [])) (sym is) (omega (arith, are.counted test, own, other, same));
  wide = wide_more met.most met.direction met.after met.bound all key are.wide;
}

-- those that are left are the first, up to a new bound
pub met_cut : (all : List Key) (met : Met) (keys : List Key) (bound : Key) → ((test : Key → Bool) → count_by test keys ≤ count_by test met.keys) → length keys ≡ met.most → AllByRecursion (λ key. key_before met.direction bound key ≡ false) keys
    → AreMet all met → AreMet all (record met { bound = Some bound; keys = keys })
met_cut all met keys bound fewer long least are =
    record {
      counted = λ test. omega (arith, fewer test, are.counted test);
      wide = omega (arith, fewer (is_near met.direction (Some bound)), are.counted (is_near met.direction (Some bound)), count_all (is_near met.direction (Some bound)) keys (near keys least), long);
    }
  where
    near : (ks : List Key) → AllByRecursion (λ key. key_before met.direction bound key ≡ false) ks → AllByRecursion (λ key. is_near met.direction (Some bound) key ≡ true) ks
    near [] all = tt
    near (k ∷ ks) all = (ap not all.0, near ks all.1)

pub met_fewer : (all : List Key) (met : Met) (keys : List Key) → ((test : Key → Bool) → count_by test keys ≤ count_by test met.keys) → AreMet all met → AreMet all (record met { keys = keys })
met_fewer all met keys fewer are = record { counted = λ test. omega (arith, fewer test, are.counted test); wide = are.wide }

-- ---- keys that are numbers

abbrev Numbers : Type 0
Numbers = List (Option ℤ)

abbrev pub met_of : Direction → Option Key → ℕ → Option (Option ℤ) → Numbers → Met
met_of d after most bound keys = record { direction = d; after = after; most = most; bound = option_map number_or_null bound; keys = map number_or_null keys }

abbrev pub AllNear : Direction → Option (Option ℤ) → Numbers → Type 0
AllNear d bound keys = AllByRecursion (λ key. is_near d (option_map number_or_null bound) (number_or_null key) ≡ true) keys

all_mapped : (P : Key → Type 0) (keys : Numbers) → AllByRecursion (λ key. P (number_or_null key)) keys → AllByRecursion P (map number_or_null keys)
all_mapped P [] all = tt
all_mapped P (key ∷ keys) all = (all.0, all_mapped P keys all.1)

count_mapped : (test : Key → Bool) (keys : Numbers) → count_by test (map number_or_null keys) ≡ count_by (λ key. test (number_or_null key)) keys
count_mapped test [] = refl
count_mapped test (key ∷ keys) =
    omega (arith, sum_by-cons (λ k. cond (test k) 1 0) (number_or_null key) (map number_or_null keys), sum_by-cons (λ k. cond (test (number_or_null k)) 1 0) key keys, count_mapped test keys)

-- moved and cut
pub cut_fewer : (most : ℕ) (old moved new : Numbers) → IsPermutation old moved → new ≡ take most moved → (test : Key → Bool) → count_by test (map number_or_null new) ≤ count_by test (map number_or_null old)
cut_fewer most old moved new turned is test =
    let own : count_by test (map number_or_null new) ≡ count_by (λ key. test (number_or_null key)) (take most moved) = count_mapped test new ∙ ap (count_by (λ key. test (number_or_null key))) is in
    omega (arith, own, sum_by-take-le (λ key. cond (test (number_or_null key)) 1 0) moved most, sum_by-IsPermutation (λ key. cond (test (number_or_null key)) 1 0) old moved turned, count_mapped test old)

pub cut_all : (P : Option ℤ → Type 0) (most : ℕ) (old moved new : Numbers) → IsPermutation old moved → new ≡ take most moved → AllByRecursion P old → AllByRecursion P new
cut_all P most old moved new turned is all =
    subst (AllByRecursion P) (sym is) (recursion_from_All P (take most moved) (All-take P most moved (All-permutation P old moved turned (All-from_recursion P old all))))

-- the last of those that are kept, which none of the others stands behind
pub front_kept : (most : ℕ) (front back new : Numbers) (last : Option ℤ) → suc (length front) ≡ most → new ≡ front ++ last ∷ [] → new ≡ take most (front ++ last ∷ back)
front_kept most front back new last long is = is ∙ subst (λ n. front ++ last ∷ [] ≡ take n (front ++ last ∷ back)) long (by front)
  where
    by : (keys : Numbers) → keys ++ last ∷ [] ≡ take (suc (length keys)) (keys ++ last ∷ back)
    by [] = refl
    by (key ∷ keys) = ap (λ others. key ∷ others) (by keys)

pub last_of : (front : Numbers) (last : Option ℤ) → Some last ≡ slice_get (front ++ last ∷ []) (length (front ++ last ∷ []) - 1)
last_of front last =
    sym (ap (slice_get (front ++ last ∷ [])) (let all = length-append front (last ∷ []) in let own : length (front ++ last ∷ []) - 1 ≡ length front = omega (arith, all) in own) ∙ by front)
  where
    by : (xs : Numbers) → slice_get (xs ++ last ∷ []) (length xs) ≡ Some last
    by [] = refl
    by (x ∷ xs) = by xs

pub least_last : (d : Direction) → IsStrictWeakOrder (λ one other. key_before d (number_or_null one) (number_or_null other)) → (front : Numbers) (last : Option ℤ)
    → ((k : ℕ) (e : Option ℤ) → k < length front → key_before d (number_or_null last) (number_or_null (get_or front k e)) ≡ false)
    → AllByRecursion (λ key. key_before d (number_or_null last) (number_or_null key) ≡ false) (front ++ last ∷ [])
least_last d o [] last low =
    (split (key_before d (number_or_null last) (number_or_null last)) (λ yes. o.one_way last last yes) (λ no. no), tt)
least_last d o (x ∷ front) last low = (low 0 x (omega arith), least_last d o front last (λ k e below. low (suc k) e (omega (arith, below))))

-- ---- one number is kept

pub pushed_near : (d : Direction) (after : Option Key) (most : ℕ) (bound : Option (Option ℤ)) (keys pushed : Numbers) (key : Option ℤ) (old : Met) → met_of d after most bound keys ≡ old → is_near old.direction old.bound (number_or_null key) ≡ true → pushed ≡ keys ++ key ∷ []
    → AllNear d bound keys → AllNear d bound pushed
pushed_near d after most bound keys pushed key old seen near is all =
    let own : is_near d (option_map number_or_null bound) (number_or_null key) ≡ true = subst (λ (m : Met). is_near m.direction m.bound (number_or_null key) ≡ true) (sym seen) near in
    subst (AllNear d bound) (sym is) (by keys all own)
  where
    by : (ks : Numbers) → AllNear d bound ks → is_near d (option_map number_or_null bound) (number_or_null key) ≡ true → AllNear d bound (ks ++ key ∷ [])
    by [] all own = (own, tt)
    by (k ∷ ks) all own = (all.0, by ks all.1 own)

pub all_near_last : (d : Direction) (last : Option ℤ) (keys : Numbers) → AllByRecursion (λ key. key_before d (number_or_null last) (number_or_null key) ≡ false) keys → AllNear d (Some last) keys
all_near_last d last [] least = tt
all_near_last d last (k ∷ keys) least = (ap not least.0, all_near_last d last keys least.1)

pub keep_met : (d : Direction) (after : Option Key) (most : ℕ) (bound : Option (Option ℤ)) (keys pushed : Numbers) (key : Option ℤ) (old : Met) → met_of d after most bound keys ≡ old → is_next old.direction old.after (number_or_null key) ≡ true → pushed ≡ keys ++ key ∷ []
    → (all : List Key) → AreMet all old → AreMet (all ++ number_or_null key ∷ []) (met_of d after most bound pushed)
keep_met d after most bound keys pushed key old seen next is all are =
    met_kept all (met_of d after most bound keys) (number_or_null key) (map number_or_null pushed) (subst (λ (m : Met). is_next m.direction m.after (number_or_null key) ≡ true) (sym seen) next)
    (ap (map number_or_null) is ∙ map-append number_or_null keys (key ∷ [])) (subst (AreMet all) (sym seen) are)

pub keep_cut : (d : Direction) (after : Option Key) (most : ℕ) (bound : Option (Option ℤ)) (keys new : Numbers) (last : Option ℤ) → ((test : Key → Bool) → count_by test (map number_or_null new) ≤ count_by test (map number_or_null keys)) → length new ≡ most
    → AllByRecursion (λ key. key_before d (number_or_null last) (number_or_null key) ≡ false) new → (all : List Key) → AreMet all (met_of d after most bound keys) → AreMet all (met_of d after most (Some last) new)
keep_cut d after most bound keys new last fewer long least all are =
    met_cut all (met_of d after most bound keys) (map number_or_null new) (number_or_null last) fewer (length_mapped new ∙ long) (all_mapped (λ key. key_before d (number_or_null last) key ≡ false) new least) are
  where
    length_mapped : (ks : Numbers) → length (map number_or_null ks) ≡ length ks
    length_mapped [] = refl
    length_mapped (k ∷ ks) = ap suc (length_mapped ks)

-- what is said of a bound that was found
pub least_of : (d : Direction) (keys : Numbers) (found : Option (Option ℤ)) (last : Option ℤ) → found ≡ Some last → IfSome found (λ bound. AllByRecursion (λ key. key_before d (number_or_null bound) (number_or_null key) ≡ false) keys)
    → AllByRecursion (λ key. key_before d (number_or_null last) (number_or_null key) ≡ false) keys
least_of d keys found last is = subst (λ (o : Option (Option ℤ)). IfSome o (λ bound. AllByRecursion (λ key. key_before d (number_or_null bound) (number_or_null key) ≡ false) keys)) is

-- ---- the new bound is within reach

pub narrower : (d : Direction) → IsStrictWeakOrder (key_before d) → (after : Option Key) (most : ℕ) (bound : Option (Option ℤ)) (keys new : Numbers) (last : Option ℤ) (old : Met) → met_of d after most bound keys ≡ old → AllNear d bound new → Some last ≡ slice_get new (length new - 1)
    → IsNarrower old (met_of d after most (Some last) new)
narrower d o after most bound keys new last old seen near at =
    subst (λ (m : Met). IsNarrower m (met_of d after most (Some last) new)) seen
    (record { direction = refl; after = refl; most = refl; within = by bound (own new (length new - 1) near (sym at)) })
  where
    own : (ks : Numbers) (k : ℕ) → AllNear d bound ks → slice_get ks k ≡ Some last → is_near d (option_map number_or_null bound) (number_or_null last) ≡ true
    own [] k all at = absurd (let no : ⊥ = cc in no)
    own (x ∷ ks) zero all at = subst (λ (key : Option ℤ). is_near d (option_map number_or_null bound) (number_or_null key) ≡ true) (let e : x ≡ last = cc in e) all.0
    own (x ∷ ks) (suc k) all at = own ks k all.1 at

    by : (bound : Option (Option ℤ)) → is_near d (option_map number_or_null bound) (number_or_null last) ≡ true → (key : Key) → is_near d (Some (number_or_null last)) key ≡ true → is_near d (option_map number_or_null bound) key ≡ true
    by None near key own = refl
    by (Some b) near key own = ap not (o.chain (number_or_null b) (number_or_null last) key (isnt (key_before d (number_or_null b) (number_or_null last)) near) (isnt (key_before d (number_or_null last) key) own))
