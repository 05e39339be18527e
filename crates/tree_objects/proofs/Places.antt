-- No two objects of a tree have the same place.
use Rattle.std.proofs.Common.{◌≡◌, ℕ, zero, suc, ◌+◌, ◌-◌, ◌<◌, ◌≤◌, ◌⊎◌, inl, inr, ◌==◌, Bool, cond, List, [], ◌∷◌, ◌++◌, length, filter, get_or, refl, sym, ap, ◌∙◌, subst, arith, append_assoc}
use Rattle.std.proofs.lemmas.Bool.{eqb-true, eqb-false, eq-eqb}
use Rattle.std.proofs.lemmas.List.Sorted.{sum_by-IsPermutation}
use Rattle.std.specs.List.{AllByRecursion, flat_map, range_with_len}
use Rattle.tree_json.specs.Value.{JsonValue, is_object}
use Rattle.mapping.specs.Mapping.{Mapping, scope_at, outer, kids}
use Rattle.mapping.specs.IsMapping.{IsMapping}
use Rattle.tree_objects.specs.Tree.{Tree}
use Rattle.tree_objects.specs.Object.{Object, root, inside, scope, place, content, items, numbered, given, children, objects, block_objects}
use Rattle.mapping_body.proofs.Walks.{split}
use Rattle.mapping.proofs.Numbering.{times, times_counted, times_before}
use Rattle.tree_objects.proofs.Inside.{children_each, each_from, each_flat, each_append}

-- ---- lists whose elements have different places

abbrev Differs : Object → List Object → Type 0
Differs x ys = AllByRecursion (λ (y : Object). place x ≡ place y → ⊥) ys

abbrev AreApart : List Object → Type 0
AreApart [] = Unit {0}
AreApart (x ∷ xs) = Differs x xs × AreApart xs

apart_append : (P : List (ℕ × ℕ) → Type 0) (Q : List (ℕ × ℕ) → Type 0) (xs ys : List Object) → AreApart xs → AreApart ys
    → AllByRecursion (λ (x : Object). P (place x)) xs → AllByRecursion (λ (y : Object). Q (place y)) ys
    → ((p q : List (ℕ × ℕ)) → P p → Q q → p ≡ q → ⊥) → AreApart (xs ++ ys)
apart_append P Q [] ys one two all more apart = two
apart_append P Q (x ∷ xs) ys one two all more apart = (
  each_append (λ (y : Object). place x ≡ place y → ⊥) xs ys one.0 (each_from (λ (y : Object). Q (place y)) (λ (y : Object). place x ≡ place y → ⊥) (λ y q e. apart (place x) (place y) all.0 q e) ys more),
  apart_append P Q xs ys one.1 two all.1 more apart,
)

-- ---- places below a place

-- a place that goes on from another by a step of a nested path with an offset
record GoesBy (from : List (ℕ × ℕ)) (n k : ℕ) (to : List (ℕ × ℕ)) : Type 0 where
  rest : List (ℕ × ℕ)
  is : to ≡ from ++ (n, k) ∷ rest

same_rest : (from xs ys : List (ℕ × ℕ)) → from ++ xs ≡ from ++ ys → xs ≡ ys
same_rest [] xs ys e = e
same_rest (x ∷ from) xs ys e = same_rest from xs ys (cc)

same_step : (from : List (ℕ × ℕ)) (n k i j : ℕ) (to : List (ℕ × ℕ)) → GoesBy from n k to → GoesBy from i j to → (n ≡ i) × (k ≡ j)
same_step from n k i j to one two =
    let steps : (n, k) ∷ one.rest ≡ (i, j) ∷ two.rest = same_rest from ((n, k) ∷ one.rest) ((i, j) ∷ two.rest) (sym one.is ∙ two.is) in
    let first : (n, k) ≡ (i, j) = cc in
    (ap (λ (s : ℕ × ℕ). s.0) first, ap (λ (s : ℕ × ℕ). s.1) first)

not_further : (from : List (ℕ × ℕ)) (n k : ℕ) → GoesBy from n k from → ⊥
not_further [] n k one = let e : [] ≡ (n, k) ∷ one.rest = one.is in cc
not_further (x ∷ from) n k one = not_further from n k (record { rest = one.rest; is = let e : x ∷ from ≡ x ∷ (from ++ (n, k) ∷ one.rest) = one.is in cc })

-- ---- each nested path once

times_most : (n a len : ℕ) → times n (range_with_len a len) ≤ 1
unfolding times
times_most n a zero = omega arith
times_most n a (suc len) =
    split (a == n)
    (λ same. let e : a ≡ n = eqb-true a n same in rw (same, times_before n (a + 1) len (omega arith)) (omega arith))
    (λ other. rw other (times_most n (a + 1) len))

once_most : (m : Mapping) (n : ℕ) → IsMapping m → times n m.order ≤ 1
once_most m n is =
    rw (times_counted n m.order, sum_by-IsPermutation (λ x. cond (x == n) 1 0) (range_with_len 1 (length m.scopes - 1)) m.order is.numbers, sym (times_counted n (range_with_len 1 (length m.scopes - 1))))
    (times_most n 1 (length m.scopes - 1))

absent : (n : ℕ) (ks : List ℕ) → times n ks ≤ 0 → AllByRecursion (λ (k : ℕ). n ≡ k → ⊥) ks
unfolding times
absent n [] h = tt
absent n (k ∷ ks) h =
    split (k == n)
    (λ same. let more : 1 + times n ks ≤ 0 = rw same at h in absurd (omega arith))
    (λ other. let apart : k ≡ n → ⊥ = eqb-false k n other in ((λ e. apart (sym e)), absent n ks (rw other at h)))

each_kept : {A : Type 0} (P : A → Type 0) (t : A → Bool) (xs : List A) → AllByRecursion P xs → AllByRecursion P (filter t xs)
each_kept P t [] all = tt
each_kept P t (x ∷ xs) all =
    split (t x)
    (λ held. rw held (all.0, each_kept P t xs all.1))
    (λ failed. rw failed (each_kept P t xs all.1))

abbrev AreDifferent : List ℕ → Type 0
AreDifferent [] = Unit {0}
AreDifferent (n ∷ ns) = AllByRecursion (λ (k : ℕ). n ≡ k → ⊥) ns × AreDifferent ns

different_kept : (t : ℕ → Bool) (ks : List ℕ) → ((n : ℕ) → times n ks ≤ 1) → AreDifferent (filter t ks)
unfolding times
different_kept t [] most = tt
different_kept t (k ∷ ks) most =
    let itself : times k (k ∷ ks) ≤ 1 = most k in
    let fewer : 1 + times k ks ≤ 1 = rw (eq-eqb k k refl) at itself in
    let rest : (n : ℕ) → times n ks ≤ 1 = λ n.
    split (k == n)
    (λ same. let more : 1 + times n ks ≤ 1 = rw same at (most n) in omega (arith, more))
    (λ other. rw other at (most n)) in
    split (t k)
    (λ held. rw held (each_kept (λ (j : ℕ). k ≡ j → ⊥) t ks (absent k ks (omega (arith, fewer))), different_kept t ks rest))
    (λ failed. rw failed (different_kept t ks rest))

each_any : {A : Type 0} (P : A → Type 0) → ((x : A) → P x) → (xs : List A) → AllByRecursion P xs
each_any P all [] = tt
each_any P all (x ∷ xs) = (all x, each_any P all xs)

-- ---- the objects inside an object

place_step : (m : Mapping) (left : ℕ) (o d : Object) (n k : ℕ) (v : JsonValue) → (place d ≡ place (inside o n k v)) ⊎ ((i : ℕ) × (j : ℕ) × GoesBy (place (inside o n k v)) i j (place d)) → GoesBy (place o) n k (place d)
place_step m left o d n k v (inl same) = record { rest = []; is = same }
place_step m left o d n k v (inr further) = record { rest = (further.0, further.1) ∷ further.2.rest; is = further.2.is ∙ append_assoc (place o) ((n, k) ∷ []) ((further.0, further.1) ∷ further.2.rest) }

-- the place of each begins with that of the object
abbrev IsWithin : Object → Object → Type 0
IsWithin o d = (place d ≡ place o) ⊎ ((i : ℕ) × (j : ℕ) × GoesBy (place o) i j (place d))

each_within : (m : Mapping) (left : ℕ) (o : Object) → AllByRecursion (IsWithin o) (objects m left o)
each_within m zero o = (inl refl, tt)
each_within m (suc left) o =
    each_append (IsWithin o) (flat_map (λ n. flat_map (λ c. objects m left c) (children m o n)) (kids m (scope o))) (o ∷ [])
    (each_flat (IsWithin o) (λ n. flat_map (λ c. objects m left c) (children m o n)) (kids m (scope o))
    (each_any (λ (n : ℕ). AllByRecursion (IsWithin o) (flat_map (λ c. objects m left c) (children m o n))) (λ n.
    each_flat (IsWithin o) (λ c. objects m left c) (children m o n)
    (children_each (λ (c : Object). AllByRecursion (IsWithin o) (objects m left c)) m o n (λ j v.
    each_from (IsWithin (inside o n j v)) (IsWithin o) (λ d within. inr (n, j, place_step m left o d n j v within)) (objects m left (inside o n j v)) (each_within m left (inside o n j v)))))
    (kids m (scope o))))
    (inl refl, tt)

-- those inside a child at a nested path
each_by : (m : Mapping) (left : ℕ) (o : Object) (n k : ℕ) (v : JsonValue) → AllByRecursion (λ (d : Object). GoesBy (place o) n k (place d)) (objects m left (inside o n k v))
each_by m left o n k v =
    each_from (IsWithin (inside o n k v)) (λ (d : Object). GoesBy (place o) n k (place d)) (λ d within. place_step m left o d n k v within) (objects m left (inside o n k v)) (each_within m left (inside o n k v))

-- a place that goes on by a nested path, with an offset from a number on
abbrev GoesFrom : List (ℕ × ℕ) → ℕ → ℕ → List (ℕ × ℕ) → Type 0
GoesFrom from n k to = (j : ℕ) × (k ≤ j) × GoesBy from n j to

numbered_from : (m : Mapping) (left : ℕ) (o : Object) (n k least : ℕ) (vs : List JsonValue) → least ≤ k
    → AllByRecursion (λ (d : Object). GoesFrom (place o) n least (place d)) (flat_map (λ c. objects m left c) (numbered o n k vs))
numbered_from m left o n k least [] h = tt
numbered_from m left o n k least (v ∷ vs) h =
    each_append (λ (d : Object). GoesFrom (place o) n least (place d)) (objects m left (inside o n k v)) (flat_map (λ c. objects m left c) (numbered o n (k + 1) vs))
    (each_from (λ (d : Object). GoesBy (place o) n k (place d)) (λ (d : Object). GoesFrom (place o) n least (place d)) (λ d by. (k, h, by)) (objects m left (inside o n k v)) (each_by m left o n k v))
    (numbered_from m left o n (k + 1) least vs (omega arith))

numbered_apart : (m : Mapping) (left : ℕ) (o : Object) (n k : ℕ) (vs : List JsonValue) → ((j : ℕ) (v : JsonValue) → AreApart (objects m left (inside o n j v)))
    → AreApart (flat_map (λ c. objects m left c) (numbered o n k vs))
numbered_apart m left o n k [] apart = tt
numbered_apart m left o n k (v ∷ vs) apart =
    apart_append (λ p. GoesBy (place o) n k p) (λ q. GoesFrom (place o) n (k + 1) q) (objects m left (inside o n k v)) (flat_map (λ c. objects m left c) (numbered o n (k + 1) vs))
    (apart k v) (numbered_apart m left o n (k + 1) vs apart) (each_by m left o n k v) (numbered_from m left o n (k + 1) (k + 1) vs (omega arith))
    (λ p q one two e.
    let same = (same_step (place o) n k n two.0 q (subst (λ (to : List (ℕ × ℕ)). GoesBy (place o) n k to) e one) two.2).1 in
    let more = two.1 in
    absurd (omega (arith, same, more)))

children_apart : (m : Mapping) (left : ℕ) (o : Object) (n : ℕ) → ((j : ℕ) (v : JsonValue) → AreApart (objects m left (inside o n j v))) → AreApart (flat_map (λ c. objects m left c) (children m o n))
children_apart m left o n apart =
    split (given m o n)
    (λ held. rw held (numbered_apart m left o n 0 (filter is_object (items (content o) (scope_at m n).names)) apart))
    (λ failed. rw failed tt)

-- those inside an object at a nested path
abbrev at_path : Mapping → ℕ → Object → ℕ → List Object
at_path m left o n = flat_map (λ c. objects m left c) (children m o n)

abbrev GoesAlong : List (ℕ × ℕ) → ℕ → List (ℕ × ℕ) → Type 0
GoesAlong from n to = (k : ℕ) × GoesBy from n k to

each_along : (m : Mapping) (left : ℕ) (o : Object) (n : ℕ) → AllByRecursion (λ (d : Object). GoesAlong (place o) n (place d)) (at_path m left o n)
each_along m left o n =
    each_flat (λ (d : Object). GoesAlong (place o) n (place d)) (λ c. objects m left c) (children m o n)
    (children_each (λ (c : Object). AllByRecursion (λ (d : Object). GoesAlong (place o) n (place d)) (objects m left c)) m o n (λ j v.
    each_from (λ (d : Object). GoesBy (place o) n j (place d)) (λ (d : Object). GoesAlong (place o) n (place d)) (λ d by. (j, by)) (objects m left (inside o n j v)) (each_by m left o n j v)))

abbrev GoesApart : List (ℕ × ℕ) → ℕ → List (ℕ × ℕ) → Type 0
GoesApart from n to = (i : ℕ) × (n ≡ i → ⊥) × GoesAlong from i to

paths_apart : (m : Mapping) (left : ℕ) (o : Object) (ns : List ℕ) → AreDifferent ns → ((n j : ℕ) (v : JsonValue) → AreApart (objects m left (inside o n j v))) → AreApart (flat_map (at_path m left o) ns)
paths_apart m left o [] different apart = tt
paths_apart m left o (n ∷ ns) different apart =
    apart_append (GoesAlong (place o) n) (GoesApart (place o) n) (at_path m left o n) (flat_map (at_path m left o) ns)
    (children_apart m left o n (apart n)) (paths_apart m left o ns different.1 apart) (each_along m left o n)
    (each_flat (λ (d : Object). GoesApart (place o) n (place d)) (at_path m left o) ns
    (each_from (λ (i : ℕ). n ≡ i → ⊥) (λ (i : ℕ). AllByRecursion (λ (d : Object). GoesApart (place o) n (place d)) (at_path m left o i)) (λ i other.
    each_from (λ (d : Object). GoesAlong (place o) i (place d)) (λ (d : Object). GoesApart (place o) n (place d)) (λ d along. (i, other, along)) (at_path m left o i) (each_along m left o i))
    ns different.0))
    (λ p q one two e. two.1 (same_step (place o) n one.0 two.0 two.2.0 q (subst (λ (to : List (ℕ × ℕ)). GoesBy (place o) n one.0 to) e one.1) two.2.1).0)

objects_apart : (m : Mapping) (left : ℕ) (o : Object) → IsMapping m → AreApart (objects m left o)
objects_apart m zero o is = (tt, tt)
objects_apart m (suc left) o is =
    apart_append (λ p. (n : ℕ) × GoesAlong (place o) n p) (λ q. q ≡ place o) (flat_map (at_path m left o) (kids m (scope o))) (o ∷ [])
    (paths_apart m left o (kids m (scope o)) (different_kept (λ n. outer m n == scope o) m.order (λ n. once_most m n is)) (λ n j v. objects_apart m left (inside o n j v) is))
    (tt, tt)
    (each_flat (λ (d : Object). (n : ℕ) × GoesAlong (place o) n (place d)) (at_path m left o) (kids m (scope o))
    (each_any (λ (n : ℕ). AllByRecursion (λ (d : Object). (i : ℕ) × GoesAlong (place o) i (place d)) (at_path m left o n)) (λ n.
    each_from (λ (d : Object). GoesAlong (place o) n (place d)) (λ (d : Object). (i : ℕ) × GoesAlong (place o) i (place d)) (λ d along. (n, along)) (at_path m left o n) (each_along m left o n))
    (kids m (scope o))))
    (refl, tt)
    (λ p q one two e. not_further (place o) one.0 one.1.0 (subst (λ (to : List (ℕ × ℕ)). GoesBy (place o) one.0 one.1.0 to) (e ∙ two) one.1.1))

-- ---- by their numbers in the block

differs_at : (x : Object) (ys : List Object) (j : ℕ) (d : Object) → Differs x ys → j < length ys → place x ≡ place (get_or ys j d) → ⊥
differs_at x [] j d all h = absurd (omega arith)
differs_at x (y ∷ ys) zero d all h = all.0
differs_at x (y ∷ ys) (suc j) d all h = let less : j < length ys = omega arith in differs_at x ys j d all.1 less

apart_at : (xs : List Object) (i j : ℕ) (d : Object) → AreApart xs → i < j → j < length xs → place (get_or xs i d) ≡ place (get_or xs j d) → ⊥
apart_at [] i j d apart h k = absurd (omega arith)
apart_at (x ∷ xs) i zero d apart h k = absurd (omega arith)
apart_at (x ∷ xs) zero (suc j) d apart h k = let less : j < length xs = omega arith in differs_at x xs j d apart.0 less
apart_at (x ∷ xs) (suc i) (suc j) d apart h k =
    let before : i < j = omega arith in
    let less : j < length xs = omega arith in
    apart_at xs i j d apart.1 before less

-- an object stands at one place of the block alone
pub places_differ : (m : Mapping) (tree : Tree) (i j : ℕ) (d : Object) → IsMapping m → i < j → j < length (block_objects m tree)
    → place (get_or (block_objects m tree) i d) ≡ place (get_or (block_objects m tree) j d) → ⊥
unfolding block_objects
places_differ m tree i j d is h k = apart_at (objects m (length m.scopes) (root tree)) i j d (objects_apart m (length m.scopes) (root tree) is) h k
