-- The objects inside an object, by their scopes.
use Rattle.std.proofs.Common.{◌≡◌, ℕ, zero, suc, ◌+◌, ◌<◌, ◌≤◌, ◌⊎◌, inl, inr, ◌==◌, Bool, true, List, [], ◌∷◌, ◌++◌, length, filter, get_or, refl, sym, ap, ◌∙◌, subst, arith, append_assoc}
use Rattle.std.proofs.lemmas.Bool.{cases_lt, eqb-true, eq-eqb, ne_eqb}
use Rattle.std.proofs.lemmas.List.Elements.{filter-append, Contains-append_cases, All-contains, All-from_recursion}
use Rattle.std.proofs.lemmas.List.Concat.{flat_map-append}
use Rattle.std.specs.List.{AllByRecursion, Contains, flat_map}
use Rattle.tree_json.specs.Value.{JsonValue, is_object}
use Rattle.mapping.specs.Mapping.{Mapping, scope_at, outer, kids, IsAbove}
use Rattle.mapping.specs.IsMapping.{IsMapping}
use Rattle.tree_objects.specs.Tree.{Tree}
use Rattle.tree_objects.specs.Object.{Object, root, inside, scope, content, items, numbered, place, around, given, children, way, below_along, below, objects, block_objects}
use Rattle.tree_objects.specs.Enclosing.{stands_at, IsEnclosing}
use Rattle.mapping_body.proofs.Walks.{split}
use Rattle.mapping.proofs.Above.{above_lt, above_in_range, is_above_through, outer_above, root_above}
use Rattle.mapping.proofs.Nearest.{append_nil}
use Rattle.mapping.proofs.Numbering.{IsKid, each_kid, one_kid}
use Rattle.tree_objects.proofs.Ways.{IsUpTo, toward, toward_alone, way_none, two_parts, downwards}

-- ---- what holds of each

numbered_each : (P : Object → Type 0) (o : Object) (n k : ℕ) (vs : List JsonValue) → ((j : ℕ) (v : JsonValue) → P (inside o n j v)) → AllByRecursion P (numbered o n k vs)
numbered_each P o n k [] each = tt
numbered_each P o n k (v ∷ vs) each = (each k v, numbered_each P o n (k + 1) vs each)

-- what holds of each object at a nested path inside one holds of each of its children there
pub children_each : (P : Object → Type 0) (m : Mapping) (o : Object) (n : ℕ) → ((j : ℕ) (v : JsonValue) → P (inside o n j v)) → AllByRecursion P (children m o n)
children_each P m o n each =
    split (given m o n)
    (λ held. rw held (numbered_each P o n 0 (filter is_object (items (content o) (scope_at m n).names)) each))
    (λ failed. rw failed tt)

pub filter_flat : {A B : Type 0} (t : B → Bool) (f : A → List B) (xs : List A) → filter t (flat_map f xs) ≡ flat_map (λ x. filter t (f x)) xs
filter_flat t f [] = refl
filter_flat t f (x ∷ xs) = filter-append t (f x) (flat_map f xs) ∙ rw (filter_flat t f xs) refl

pub flat_same : {A B : Type 0} (f g : A → List B) (xs : List A) → AllByRecursion (λ (x : A). f x ≡ g x) xs → flat_map f xs ≡ flat_map g xs
flat_same f g [] all = refl
flat_same f g (x ∷ xs) all = rw (all.0, flat_same f g xs all.1) refl

pub flat_none : {A B : Type 0} (f : A → List B) (xs : List A) → AllByRecursion (λ (x : A). f x ≡ []) xs → flat_map f xs ≡ []
flat_none f [] all = refl
flat_none f (x ∷ xs) all = rw (all.0, flat_none f xs all.1) refl

flat_all : {A B : Type 0} (f g : A → List B) → ((x : A) → f x ≡ g x) → (xs : List A) → flat_map f xs ≡ flat_map g xs
flat_all f g same [] = refl
flat_all f g same (x ∷ xs) = rw (same x, flat_all f g same xs) refl

pub each_append : {A : Type 0} (P : A → Type 0) (xs ys : List A) → AllByRecursion P xs → AllByRecursion P ys → AllByRecursion P (xs ++ ys)
each_append P [] ys one two = two
each_append P (x ∷ xs) ys one two = (one.0, each_append P xs ys one.1 two)

flat_of_flat : {A B C : Type 0} (f : A → List B) (g : B → List C) (xs : List A) → flat_map g (flat_map f xs) ≡ flat_map (λ x. flat_map g (f x)) xs
flat_of_flat f g [] = refl
flat_of_flat f g (x ∷ xs) = flat_map-append g (f x) (flat_map f xs) ∙ rw (flat_of_flat f g xs) refl

contains_cons : {A : Type 0} (x y : A) (xs : List A) → Contains xs y → Contains (x ∷ xs) y
contains_cons x y xs has = let less = has.1 in (suc has.0, omega (arith, less), has.2)

contains_first : {A : Type 0} (x : A) (xs : List A) → Contains (x ∷ xs) x
contains_first x xs = (0, omega arith, refl)

contains_by : {A : Type 0} (x y : A) (xs : List A) (k : ℕ) → k < length (x ∷ xs) → get_or (x ∷ xs) k y ≡ y → (x ≡ y) ⊎ Contains xs y
contains_by x y xs zero h e = inl e
contains_by x y xs (suc k) h e = let less : k < length xs = omega arith in inr (k, less, e)

contains_cases : {A : Type 0} (x y : A) (xs : List A) → Contains (x ∷ xs) y → (x ≡ y) ⊎ Contains xs y
contains_cases x y xs has = contains_by x y xs has.0 has.1 has.2

contains_filter : {A : Type 0} (t : A → Bool) (xs : List A) (y : A) → Contains xs y → t y ≡ true → Contains (filter t xs) y
contains_filter t [] y has held = let none = has.1 in absurd (omega (arith, none))
contains_filter {A} t (x ∷ xs) y has held = elim (contains_cases x y xs has) [
  | inl same ↦
      let first : t x ≡ true = ap t same ∙ held in
      rw first (subst (λ (z : A). Contains (x ∷ filter t xs) z) same (contains_first x (filter t xs)))
  | inr later ↦
      let rest = contains_filter t xs y later held in
      split (t x)
      (λ kept. rw kept (contains_cons x y (filter t xs) rest))
      (λ dropped. rw dropped rest)
]

filter_contains : {A : Type 0} (t : A → Bool) (xs : List A) (y : A) → Contains (filter t xs) y → Contains xs y × (t y ≡ true)
filter_contains t [] y has = let none = has.1 in absurd (omega (arith, none))
filter_contains {A} t (x ∷ xs) y has =
    split (t x)
    (λ kept. elim (contains_cases x y (filter t xs) (rw kept at has)) [
      | inl same ↦ (subst (λ (z : A). Contains (x ∷ xs) z) same (contains_first x xs), ap t (sym same) ∙ kept)
      | inr later ↦ let rest = filter_contains t xs y later in (contains_cons x y xs rest.0, rest.1)
    ])
    (λ dropped. let rest = filter_contains t xs y (rw dropped at has) in (contains_cons x y xs rest.0, rest.1))

contains_flat : {A B : Type 0} (f : A → List B) (xs : List A) (y : B) → Contains (flat_map f xs) y → (x : A) × Contains xs x × Contains (f x) y
contains_flat f [] y has = let none = has.1 in absurd (omega (arith, none))
contains_flat f (x ∷ xs) y has = elim (Contains-append_cases (f x) (flat_map f xs) y has) [
  | inl first ↦ (x, contains_first x xs, first)
  | inr later ↦ let rest = contains_flat f xs y later in (rest.0, contains_cons x rest.0 xs rest.1, rest.2)
]

pub each_from : {A : Type 0} (P Q : A → Type 0) → ((x : A) → P x → Q x) → (xs : List A) → AllByRecursion P xs → AllByRecursion Q xs
each_from P Q to [] all = tt
each_from P Q to (x ∷ xs) all = (to x all.0, each_from P Q to xs all.1)

-- ---- the objects of a scope inside an object

abbrev found : Mapping → ℕ → ℕ → Object → List Object
found m left p o = filter (stands_at p) (objects m left o)

-- those among its children at a nested path
abbrev found_at : Mapping → ℕ → ℕ → Object → ℕ → List Object
found_at m left p o n = flat_map (found m left p) (children m o n)

found_by_kids : (m : Mapping) (left p : ℕ) (o : Object) → found m (suc left) p o ≡ flat_map (found_at m left p o) (kids m (scope o)) ++ filter (stands_at p) (o ∷ [])
found_by_kids m left p o =
    filter-append (stands_at p) (flat_map (λ n. flat_map (λ c. objects m left c) (children m o n)) (kids m (scope o))) (o ∷ [])
    ∙ ap (λ (xs : List Object). xs ++ filter (stands_at p) (o ∷ []))
    (filter_flat (stands_at p) (λ n. flat_map (λ c. objects m left c) (children m o n)) (kids m (scope o))
    ∙ flat_all (λ n. filter (stands_at p) (flat_map (λ c. objects m left c) (children m o n))) (found_at m left p o) (λ n. filter_flat (stands_at p) (λ c. objects m left c) (children m o n)) (kids m (scope o)))

alone : (p : ℕ) (o : Object) → scope o ≡ p → filter (stands_at p) (o ∷ []) ≡ o ∷ []
alone p o e = rw (eq-eqb (scope o) p e) refl

other_scope : (p : ℕ) (o : Object) → (scope o ≡ p → ⊥) → filter (stands_at p) (o ∷ []) ≡ []
other_scope p o e = rw (ne_eqb (scope o) p e) refl

-- a nested path lies below its home
up_to_above_kid : (m : Mapping) (s n p : ℕ) → IsMapping m → IsKid m s n → IsUpTo m n p → IsAbove m s p
up_to_above_kid m s n p is kid up =
    let over : IsAbove m s n = subst (λ (q : ℕ). IsAbove m q n) kid.home (outer_above m n is kid.positive kid.in_range) in
    elim up [
      | inl same ↦ subst (λ (q : ℕ). IsAbove m s q) same over
      | inr above ↦ is_above_through m s n p over above
    ]

kid_behind : (m : Mapping) (s n p : ℕ) → IsMapping m → IsKid m s n → s ≡ p → IsUpTo m n p → ⊥
kid_behind m s n p is kid e up =
    let less = above_lt m s p is (up_to_above_kid m s n p is kid up) in
    absurd (omega (arith, less, e))

-- an object whose scope is neither p nor above p has no object of scope p inside
none_inside : (m : Mapping) (left p : ℕ) (o : Object) → IsMapping m → (IsUpTo m (scope o) p → ⊥) → found m left p o ≡ []
none_inside m zero p o is away = other_scope p o (λ e. away (inl e))
none_inside m (suc left) p o is away =
    found_by_kids m left p o
    ∙ rw (flat_none (found_at m left p o) (kids m (scope o)) (each_from (IsKid m (scope o)) (λ (n : ℕ). found_at m left p o n ≡ []) (λ n kid.
    flat_none (found m left p) (children m o n) (children_each (λ (c : Object). found m left p c ≡ []) m o n (λ j v.
    none_inside m left p (inside o n j v) is (λ up. away (inr (up_to_above_kid m (scope o) n p is kid up))))))
    (kids m (scope o)) (each_kid m (scope o) is))) (other_scope p o (λ e. away (inl e)))

-- nor has one among those at its own scope any but itself
pub itself : (m : Mapping) (left p : ℕ) (o : Object) → IsMapping m → scope o ≡ p → found m left p o ≡ o ∷ []
itself m zero p o is e = alone p o e
itself m (suc left) p o is e =
    found_by_kids m left p o
    ∙ rw (flat_none (found_at m left p o) (kids m (scope o)) (each_from (IsKid m (scope o)) (λ (n : ℕ). found_at m left p o n ≡ []) (λ n kid.
    flat_none (found m left p) (children m o n) (children_each (λ (c : Object). found m left p c ≡ []) m o n (λ j v.
    none_inside m left p (inside o n j v) is (λ up. kid_behind m (scope o) n p is kid e up))))
    (kids m (scope o)) (each_kid m (scope o) is))) (alone p o e)

-- ---- those of a scope below it

way_to_itself : (m : Mapping) (n p : ℕ) → n ≡ p → way m n p ≡ []
way_to_itself m n p same = ap (way m n) (sym same) ∙ way_none m n

-- the objects of scope p inside an object that stands above p are those below it there
pub found_below : (m : Mapping) (left p : ℕ) (o : Object) → IsMapping m → IsAbove m (scope o) p → p ≤ scope o + left → filter (stands_at p) (objects m left o) ≡ below m o p
unfolding below
found_below m zero p o is above h = let less = above_lt m (scope o) p is above in absurd (omega (arith, less, h))
found_below m (suc left) p o is above h =
    let less = above_lt m (scope o) p is above in
    let next = toward m (scope o) p is above in
    let positive = next.1.kid.positive in
    let home = next.1.kid.home in
    let fall = is.behind next.0 positive in
    found_by_kids m left p o
    ∙ ap (λ (xs : List Object). flat_map (found_at m left p o) (kids m (scope o)) ++ xs) (other_scope p o (λ e. omega (arith, less, e)))
    ∙ append_nil (flat_map (found_at m left p o) (kids m (scope o)))
    ∙ one_kid m (scope o) next.0 (found_at m left p o) is next.1.kid
    (each_from (IsKid m (scope o)) (λ (n : ℕ). (n ≡ next.0 → ⊥) → found_at m left p o n ≡ []) (λ n kid other.
    flat_none (found m left p) (children m o n) (children_each (λ (c : Object). found m left p c ≡ []) m o n (λ j v.
    none_inside m left p (inside o n j v) is (λ up. other (toward_alone m (scope o) p next.0 n is next.1.kid kid next.1.up_to up)))))
    (kids m (scope o)) (each_kid m (scope o) is))
    ∙ flat_same (found m left p) (λ c. below_along m c (way m next.0 p)) (children m o next.0)
    (children_each (λ (c : Object). found m left p c ≡ below_along m c (way m next.0 p)) m o next.0 (λ j v.
    elim next.1.up_to [
      | inl same ↦ itself m left p (inside o next.0 j v) is same ∙ ap (below_along m (inside o next.0 j v)) (sym (way_to_itself m next.0 p same))
      | inr further ↦ found_below m left p (inside o next.0 j v) is further (omega (arith, fall, home, h))
    ]))
    ∙ ap (below_along m o) (sym next.1.way)

below_itself : (m : Mapping) (o : Object) (p : ℕ) → scope o ≡ p → below m o p ≡ o ∷ []
unfolding below
below_itself m o p e = ap (below_along m o) (way_to_itself m (scope o) p e)

-- ---- the objects of a tree

-- the objects of a tree at a scope
pub found_in_tree : (m : Mapping) (tree : Tree) (p : ℕ) → IsMapping m → p < length m.scopes → filter (stands_at p) (block_objects m tree) ≡ below m (root tree) p
unfolding block_objects
found_in_tree m tree p is h = elim (cases_lt 0 p) [
  | inl positive ↦ found_below m (length m.scopes) p (root tree) is (root_above m p is positive h) (omega arith)
  | inr least ↦
      let none : 0 ≡ p = omega arith in
      itself m (length m.scopes) p (root tree) is none ∙ sym (below_itself m (root tree) p none)
]

pub root_found : (m : Mapping) (tree : Tree) → IsMapping m → filter (stands_at 0) (block_objects m tree) ≡ root tree ∷ []
unfolding block_objects
root_found m tree is = itself m (length m.scopes) 0 (root tree) is refl

-- each stands at a scope of the mapping
pub each_flat : {A B : Type 0} (P : B → Type 0) (f : A → List B) (xs : List A) → AllByRecursion (λ (x : A). AllByRecursion P (f x)) xs → AllByRecursion P (flat_map f xs)
each_flat P f [] all = tt
each_flat P f (x ∷ xs) all = each_append P (f x) (flat_map f xs) all.0 (each_flat P f xs all.1)

each_in_range : (m : Mapping) (left : ℕ) (o : Object) → IsMapping m → scope o < length m.scopes → AllByRecursion (λ (c : Object). scope c < length m.scopes) (objects m left o)
each_in_range m zero o is h = (h, tt)
each_in_range m (suc left) o is h =
    each_append (λ (c : Object). scope c < length m.scopes) (flat_map (λ n. flat_map (λ c. objects m left c) (children m o n)) (kids m (scope o))) (o ∷ [])
    (each_flat (λ (c : Object). scope c < length m.scopes) (λ n. flat_map (λ c. objects m left c) (children m o n)) (kids m (scope o))
    (each_from (IsKid m (scope o)) (λ (n : ℕ). AllByRecursion (λ (c : Object). scope c < length m.scopes) (flat_map (λ c. objects m left c) (children m o n))) (λ n kid.
    each_flat (λ (c : Object). scope c < length m.scopes) (λ c. objects m left c) (children m o n)
    (children_each (λ (c : Object). AllByRecursion (λ (d : Object). scope d < length m.scopes) (objects m left c)) m o n (λ j v.
    each_in_range m left (inside o n j v) is kid.in_range)))
    (kids m (scope o)) (each_kid m (scope o) is)))
    (h, tt)

pub tree_in_range : (m : Mapping) (tree : Tree) → IsMapping m → AllByRecursion (λ (c : Object). scope c < length m.scopes) (block_objects m tree)
unfolding block_objects
tree_in_range m tree is = each_in_range m (length m.scopes) (root tree) is is.some

-- ---- the way out

pub around_itself : (o : Object) (p : ℕ) → scope o ≡ p → around o p ≡ o
around_itself (root tree) p e = refl
around_itself (inside outer n k v) p e = rw (eq-eqb n p e) refl

around_step : (o : Object) (n p j : ℕ) (v : JsonValue) → p < n → around (inside o n j v) p ≡ around o p
around_step o n p j v h = rw (ne_eqb n p (λ e. omega (arith, h, e))) refl

pub around_child : (m : Mapping) (o : Object) (n p : ℕ) → p < n → scope o ≡ p → AllByRecursion (λ (c : Object). around c p ≡ o) (children m o n)
around_child m o n p h e = children_each (λ (c : Object). around c p ≡ o) m o n (λ j v. around_step o n p j v h ∙ around_itself o p e)

around_along : (m : Mapping) (e o : Object) (p : ℕ) (ns : List ℕ) → around o p ≡ e → AllByRecursion (λ (n : ℕ). p < n) ns → AllByRecursion (λ (c : Object). around c p ≡ e) (below_along m o ns)
around_along m e o p [] is_e all = (is_e, tt)
around_along m e o p (n ∷ ns) is_e all =
    each_flat (λ (c : Object). around c p ≡ e) (λ c. below_along m c ns) (children m o n)
    (children_each (λ (c : Object). AllByRecursion (λ (d : Object). around d p ≡ e) (below_along m c ns)) m o n (λ j v.
    around_along m e (inside o n j v) p ns (around_step o n p j v all.0 ∙ is_e) all.1))

-- from each object below another the way out leads to that one
pub around_below : (m : Mapping) (e : Object) (p : ℕ) → IsMapping m → IsUpTo m (scope e) p → AllByRecursion (λ (c : Object). around c (scope e) ≡ e) (below m e p)
unfolding below
around_below m e p is up = around_along m e e (scope e) (way m (scope e) p) (around_itself e (scope e) refl) (downwards m (scope e) p is up)

-- the place of the object around one is how its place begins
pub around_place : (o : Object) (p : ℕ) → (rest : List (ℕ × ℕ)) × (place o ≡ place (around o p) ++ rest)
around_place (root tree) p = ([], refl)
around_place (inside outer n k v) p =
    split (n == p)
    (λ same. rw same ([], sym (append_nil (place outer ++ (n, k) ∷ []))))
    (λ other.
    let further = around_place outer p in
    rw other (further.0 ++ (n, k) ∷ [], ap (λ (ps : List (ℕ × ℕ)). ps ++ (n, k) ∷ []) further.1 ∙ append_assoc (place (around outer p)) further.0 ((n, k) ∷ [])))

-- ---- the object around one

root_up_to : (m : Mapping) (s : ℕ) → IsMapping m → s < length m.scopes → IsUpTo m 0 s
root_up_to m s is h = elim (cases_lt 0 s) [
  | inl positive ↦ inr (root_above m s is positive h)
  | inr least ↦ inl (omega arith)
]

below_in_parts : (m : Mapping) (o : Object) (ns ms : List ℕ) → below_along m o (ns ++ ms) ≡ flat_map (λ e. below_along m e ms) (below_along m o ns)
below_in_parts m o [] ms = sym (append_nil (below_along m o ms))
below_in_parts m o (n ∷ ns) ms =
    flat_same (λ c. below_along m c (ns ++ ms)) (λ c. flat_map (λ e. below_along m e ms) (below_along m c ns)) (children m o n)
    (children_each (λ (c : Object). below_along m c (ns ++ ms) ≡ flat_map (λ e. below_along m e ms) (below_along m c ns)) m o n (λ j v. below_in_parts m (inside o n j v) ns ms))
    ∙ sym (flat_of_flat (λ c. below_along m c ns) (λ e. below_along m e ms) (children m o n))

-- the object e of a tree at scope s that o lies in
record LiesIn (m : Mapping) (tree : Tree) (s : ℕ) (o e : Object) : Type 0 where
  of_tree : Contains (block_objects m tree) e
  there : scope e ≡ s
  inside : Contains (below m e (scope o)) o

lies_in : (m : Mapping) (tree : Tree) (s : ℕ) (o : Object) → IsMapping m → Contains (block_objects m tree) o → IsAbove m s (scope o) → (e : Object) × LiesIn m tree s o e
unfolding below
lies_in m tree s o is of above =
    let range = above_in_range m s (scope o) above in
    let less = above_lt m s (scope o) is above in
    let among : Contains (filter (stands_at (scope o)) (block_objects m tree)) o = contains_filter (stands_at (scope o)) (block_objects m tree) o of (eq-eqb (scope o) (scope o) refl) in
    let here : Contains (below_along m (root tree) (way m 0 (scope o))) o = subst (λ (os : List Object). Contains os o) (found_in_tree m tree (scope o) is range) among in
    let parts : below_along m (root tree) (way m 0 (scope o)) ≡ flat_map (λ e. below_along m e (way m s (scope o))) (below_along m (root tree) (way m 0 s)) =
    ap (below_along m (root tree)) (two_parts m 0 s (scope o) is (root_up_to m s is (omega (arith, less, range))) above) ∙ below_in_parts m (root tree) (way m 0 s) (way m s (scope o)) in
    let through = contains_flat (λ e. below_along m e (way m s (scope o))) (below_along m (root tree) (way m 0 s)) o (subst (λ (os : List Object). Contains os o) parts here) in
    let found_there : Contains (filter (stands_at s) (block_objects m tree)) through.0 = subst (λ (os : List Object). Contains os through.0) (sym (found_in_tree m tree s is (omega (arith, less, range)))) through.1 in
    let kept = filter_contains (stands_at s) (block_objects m tree) through.0 found_there in
    let there : scope through.0 ≡ s = eqb-true (scope through.0) s kept.1 in
    (through.0, record { of_tree = kept.0; there = there; inside = subst (λ (n : ℕ). Contains (below_along m through.0 (way m n (scope o))) o) (sym there) through.2 })

back_to : (m : Mapping) (s : ℕ) (o e : Object) → IsMapping m → IsAbove m s (scope o) → scope e ≡ s → Contains (below m e (scope o)) o → e ≡ around o s
back_to m s o e is above there within =
    let all = All-from_recursion (λ (c : Object). around c (scope e) ≡ e) (below m e (scope o)) (around_below m e (scope o) is (inr (subst (λ (n : ℕ). IsAbove m n (scope o)) (sym there) above))) in
    sym (subst (λ (n : ℕ). around o n ≡ e) there (All-contains (λ (c : Object). around c (scope e) ≡ e) (below m e (scope o)) o all within))

pub enclosing : (m : Mapping) (tree : Tree) (o : Object) (s : ℕ) → IsMapping m → Contains (block_objects m tree) o → IsAbove m s (scope o) → IsEnclosing m tree s o (around o s)
enclosing m tree o s is of above =
    let one = lies_in m tree s o is of above in
    let same : one.0 ≡ around o s = back_to m s o one.0 is above one.1.there one.1.inside in
    record {
      of_tree = subst (λ (e : Object). Contains (block_objects m tree) e) same one.1.of_tree;
      there = subst (λ (e : Object). scope e ≡ s) same one.1.there;
      inside = subst (λ (e : Object). Contains (below m e (scope o)) o) same one.1.inside;
      prefix = around_place o s;
      alone = λ other there within. back_to m s o other is above there within;
    }
