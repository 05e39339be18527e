-- The objects of a block: those inside an object stand at scopes of greater numbers, and around each is that object.
use Rattle.std.proofs.Common.{◌≡◌, ℕ, zero, suc, ◌+◌, ◌-◌, ◌<◌, ◌≤◌, ◌==◌, ◌||◌, List as Seq, [], ◌∷◌, ◌++◌, length, filter, flat_map, Bool, true, false, cond, refl, sym, ap, ◌∙◌, subst, arith}
use Rattle.std.proofs.lemmas.Bool.{eqb-true, false≢true}
use Rattle.std.proofs.lemmas.List.Elements.{All-from_recursion, recursion_from_All}
use Rattle.std.proofs.lemmas.List.Sorted.{All-permutation}
use Rattle.std.specs.List.{range_with_len}
use Rattle.tree_json.specs.Value.{JsonValue, is_object}
use Rattle.mapping.specs.IsMapping.{IsMapping}
use Rattle.mapping.specs.Mapping.{Mapping, IsAbove, is_above, kids, outer, scope_at}
use Rattle.tree_objects.specs.Enclosing.{stands_at}
use Rattle.tree_objects.specs.Object.{Object, root, inside, scope, content, numbered, given, children, around, below, objects, items}
use Rattle.tree_joins.proofs.Each.{by_test, by_choice, Each, each_map, each_append, each_filter, each_flat, each_in_range}

-- what the laws of mappings and of objects say, of one mapping
pub record Laws (m : Mapping) : Type 0 where
  pub mapping : IsMapping m
  pub step : (a n : ℕ) → 0 < n → n < length m.scopes → is_above m a n ≡ (outer m n == a || is_above m a (outer m n))
  pub smaller : (a b : ℕ) → IsAbove m a b → (a < b) × (b < length m.scopes)
  pub within : (levels n : ℕ) (o : Object) → IsAbove m (scope o) n → n ≤ scope o + levels → filter (stands_at n) (objects m levels o) ≡ below m o n

-- the objects inside an object, without it
abbrev pub inner : Mapping → ℕ → Object → Seq Object
inner m left o = flat_map (λ n. flat_map (λ c. objects m left c) (children m o n)) (kids m (scope o))

module _ (m : Mapping) (laws : Laws m) where
  -- ---- kids and children

  pub record IsKid (s n : ℕ) : Type 0 where
    pub some : 0 < n
    pub in_range : n < length m.scopes
    pub outer_is : outer m n ≡ s
    pub later : s < n

  kids_are : (s : ℕ) → Each (IsKid s) (kids m s)
  kids_are s =
      each_map (λ (n : ℕ). ((0 < n) × (n < length m.scopes)) × ((outer m n == s) ≡ true)) (IsKid s)
      (λ n h.
      let out : outer m n ≡ s = eqb-true (outer m n) s h.1 in
      let before : outer m n < n = laws.mapping.behind n h.0.0 in
      record { some = h.0.0; in_range = h.0.1; outer_is = out; later = subst (λ k. k < n) out before })
      (kids m s)
      (each_filter (λ (n : ℕ). (0 < n) × (n < length m.scopes)) (λ n. outer m n == s) m.order ordered)
    where
      ordered : Each (λ (n : ℕ). (0 < n) × (n < length m.scopes)) m.order
      ordered =
          recursion_from_All (λ (n : ℕ). (0 < n) × (n < length m.scopes)) m.order
          (All-permutation (λ (n : ℕ). (0 < n) × (n < length m.scopes)) (range_with_len 1 (length m.scopes - 1)) m.order laws.mapping.numbers
          (All-from_recursion (λ (n : ℕ). (0 < n) × (n < length m.scopes)) (range_with_len 1 (length m.scopes - 1))
          (each_in_range (λ (n : ℕ). (0 < n) × (n < length m.scopes)) 1 (length m.scopes - 1) (λ k low high. (omega arith, omega (arith, laws.mapping.some))))))

  numbered_are : (P : Object → Type 0) (o : Object) (n k : ℕ) (values : Seq JsonValue) → ((k : ℕ) (v : JsonValue) → P (inside o n k v)) → Each P (numbered o n k values)
  numbered_are P o n k [] all = tt
  numbered_are P o n k (v ∷ values) all = (all k v, numbered_are P o n (k + 1) values all)

  children_are : (P : Object → Type 0) (o : Object) (n : ℕ) → ((k : ℕ) (v : JsonValue) → P (inside o n k v)) → Each P (children m o n)
  children_are P o n all =
      by_choice (Each P) (given m o n) (numbered o n 0 (filter is_object (items (content o) (scope_at m n).names))) []
      (λ held. numbered_are P o n 0 (filter is_object (items (content o) (scope_at m n).names)) all) (λ failed. tt)

  pub inner_are : (P : Object → Type 0) (left : ℕ) (o : Object) → ((n k : ℕ) (v : JsonValue) → IsKid (scope o) n → Each P (objects m left (inside o n k v))) → Each P (inner m left o)
  inner_are P left o all =
      each_flat P (IsKid (scope o)) (λ n. flat_map (λ c. objects m left c) (children m o n))
      (λ n kid. each_flat P (λ (c : Object). Each P (objects m left c)) (λ c. objects m left c) (λ c h. h) (children m o n)
      (children_are (λ (c : Object). Each P (objects m left c)) o n (λ k v. all n k v kid)))
      (kids m (scope o)) (kids_are (scope o))

  -- what holds of lists that are put together, and of the block of each child, holds of all that lies inside
  flat_by : {A : Type 0} (P : Seq Object → Type 0) (f : A → Seq Object) → P [] → ((xs ys : Seq Object) → P xs → P ys → P (xs ++ ys)) → (xs : Seq A) → Each (λ (x : A). P (f x)) xs → P (flat_map f xs)
  flat_by P f none more [] h = none
  flat_by P f none more (x ∷ xs) h = more (f x) (flat_map f xs) h.0 (flat_by P f none more xs h.1)

  pub inner_by : (P : Seq Object → Type 0) → P [] → ((xs ys : Seq Object) → P xs → P ys → P (xs ++ ys)) → (left : ℕ) (o : Object) → ((n k : ℕ) (v : JsonValue) → IsKid (scope o) n → P (objects m left (inside o n k v))) → P (inner m left o)
  inner_by P none more left o all =
      flat_by P (λ n. flat_map (λ c. objects m left c) (children m o n)) none more (kids m (scope o))
      (each_map (IsKid (scope o)) (λ (n : ℕ). P (flat_map (λ c. objects m left c) (children m o n)))
      (λ n kid. flat_by P (λ c. objects m left c) none more (children m o n) (children_are (λ (c : Object). P (objects m left c)) o n (λ k v. all n k v kid)))
      (kids m (scope o)) (kids_are (scope o)))

  -- ---- what lies inside

  pub objects_from : (left : ℕ) (o : Object) → Each (λ (y : Object). scope o ≤ scope y) (objects m left o)
  objects_from zero o = (omega arith, tt)
  objects_from (suc left) o =
      each_append (λ (y : Object). scope o ≤ scope y) (inner m left o) (o ∷ [])
      (inner_are (λ (y : Object). scope o ≤ scope y) left o
      (λ n k v kid. each_map (λ (y : Object). n ≤ scope y) (λ (y : Object). scope o ≤ scope y) (λ y h. omega (arith, kid.later)) (objects m left (inside o n k v)) (objects_from left (inside o n k v))))
      (omega arith, tt)

  pub inner_after : (left : ℕ) (o : Object) → Each (λ (y : Object). scope o < scope y) (inner m left o)
  inner_after left o =
      inner_are (λ (y : Object). scope o < scope y) left o
      (λ n k v kid. each_map (λ (y : Object). n ≤ scope y) (λ (y : Object). scope o < scope y) (λ y h. omega (arith, kid.later)) (objects m left (inside o n k v)) (objects_from left (inside o n k v)))

  -- scopes of greater numbers hide nothing on the way out
  around_from : (left p : ℕ) (o : Object) → p < scope o → Each (λ (y : Object). around y p ≡ around o p) (objects m left o)
  around_from zero p o h = (refl, tt)
  around_from (suc left) p o h =
      each_append (λ (y : Object). around y p ≡ around o p) (inner m left o) (o ∷ [])
      (inner_are (λ (y : Object). around y p ≡ around o p) left o
      (λ n k v kid. each_map (λ (y : Object). around y p ≡ around (inside o n k v) p) (λ (y : Object). around y p ≡ around o p) (λ y e. e ∙ past o n k v p (omega (arith, kid.later))) (objects m left (inside o n k v))
      (around_from left p (inside o n k v) (omega (arith, kid.later)))))
      (refl, tt)
    where
      past : (o : Object) (n k : ℕ) (v : JsonValue) (p : ℕ) → p < n → around (inside o n k v) p ≡ around o p
      past o n k v p h =
          by_test (n == p) (λ held. let same : n ≡ p = eqb-true n p held in absurd (omega arith)) (λ failed. rw failed refl)

  around_itself : (o : Object) (p : ℕ) → scope o ≡ p → around o p ≡ o
  around_itself (root t) p h = refl
  around_itself (inside o n k v) p h =
      by_test (n == p) (λ held. rw held refl) (λ failed. absurd (false≢true (sym failed ∙ grind (arith, h))))

  -- around each object inside an object is that object, at its scope
  pub inner_around : (left p : ℕ) (o : Object) → scope o ≡ p → Each (λ (y : Object). around y p ≡ o) (inner m left o)
  inner_around left p o at =
      inner_are (λ (y : Object). around y p ≡ o) left o
      (λ n k v kid. each_map (λ (y : Object). around y p ≡ around (inside o n k v) p) (λ (y : Object). around y p ≡ o)
      (λ y e. e ∙ past n k v (omega (arith, kid.later, at)) ∙ around_itself o p at) (objects m left (inside o n k v))
      (around_from left p (inside o n k v) (omega (arith, kid.later, at))))
    where
      past : (n k : ℕ) (v : JsonValue) → p < n → around (inside o n k v) p ≡ around o p
      past n k v h =
          by_test (n == p) (λ held. let same : n ≡ p = eqb-true n p held in absurd (omega arith)) (λ failed. rw failed refl)

  -- ---- a scope above

  pub not_above_kid : (a s n : ℕ) → IsKid s n → (s == a) ≡ false → is_above m a s ≡ false → is_above m a n ≡ false
  not_above_kid a s n kid apart none =
      laws.step a n kid.some kid.in_range
      ∙ ap (λ k. (k == a) || is_above m a k) kid.outer_is
      ∙ ap (λ b. b || is_above m a s) apart ∙ none

  pub none_above_root : (a : ℕ) → is_above m a 0 ≡ false
  none_above_root a =
      by_test (is_above m a 0) (λ held. let less = laws.smaller a 0 held in absurd (omega (arith, less.0))) (λ failed. failed)
