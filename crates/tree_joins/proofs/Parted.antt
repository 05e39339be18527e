-- The objects of a block at a scope, by those at a scope above it.
use Rattle.std.proofs.Common.{◌≡◌, ℕ, zero, suc, ◌+◌, ◌<◌, ◌≤◌, ◌==◌, List as Seq, [], ◌∷◌, ◌++◌, length, filter, flat_map, Bool, true, false, refl, sym, ap, ◌∙◌, subst, arith}
use Rattle.std.proofs.lemmas.Bool.{eqb-true, false≢true}
use Rattle.std.proofs.lemmas.List.Elements.{filter-append}
use Rattle.std.proofs.lemmas.List.Concat.{flat_map-append}
use Rattle.tree_json.specs.Value.{JsonValue}
use Rattle.mapping.specs.Mapping.{Mapping, IsAbove, is_above}
use Rattle.tree_objects.specs.Enclosing.{stands_at}
use Rattle.tree_objects.specs.Object.{Object, root, inside, scope, around, below, objects, block_objects, tree_of}
use Rattle.tree_objects.specs.Tree.{Tree}
use Rattle.tree_joins.proofs.Each.{by_test, same_number, Each, each_map, each_append, each_filter}
use Rattle.tree_joins.proofs.Blocks.{Laws, IsKid, inner, inner_after, inner_are, inner_around, inner_by, none_above_root, not_above_kid}

-- none passes
fail_all : (test : Object → Bool) (xs : Seq Object) → Each (λ (x : Object). test x ≡ false) xs → filter test xs ≡ []
fail_all test [] h = refl
fail_all test (x ∷ xs) h = rw h.0 (fail_all test xs h.1)

append_nothing : (xs : Seq Object) → xs ++ [] ≡ xs
append_nothing [] = refl
append_nothing (x ∷ xs) = ap (λ zs. x ∷ zs) (append_nothing xs)

module _ (m : Mapping) (laws : Laws m) (n p : ℕ) (above : IsAbove m n p) where
  abbrev inside_each : Seq Object → Seq Object
  inside_each xs = flat_map (λ o. below m o p) xs

  abbrev Parted : Seq Object → Type 0
  Parted xs = filter (stands_at p) xs ≡ inside_each (filter (stands_at n) xs)

  parted_append : (xs ys : Seq Object) → Parted xs → Parted ys → Parted (xs ++ ys)
  parted_append xs ys h g =
      filter-append (stands_at p) xs ys
      ∙ ap (λ zs. zs ++ filter (stands_at p) ys) h
      ∙ ap (λ zs. inside_each (filter (stands_at n) xs) ++ zs) g
      ∙ sym (flat_map-append (λ o. below m o p) (filter (stands_at n) xs) (filter (stands_at n) ys))
      ∙ ap inside_each (sym (filter-append (stands_at n) xs ys))

  -- an object of the scope above, with all that lies inside it
  whole : (left : ℕ) (o : Object) → scope o ≡ n → p ≤ scope o + left → Parted (objects m left o)
  whole zero o at enough = let less = laws.smaller n p above in absurd (omega (arith, less.0))
  whole (suc left) o at enough =
      let here : (scope o == n) ≡ true = same_number (scope o) n at in
      let none : filter (stands_at n) (inner m left o) ≡ [] =
      fail_all (stands_at n) (inner m left o)
      (each_map (λ (y : Object). scope o < scope y) (λ (y : Object). (scope y == n) ≡ false)
      (λ y h. by_test (scope y == n) (λ held. let same : scope y ≡ n = eqb-true (scope y) n held in absurd (omega arith)) (λ failed. failed)) (inner m left o) (inner_after m laws left o)) in
      let one : filter (stands_at n) (objects m (suc left) o) ≡ o ∷ [] =
      filter-append (stands_at n) (inner m left o) (o ∷ []) ∙ ap (λ zs. zs ++ filter (stands_at n) (o ∷ [])) none ∙ rw here refl in
      laws.within (suc left) p o (subst (λ s. IsAbove m s p) (sym at) above) enough
      ∙ sym (append_nothing (below m o p))
      ∙ ap inside_each (sym one)

  alone : (o : Object) → (scope o == n) ≡ false → is_above m n (scope o) ≡ false → Parted (o ∷ [])
  alone o apart none =
      let other : (scope o == p) ≡ false =
      by_test (scope o == p) (λ held. let same : scope o ≡ p = eqb-true (scope o) p held in absurd (false≢true (sym none ∙ subst (λ s. is_above m n s ≡ true) (sym same) above))) (λ failed. failed) in
      rw (apart, other) refl

  parts : (left : ℕ) (o : Object) → is_above m n (scope o) ≡ false → p ≤ scope o + left → Parted (objects m left o)
  parts zero o none enough = by_test (scope o == n) (λ held. whole zero o (eqb-true (scope o) n held) enough) (λ apart. alone o apart none)
  parts (suc left) o none enough =
      by_test (scope o == n)
      (λ held. whole (suc left) o (eqb-true (scope o) n held) enough)
      (λ apart.
      parted_append (inner m left o) (o ∷ [])
      (inner_by m laws Parted refl parted_append left o (λ k i v kid. parts left (inside o k i v) (not_above_kid m laws n (scope o) k kid apart none) (omega (arith, kid.later))))
      (alone o apart none))

  pub parted : (tree : Tree) → filter (stands_at p) (block_objects m tree) ≡ flat_map (λ o. below m o p) (filter (stands_at n) (block_objects m tree))
  unfolding block_objects
  parted tree = let less = laws.smaller n p above in parts (length m.scopes) (root tree) (none_above_root m laws n) (omega (arith, less.1))

pub around_is : (m : Mapping) (laws : Laws m) (o : Object) (p : ℕ) → IsAbove m (scope o) p → Each (λ (y : Object). around y (scope o) ≡ o) (below m o p)
around_is m laws o p above =
    let less = laws.smaller (scope o) p above in
    let apart : (scope o == p) ≡ false = by_test (scope o == p) (λ held. let same : scope o ≡ p = eqb-true (scope o) p held in absurd (omega (arith, less.0))) (λ failed. failed) in
    let last : filter (stands_at p) (o ∷ []) ≡ [] = rw apart refl in
    let found : filter (stands_at p) (inner m (length m.scopes) o) ≡ below m o p =
    sym (append_nothing (filter (stands_at p) (inner m (length m.scopes) o)))
    ∙ ap (λ zs. filter (stands_at p) (inner m (length m.scopes) o) ++ zs) (sym last)
    ∙ sym (filter-append (stands_at p) (inner m (length m.scopes) o) (o ∷ []))
    ∙ laws.within (suc (length m.scopes)) p o above (omega (arith, less.1)) in
    subst (Each (λ (y : Object). around y (scope o) ≡ o)) found
    (each_map (λ (y : Object). (around y (scope o) ≡ o) × (stands_at p y ≡ true)) (λ (y : Object). around y (scope o) ≡ o) (λ y h. h.0) (filter (stands_at p) (inner m (length m.scopes) o))
    (each_filter (λ (y : Object). around y (scope o) ≡ o) (stands_at p) (inner m (length m.scopes) o) (inner_around m laws (length m.scopes) (scope o) o refl)))

-- the objects of a block are of its tree
of_tree : (m : Mapping) (laws : Laws m) (left : ℕ) (o : Object) → Each (λ (y : Object). tree_of y ≡ tree_of o) (objects m left o)
of_tree m laws zero o = (refl, tt)
of_tree m laws (suc left) o =
    each_append (λ (y : Object). tree_of y ≡ tree_of o) (inner m left o) (o ∷ [])
    (inner_are m laws (λ (y : Object). tree_of y ≡ tree_of o) left o (λ k i v kid. of_tree m laws left (inside o k i v)))
    (refl, tt)

pub tree_is : (m : Mapping) (laws : Laws m) (tree : Tree) → Each (λ (y : Object). tree_of y ≡ tree) (block_objects m tree)
unfolding block_objects
tree_is m laws tree = of_tree m laws (length m.scopes) (root tree)
