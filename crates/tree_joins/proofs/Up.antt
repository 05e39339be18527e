-- Up: in a block each object of a scope answers to what the objects below it tell.
use Rattle.std.proofs.Common.{◌≡◌, ℕ, zero, suc, ◌+◌, ◌<◌, ◌≤◌, ◌==◌, ◌||◌, List as Seq, [], ◌∷◌, ◌++◌, length, map, filter, flat_map, Bool, true, false, cond, Option, Some, None, refl, sym, ap, ◌∙◌, subst, arith, append_assoc}
use Rattle.std.proofs.lemmas.Bool.{eqb-true, false≢true}
use Rattle.std.specs.List.{filter_map, cons_option}
use Rattle.std.specs.Option.{option_to_list}
use Rattle.block_join.specs.Joins.{joined}
use Rattle.tree_json.specs.Value.{JsonValue}
use Rattle.mapping.specs.Mapping.{Mapping, IsAbove, is_above, kids}
use Rattle.tree_objects.specs.Enclosing.{stands_at}
use Rattle.tree_objects.specs.Object.{Object, inside, scope, children, below, objects}
use Rattle.tree_joins.specs.Seen.{at_scope, gathered}
use Rattle.tree_joins.proofs.Each.{by_test, by_choice, same_number, Each, each_map, each_append, each_flat}
use Rattle.tree_joins.proofs.Blocks.{Laws, IsKid, inner, inner_by, inner_after, not_above_kid}

append_nil : {A : Type 0} (xs : Seq A) → xs ++ [] ≡ xs
append_nil [] = refl
append_nil (x ∷ xs) = ap (λ ys. x ∷ ys) (append_nil xs)

pub map_append : {A B : Type 0} (f : A → B) (xs ys : Seq A) → map f (xs ++ ys) ≡ map f xs ++ map f ys
map_append f [] ys = refl
map_append f (x ∷ xs) ys = ap (λ zs. f x ∷ zs) (map_append f xs ys)

put : {A : Type 0} (o : Option A) (xs : Seq A) → option_to_list o ++ xs ≡ cons_option o xs
put None xs = refl
put (Some x) xs = refl

module _ {A B : Type 0} (m : Mapping) (laws : Laws m) (to from : ℕ) (above : IsAbove m to from) (score : Object → Option A) (mode : Seq A → Option B) where
  -- what an object tells, with its scope, and what it answers
  abbrev pub told : Object → Seq A
  told o = option_to_list (at_scope from score o)

  abbrev pub shown : Object → ℕ × Seq A
  shown o = (scope o, told o)

  abbrev pub answer : Object → Option B
  answer o = at_scope to (gathered m mode from score) o

  abbrev join : Seq A → Seq (ℕ × Seq A) → Seq (Option B)
  join since docs = joined mode None to since docs

  told_nothing : (o : Object) → (scope o == from) ≡ false → told o ≡ []
  told_nothing o apart = by_choice (λ (x : Option A). option_to_list x ≡ []) (scope o == from) (score o) None (λ held. absurd (false≢true (sym apart ∙ held))) (λ failed. refl)

  told_below : (xs : Seq Object) → flat_map told xs ≡ filter_map score (filter (stands_at from) xs)
  told_below [] = refl
  told_below (o ∷ xs) =
      by_test (scope o == from)
      (λ held. rw held (ap (λ ys. option_to_list (score o) ++ ys) (told_below xs) ∙ put (score o) (filter_map score (filter (stands_at from) xs))))
      (λ failed. rw failed (told_below xs))

  flat_append : (xs ys : Seq Object) → flat_map told (xs ++ ys) ≡ flat_map told xs ++ flat_map told ys
  flat_append [] ys = refl
  flat_append (x ∷ xs) ys = ap (λ zs. told x ++ zs) (flat_append xs ys) ∙ sym (append_assoc (told x) (flat_map told xs) (flat_map told ys))

  -- objects of other scopes only add to what was told
  quiet : (xs : Seq Object) (since : Seq A) (rest : Seq (ℕ × Seq A)) → Each (λ (y : Object). (scope y == to) ≡ false) xs
      → join since (map shown xs ++ rest) ≡ map answer xs ++ join (since ++ flat_map told xs) rest
  quiet [] since rest h = rw (append_nil since) refl
  quiet (y ∷ xs) since rest h =
      let more = quiet xs (since ++ told y) rest h.1 in
      let same : (since ++ told y) ++ flat_map told xs ≡ since ++ (told y ++ flat_map told xs) = append_assoc since (told y) (flat_map told xs) in
      rw h.0 (ap (λ zs. None ∷ zs) (rw same at more))

  abbrev Passes : Seq Object → Type 0
  Passes xs = (rest : Seq (ℕ × Seq A)) → join [] (map shown xs ++ rest) ≡ map answer xs ++ join [] rest

  passes_append : (xs ys : Seq Object) → Passes xs → Passes ys → Passes (xs ++ ys)
  passes_append xs ys h g rest =
      ap (λ docs. join [] (docs ++ rest)) (map_append shown xs ys)
      ∙ ap (join []) (append_assoc (map shown xs) (map shown ys) rest)
      ∙ h (map shown ys ++ rest)
      ∙ ap (λ zs. map answer xs ++ zs) (g rest)
      ∙ sym (append_assoc (map answer xs) (map answer ys) (join [] rest))
      ∙ ap (λ zs. zs ++ join [] rest) (sym (map_append answer xs ys))

  -- an object of the scope itself closes what lies inside it
  closing : (left : ℕ) (o : Object) → scope o ≡ to → from ≤ scope o + left → Passes (objects m left o)
  closing zero o at enough rest = let less = laws.smaller to from above in absurd (omega (arith, less.0))
  closing (suc left) o at enough rest =
      let less = laws.smaller to from above in
      let here : (scope o == to) ≡ true = same_number (scope o) to at in
      let apart : (scope o == from) ≡ false = by_test (scope o == from) (λ held. let same : scope o ≡ from = eqb-true (scope o) from held in absurd (omega (arith, less.0))) (λ failed. failed) in
      let others : Each (λ (y : Object). (scope y == to) ≡ false) (inner m left o) =
      each_map (λ (y : Object). scope o < scope y) (λ (y : Object). (scope y == to) ≡ false)
      (λ y h. by_test (scope y == to) (λ held. let same : scope y ≡ to = eqb-true (scope y) to held in absurd (omega arith)) (λ failed. failed)) (inner m left o) (inner_after m laws left o) in
      let heard : flat_map told (inner m left o) ≡ filter_map score (below m o from) =
      sym (append_nil (flat_map told (inner m left o)))
      ∙ ap (λ zs. flat_map told (inner m left o) ++ zs) (sym (append_nil (told o) ∙ told_nothing o apart))
      ∙ sym (flat_append (inner m left o) (o ∷ []))
      ∙ told_below (objects m (suc left) o)
      ∙ ap (λ zs. filter_map score zs) (laws.within (suc left) from o (subst (λ s. IsAbove m s from) (sym at) above) enough) in
      let last : join (flat_map told (inner m left o)) (shown o ∷ rest) ≡ answer o ∷ join [] rest = rw here (ap (λ zs. mode zs ∷ join [] rest) heard) in
      ap (λ docs. join [] (docs ++ rest)) (map_append shown (inner m left o) (o ∷ []))
      ∙ ap (join []) (append_assoc (map shown (inner m left o)) (shown o ∷ []) rest)
      ∙ quiet (inner m left o) [] (shown o ∷ rest) others
      ∙ ap (λ zs. map answer (inner m left o) ++ zs) last
      ∙ sym (append_assoc (map answer (inner m left o)) (answer o ∷ []) (join [] rest))
      ∙ ap (λ zs. zs ++ join [] rest) (sym (map_append answer (inner m left o) (o ∷ [])))

  alone : (o : Object) → (scope o == to) ≡ false → is_above m to (scope o) ≡ false → Passes (o ∷ [])
  alone o apart none rest =
      let silent : told o ≡ [] = told_nothing o (by_test (scope o == from) (λ held. let same : scope o ≡ from = eqb-true (scope o) from held in absurd (false≢true (sym none ∙ subst (λ s. is_above m to s ≡ true) (sym same) above))) (λ failed. failed)) in
      rw apart (ap (λ since. None ∷ join since rest) silent)

  inside_passes : (left : ℕ) (o : Object) → ((n k : ℕ) (v : JsonValue) → IsKid m laws (scope o) n → Passes (objects m left (inside o n k v))) → Passes (inner m left o)
  inside_passes left o all = inner_by m laws Passes (λ rest. refl) passes_append left o all

  pub passes : (left : ℕ) (o : Object) → is_above m to (scope o) ≡ false → from ≤ scope o + left → Passes (objects m left o)
  passes zero o none enough =
      by_test (scope o == to)
      (λ held. closing zero o (eqb-true (scope o) to held) enough)
      (λ apart. alone o apart none)
  passes (suc left) o none enough =
      by_test (scope o == to)
      (λ held. closing (suc left) o (eqb-true (scope o) to held) enough)
      (λ apart.
      passes_append (inner m left o) (o ∷ []) (inside_passes left o (λ n k v kid. passes left (inside o n k v) (not_above_kid m laws to (scope o) n kid apart none) (omega (arith, kid.later)))) (alone o apart none))
