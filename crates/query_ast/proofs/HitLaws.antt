-- What a clause hits: witnesses of `nested`, clauses without joins, and sums of scores.
use Rattle.std.specs.Prelude.{◌≡◌, ℕ, zero, suc, ◌+◌, Bool, true, false, ◌||◌, List, [], ◌∷◌, fold, sum, filter_map, Contains, Option, Some, None, IsSome, refl}
use Rattle.std.specs.List.{cons_option}
use Rattle.std.proofs.Common.{arith, ap, sym, ◌∙◌, subst}
use Rattle.std.proofs.lemmas.Bool.{true≢false}
use Rattle.std.proofs.lemmas.List.Sums.{sum_by-cons}
use Rattle.score_math.specs.Scores.{capped, greatest_of, mode_of}
use Rattle.score_math.specs.declared.score.ScoreMode.{ScoreMode}
use Rattle.score_math.specs.declared.score.ScoreMode.TheVariants.{Avg, Max, Min, Sum, Zero}
use Rattle.mapping.specs.Mapping.{Mapping}
use Rattle.tree_objects.specs.Object.{Object, around, below}
use Rattle.tree_objects.specs.Tree.{Tree}
use Rattle.query_ast.specs.Clause.{Clause, leaf, bool, constant_score, dis_max, nested, to_child, has_child, has_parent, Clauses, no_clauses, clause}
use Rattle.query_ast.specs.Hit.{hit, hit_each, bool_score, boosted, scores}
use Rattle.query_ast.specs.Joins.{joins, some_join}

-- ---- witnesses

contains_first : {A : Type 0} (x : A) (xs : List A) → Contains (x ∷ xs) x
contains_first x xs = (0, omega arith, refl)

contains_later : {A : Type 0} (x y : A) (xs : List A) → Contains xs y → Contains (x ∷ xs) y
contains_later x y xs has = (suc has.0, omega (arith, has.1), has.2)

module _ {A : Type 0} (f : A → Option ℕ) (mode : ScoreMode) where
  witness_at : (x : A) (xs : List A) → ((y : A) × Contains xs y × IsSome (f y)) → (y : A) × Contains (x ∷ xs) y × IsSome (f y)
  witness_at x xs w = (w.0, contains_later x w.0 xs w.1, w.2)

  witness_by : (x : A) (xs : List A) (answer : Option ℕ) → f x ≡ answer → (IsSome (mode_of mode (filter_map f xs)) → (y : A) × Contains xs y × IsSome (f y)) → IsSome (mode_of mode (cons_option answer (filter_map f xs))) → (y : A) × Contains (x ∷ xs) y × IsSome (f y)
  witness_by x xs None e rest h = witness_at x xs (rest h)
  witness_by x xs (Some s) e rest h = (x, contains_first x xs, subst (λ a. IsSome a) (sym e) refl)

  pub witness : (xs : List A) → IsSome (mode_of mode (filter_map f xs)) → (y : A) × Contains xs y × IsSome (f y)
  witness [] h = absurd (true≢false (sym h))
  witness (x ∷ xs) h = witness_by x xs (f x) refl (witness xs) h

pub mode_is_some : (mode : ScoreMode) (s : ℕ) (ss : List ℕ) → IsSome (mode_of mode (s ∷ ss))
mode_is_some Avg s ss = refl
mode_is_some Max s ss = refl
mode_is_some Min s ss = refl
mode_is_some Sum s ss = refl
mode_is_some Zero s ss = refl

module _ {A : Type 0} (f : A → Option ℕ) (mode : ScoreMode) where
  hit_by : (answer : Option ℕ) (ss : List ℕ) → (IsSome answer → IsSome (mode_of mode ss)) → IsSome (mode_of mode ss) → IsSome (mode_of mode (cons_option answer ss))
  hit_by None ss first rest = rest
  hit_by (Some s) ss first rest = mode_is_some mode s ss

  first_by : (answer : Option ℕ) (ss : List ℕ) → IsSome answer → IsSome (mode_of mode (cons_option answer ss))
  first_by None ss some = absurd (true≢false (sym some))
  first_by (Some s) ss some = mode_is_some mode s ss

  pub some_hit : (xs : List A) (y : A) → Contains xs y → IsSome (f y) → IsSome (mode_of mode (filter_map f xs))
  some_hit [] y (k, to, is) some = absurd (omega arith)
  some_hit (x ∷ xs) y (zero, to, is) some = first_by (f x) (filter_map f xs) (subst (λ z. IsSome (f z)) (sym is) some)
  some_hit (x ∷ xs) y (suc k, to, is) some =
      let rest = some_hit xs y (k, omega arith, is) some in hit_by (f x) (filter_map f xs) (λ _. rest) rest

-- ---- clauses without joins

same_each : {A B : Type 0} (f g : A → Option B) → ((x : A) → f x ≡ g x) → (xs : List A) → filter_map f xs ≡ filter_map g xs
same_each f g same [] = refl
same_each f g same (x ∷ xs) = λ i. cons_option (same x i) (same_each f g same xs i)

left : (a b : Bool) → (a || b) ≡ false → a ≡ false
left true b e = e
left false b e = refl

right : (a b : Bool) → (a || b) ≡ false → b ≡ false
right true b e = absurd (true≢false e)
right false b e = e

module _ (m : Mapping) (live others : List Tree) where
  mutual
    pub alone : (c : Clause) (o : Object) → joins c ≡ false → hit m live c o ≡ hit m others c o
    alone (leaf l boost) o e = refl
    alone (bool must filter should must_not least) o e =
        let rest = right (some_join must) (some_join filter || (some_join should || some_join must_not)) e in
        let last = right (some_join filter) (some_join should || some_join must_not) rest in
        let a = alone_each must o (left (some_join must) (some_join filter || (some_join should || some_join must_not)) e) in
        let b = alone_each filter o (left (some_join filter) (some_join should || some_join must_not) rest) in
        let c = alone_each should o (left (some_join should) (some_join must_not) last) in
        let d = alone_each must_not o (right (some_join should) (some_join must_not) last) in
        λ i. bool_score (a i) (b i) (c i) (d i) least
    alone (constant_score c boost) o e = ap (boosted boost) (alone c o e)
    alone (dis_max cs) o e = ap (λ answers. greatest_of (scores answers)) (alone_each cs o e)
    alone (nested None c mode) o e = refl
    alone (nested (Some p) c mode) o e =
        ap (mode_of mode) (same_each (hit m live c) (hit m others c) (λ inside. alone c inside e) (below m o p))
    alone (to_child None c) o e = refl
    alone (to_child (Some p) c) o e = alone c (around o p) e
    alone (has_child None c mode least most) o e = refl
    alone (has_child (Some r) c mode least most) o e = absurd (true≢false e)
    alone (has_parent None c score boost) o e = refl
    alone (has_parent (Some r) c score boost) o e = absurd (true≢false e)

    alone_each : (cs : Clauses) (o : Object) → some_join cs ≡ false → hit_each m live cs o ≡ hit_each m others cs o
    alone_each no_clauses o e = refl
    alone_each (clause c cs) o e =
        let a = alone c o (left (joins c) (some_join cs) e) in
        let b = alone_each cs o (right (joins c) (some_join cs) e) in
        λ i. a i ∷ b i

-- ---- sums

steps_from : (a : ℕ) (xs : List ℕ) → fold (λ total score. capped (total + score)) (capped a) xs ≡ capped (a + sum xs)
steps_from a [] = let e : a + 0 ≡ a = omega arith in rw e refl
steps_from a (x ∷ xs) =
    let e : capped (capped a + x) ≡ capped (a + x) = omega arith in
    let f : (a + x) + sum xs ≡ a + sum (x ∷ xs) = omega (arith, sum_by-cons (λ y. y) x xs) in
    rw e (steps_from (a + x) xs ∙ ap capped f)

pub steps : (xs : List ℕ) → fold (λ total score. capped (total + score)) 0 xs ≡ capped (sum xs)
steps xs = let e : 0 + sum xs ≡ sum xs = omega arith in steps_from 0 xs ∙ ap capped e
