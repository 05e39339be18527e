-- The objects that are given something: of filters, and on the ways down and up.
use Rattle.std.proofs.Common.{◌≡◌, ◌≢◌, ℕ, suc, ◌<◌, true, false, ◌&&◌, cond, List, [], ◌∷◌, ◌++◌, length, map, filter, filter_map, get_or, Option, Some, None, is_some, refl, sym, ap, subst, ◌∙◌, arith}
use Rattle.std.specs.List.{AllByRecursion, flat_map}
use Rattle.std.proofs.lemmas.Bool.{eqb-true}
use Rattle.block_join.specs.Merge.{put_together}
use Rattle.block_join.specs.declared.rule.Rule.TheVariants.{Kept}
use Rattle.mapping.specs.Mapping.{Mapping, IsAbove}
use Rattle.query_ast.specs.Buckets.{around_at, below_at, is_same_object}
use Rattle.query_ast.specs.Clause.{Clause}
use Rattle.query_ast.specs.Compare.{each_once}
use Rattle.query_ast.specs.Hit.{hit, those_hit}
use Rattle.score_math.specs.Scores.{mode_of}
use Rattle.score_math.specs.declared.score.ScoreMode.TheVariants.{Max}
use Rattle.tree_joins.specs.Seen.{gathered, handed}
use Rattle.tree_objects.specs.Enclosing.{stands_at}
use Rattle.tree_objects.specs.Object.{Object, around, below, block_objects, place, scope, tree_of}
use Rattle.tree_objects.specs.Tree.{Tree}
use Rattle.view_objects.specs.Hits.{live_objects}
use Rattle.bucket_aggs.specs.Given.{HaveOwnNumbers, is_given, objects_given}
use Rattle.query_ast.proofs.Elements.{Apart, Each, by_test, each_as}
use Rattle.bucket_aggs.proofs.Lists.{each_kept, each_passes, filter_all, filter_flat, filter_same, filter_twice, filter_whole, flat_flat, map_flat}
use Rattle.bucket_aggs.proofs.Apart.{apart_append, apart_by, apart_kept, other_number, other_place, runs_once, same_itself, some_in}

-- ---- filters

both_some : (x y : Option ℕ) → is_some (put_together Kept x y) ≡ (is_some x && is_some y)
both_some None y = refl
both_some (Some a) None = refl
both_some (Some a) (Some b) = refl

pub filtered_are : (m : Mapping) (n : ℕ) (live : List Tree) (c : Clause) (given : Object → Option ℕ)
    → objects_given m n live (λ o. put_together Kept (given o) (hit m live c o)) ≡ those_hit m live c (objects_given m n live given)
filtered_are m n live c given =
    filter_same (λ o. is_some (put_together Kept (given o) (hit m live c o))) (λ o. is_given given o && is_some (hit m live c o)) (λ o. both_some (given o) (hit m live c o)) (live_objects m n live)
    ∙ sym (filter_twice (λ o. is_some (hit m live c o)) (is_given given) (live_objects m n live))

-- ---- what the laws say of one mapping

pub record Laws (m : Mapping) : Type 0 where
  pub parted : (n p : ℕ) (tree : Tree) → IsAbove m n p → filter (stands_at p) (block_objects m tree) ≡ flat_map (λ o. below m o p) (filter (stands_at n) (block_objects m tree))
  pub around : (o : Object) (p : ℕ) → IsAbove m (scope o) p → AllByRecursion (λ inside. around inside (scope o) ≡ o) (below m o p)
  pub tree : (tree : Tree) → AllByRecursion (λ o. tree_of o ≡ tree) (block_objects m tree)
  pub places : (tree : Tree) (i j : ℕ) (o : Object) → i < j → j < length (block_objects m tree) → place (get_or (block_objects m tree) i o) ≢ place (get_or (block_objects m tree) j o)

module _ (m : Mapping) (laws : Laws m) where
  -- those at a scope, by those at a scope above it
  live_parted : (n p : ℕ) (live : List Tree) → IsAbove m n p → live_objects m p live ≡ flat_map (below_at m p) (live_objects m n live)
  live_parted n p live above =
      each live ∙ sym (flat_flat (below_at m p) (λ tree. filter (stands_at n) (block_objects m tree)) live)
    where
      each : (trees : List Tree) → flat_map (λ tree. filter (stands_at p) (block_objects m tree)) trees ≡ flat_map (λ tree. flat_map (below_at m p) (filter (stands_at n) (block_objects m tree))) trees
      each [] = refl
      each (tree ∷ trees) =
          ap (λ (zs : List Object). zs ++ flat_map (λ tree. filter (stands_at p) (block_objects m tree)) trees) (laws.parted n p tree above)
          ∙ ap (λ (zs : List Object). flat_map (below_at m p) (filter (stands_at n) (block_objects m tree)) ++ zs) (each trees)

  each_append : (P : Object → Type 0) (xs ys : List Object) → Each P xs → Each P ys → Each P (xs ++ ys)
  each_append P [] ys h g = g
  each_append P (x ∷ xs) ys h g = (h.0, each_append P xs ys h.1 g)

  -- they stand there
  live_stand : (n : ℕ) (live : List Tree) → Each (λ (o : Object). scope o ≡ n) (live_objects m n live)
  live_stand n [] = tt
  live_stand n (tree ∷ live) =
      each_append (λ (o : Object). scope o ≡ n) (filter (stands_at n) (block_objects m tree)) (live_objects m n live)
      (each_as (λ (o : Object). stands_at n o ≡ true) (λ (o : Object). scope o ≡ n) (λ o h. eqb-true (scope o) n h) (filter (stands_at n) (block_objects m tree)) (each_passes (stands_at n) (block_objects m tree)))
      (live_stand n live)

  -- ---- down

  module _ (n p : ℕ) (above : IsAbove m n p) (given : Object → Option ℕ) where
    inside_one : (o : Object) → scope o ≡ n → filter (is_given (handed n given)) (below m o p) ≡ cond (is_given given o) (below m o p) []
    inside_one o at =
        filter_whole (is_given (handed n given)) (is_given given o) (below m o p)
        (each_as (λ (c : Object). around c (scope o) ≡ o) (λ (c : Object). is_given (handed n given) c ≡ is_given given o)
        (λ c h. ap (λ (s : ℕ). is_some (given (around c s))) (sym at) ∙ ap (λ (e : Object). is_some (given e)) h)
        (below m o p) (laws.around o p (subst (λ (s : ℕ). IsAbove m s p) (sym at) above)))

    inside_all : (os : List Object) → Each (λ (o : Object). scope o ≡ n) os → filter (is_given (handed n given)) (flat_map (below_at m p) os) ≡ flat_map (below_at m p) (filter (is_given given) os)
    inside_all os at = filter_flat (is_given (handed n given)) (below_at m p) os ∙ each os at
      where
        each : (os : List Object) → Each (λ (o : Object). scope o ≡ n) os → flat_map (λ o. filter (is_given (handed n given)) (below_at m p o)) os ≡ flat_map (below_at m p) (filter (is_given given) os)
        each [] at = refl
        each (o ∷ os) at =
            ap (λ (zs : List Object). zs ++ flat_map (λ o. filter (is_given (handed n given)) (below_at m p o)) os) (inside_one o at.0)
            ∙ by_test (is_given given o)
            (λ held. rw held (ap (λ (zs : List Object). below m o p ++ zs) (each os at.1)))
            (λ failed. rw failed (each os at.1))

    pub down_are : (live : List Tree) → objects_given m p live (handed n given) ≡ flat_map (below_at m p) (objects_given m n live given)
    down_are live = ap (filter (is_given (handed n given))) (live_parted n p live above) ∙ inside_all (live_objects m n live) (live_stand n live)

    -- inside all of them are all of the path
    pub all_inside : (live : List Tree) (inner : Object → Option ℕ) → objects_given m n live given ≡ live_objects m n live → ((o : Object) → is_given inner o ≡ true) → objects_given m p live inner ≡ flat_map (below_at m p) (objects_given m n live given)
    all_inside live inner all every = filter_all (is_given inner) every (live_objects m p live) ∙ live_parted n p live above ∙ ap (flat_map (below_at m p)) (sym all)

  -- ---- up

  -- different objects
  apart_tree : (p : ℕ) (tree : Tree) → Apart is_same_object (filter (stands_at p) (block_objects m tree))
  apart_tree p tree =
      apart_kept is_same_object (stands_at p) (block_objects m tree)
      (apart_by is_same_object (block_objects m tree)
      (λ i j d less low. other_place (get_or (block_objects m tree) j d) (get_or (block_objects m tree) i d) (λ same. laws.places tree i j d less low (sym same))))

  -- the trees behind the first have other numbers
  later_numbers : (tree : Tree) (live : List Tree) → HaveOwnNumbers (tree ∷ live) → Each (λ (other : Tree). other.number ≢ tree.number) live
  later_numbers tree live own = by live (λ k d low. λ same. own 0 (suc k) d (omega arith) (omega (arith, low)) (sym same))
    where
      by : (trees : List Tree) → ((k : ℕ) (d : Tree) → k < length trees → (get_or trees k d).number ≢ tree.number) → Each (λ (other : Tree). other.number ≢ tree.number) trees
      by [] h = tt
      by (t ∷ trees) h = (h 0 t (omega arith), by trees (λ k d low. h (suc k) d (omega (arith, low))))

  rest_own : (tree : Tree) (live : List Tree) → HaveOwnNumbers (tree ∷ live) → HaveOwnNumbers live
  rest_own tree live own = λ i j d less low. own (suc i) (suc j) d (omega (arith, less)) (omega (arith, low))

  between : (p : ℕ) (tree : Tree) (xs : List Object) → Each (λ (o : Object). tree_of o ≡ tree) xs → (live : List Tree) → Each (λ (other : Tree). other.number ≢ tree.number) live
      → Each (λ (y : Object). Each (λ (x : Object). is_same_object y x ≡ false) xs) (live_objects m p live)
  between p tree xs of [] others = tt
  between p tree xs of (t ∷ live) others =
      each_append (λ (y : Object). Each (λ (x : Object). is_same_object y x ≡ false) xs) (filter (stands_at p) (block_objects m t)) (live_objects m p live)
      (each_as (λ (y : Object). tree_of y ≡ t) (λ (y : Object). Each (λ (x : Object). is_same_object y x ≡ false) xs)
      (λ y h. each_as (λ (x : Object). tree_of x ≡ tree) (λ (x : Object). is_same_object y x ≡ false)
      (λ x g. other_number y x (λ same. others.0 (sym (ap (λ (s : Tree). s.number) h) ∙ same ∙ ap (λ (s : Tree). s.number) g))) xs of)
      (filter (stands_at p) (block_objects m t)) (each_kept (λ (y : Object). tree_of y ≡ t) (stands_at p) (block_objects m t) (laws.tree t)))
      (between p tree xs of live others.1)

  live_apart : (p : ℕ) (live : List Tree) → HaveOwnNumbers live → Apart is_same_object (live_objects m p live)
  live_apart p [] own = tt
  live_apart p (tree ∷ live) own =
      apart_append is_same_object (filter (stands_at p) (block_objects m tree)) (live_objects m p live) (apart_tree p tree) (live_apart p live (rest_own tree live own))
      (between p tree (filter (stands_at p) (block_objects m tree)) (each_kept (λ (y : Object). tree_of y ≡ tree) (stands_at p) (block_objects m tree) (laws.tree tree)) live (later_numbers tree live own))

  module _ (n p : ℕ) (above : IsAbove m p n) (given : Object → Option ℕ) where
    -- the objects inside one that are given something, each taken for the one around it
    abbrev run_of : Object → List Object
    run_of o = map (around_at p) (filter (is_given given) (below m o n))

    run_same : (o : Object) → scope o ≡ p → Each (λ (y : Object). y ≡ o) (run_of o)
    run_same o at =
        alike (filter (is_given given) (below m o n))
        (each_kept (λ (c : Object). around c (scope o) ≡ o) (is_given given) (below m o n) (laws.around o n (subst (λ (s : ℕ). IsAbove m s n) (sym at) above)))
      where
        alike : (cs : List Object) → Each (λ (c : Object). around c (scope o) ≡ o) cs → Each (λ (y : Object). y ≡ o) (map (around_at p) cs)
        alike [] h = tt
        alike (c ∷ cs) h = (ap (λ (s : ℕ). around c s) (sym at) ∙ h.0, alike cs h.1)

    run_some : (cs : List Object) → some_in is_same_object (map (around_at p) (filter (is_given given) cs)) ≡ is_some (mode_of Max (filter_map given cs))
    run_some [] = refl
    run_some (c ∷ cs) = by (given c) refl (run_some cs)
      where
        by : (score : Option ℕ) → given c ≡ score → some_in is_same_object (map (around_at p) (filter (is_given given) cs)) ≡ is_some (mode_of Max (filter_map given cs))
            → some_in is_same_object (map (around_at p) (filter (is_given given) (c ∷ cs))) ≡ is_some (mode_of Max (filter_map given (c ∷ cs)))
        by None is rest = rw is rest
        by (Some s) is rest = rw is refl

    runs_are : (live : List Tree) → map (around_at p) (objects_given m n live given) ≡ flat_map run_of (live_objects m p live)
    runs_are live =
        ap (λ (os : List Object). map (around_at p) (filter (is_given given) os)) (live_parted p n live above)
        ∙ ap (map (around_at p)) (filter_flat (is_given given) (below_at m n) (live_objects m p live))
        ∙ map_flat (around_at p) (λ o. filter (is_given given) (below_at m n o)) (live_objects m p live)

    pub up_are : (live : List Tree) → HaveOwnNumbers live → objects_given m p live (gathered m (mode_of Max) n given) ≡ each_once is_same_object (map (around_at p) (objects_given m n live given))
    up_are live own =
        sym
        (ap (each_once is_same_object) (runs_are live)
        ∙ runs_once is_same_object same_itself run_of (live_objects m p live)
        (each_as (λ (o : Object). scope o ≡ p) (λ (o : Object). Each (λ (y : Object). y ≡ o) (run_of o)) run_same (live_objects m p live) (live_stand p live))
        (live_apart p live own)
        ∙ filter_same (λ o. some_in is_same_object (run_of o)) (is_given (gathered m (mode_of Max) n given)) (λ o. run_some (below m o n)) (live_objects m p live))
