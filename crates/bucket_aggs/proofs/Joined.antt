-- The objects that are given something across the join.
use Rattle.std.proofs.Common.{◌≡◌, ℕ, Bool, true, false, ◌&&◌, cond, nat_le, List, [], ◌∷◌, length, filter, filter_map, Option, Some, None, is_some, refl, sym, ap, ◌∙◌, arith}
use Rattle.std.specs.List.{list_any}
use Rattle.std.proofs.lemmas.Bool.{le-leb}
use Rattle.mapping.specs.Mapping.{Mapping}
use Rattle.query_ast.specs.Buckets.{has_child_in, has_parent_in}
use Rattle.query_ast.specs.Hit.{children_score}
use Rattle.query_ast.specs.Joined.{child_trees, is_child_by, roots}
use Rattle.query_eval.specs.Sides.{by_relation, children_by, has_given_parent}
use Rattle.score_math.specs.declared.score.ScoreMode.TheVariants.{Max}
use Rattle.tree_objects.specs.Object.{Object, root, tree_of}
use Rattle.tree_objects.specs.Tree.{Tree}
use Rattle.view_objects.specs.Hits.{live_objects}
use Rattle.bucket_aggs.specs.Given.{is_given, objects_given}
use Rattle.bucket_aggs.proofs.Lists.{and_back, any_kept, any_map, any_same, filter_map_list, filter_same}

if_some : (b : Bool) → is_some {T = ℕ} (cond b (Some 1) None) ≡ b
if_some true = refl
if_some false = refl

module _ (m : Mapping) (live : List Tree) (at_roots : live_objects m 0 live ≡ roots live) (given : Object → Option ℕ) where
  -- of the roots that are given something one passes
  any_given : (test : Object → Bool) → list_any test (objects_given m 0 live given) ≡ list_any (λ t. is_given given (root t) && test (root t)) live
  any_given test =
      ap (λ (os : List Object). list_any test (filter (is_given given) os)) at_roots
      ∙ any_kept test (is_given given) (roots live)
      ∙ any_map (λ o. is_given given o && test o) root live

  roots_given : (other : Object → Option ℕ) (test : Tree → Bool) → ((t : Tree) → is_some (other (root t)) ≡ test t) → objects_given m 0 live other ≡ roots (filter test live)
  roots_given other test same =
      ap (filter (is_given other)) at_roots
      ∙ filter_map_list (is_given other) root live
      ∙ ap roots (filter_same (λ t. is_given other (root t)) test same live)

  pub children_are : (r : ℕ) (by : List Tree → Object → Option ℕ) → by live ≡ given → objects_given m 0 live (by_relation m r by live) ≡ roots (filter (has_parent_in m r (objects_given m 0 live given)) live)
  children_are r by is =
      roots_given (by_relation m r by live) (has_parent_in m r (objects_given m 0 live given))
      (λ t.
      if_some (has_given_parent m r live (by live) (root t))
      ∙ ap (λ (g : Object → Option ℕ). has_given_parent m r live g (root t)) is
      ∙ any_same (λ parent. is_child_by m r parent t && is_some (given (root parent))) (λ s. is_given given (root s) && is_child_by m r s t) (λ s. and_back (is_child_by m r s t) (is_some (given (root s)))) live
      ∙ sym (any_given (λ o. is_child_by m r (tree_of o) t)))

  -- children that are given something
  some_children : (test : Tree → Bool) (trees : List Tree) → is_some (children_score Max 1 None (filter_map given (roots (filter test trees)))) ≡ list_any (λ s. is_given given (root s) && test s) trees
  some_children test [] = refl
  some_children test (t ∷ trees) = by (test t) (given (root t)) refl refl (some_children test trees)
    where
      by : (held : Bool) (score : Option ℕ) → test t ≡ held → given (root t) ≡ score
          → is_some (children_score Max 1 None (filter_map given (roots (filter test trees)))) ≡ list_any (λ s. is_given given (root s) && test s) trees
          → is_some (children_score Max 1 None (filter_map given (roots (filter test (t ∷ trees))))) ≡ list_any (λ s. is_given given (root s) && test s) (t ∷ trees)
      by false None is own rest = rw (is, own) rest
      by false (Some s) is own rest = rw (is, own) rest
      by true None is own rest = rw (is, own) rest
      by true (Some s) is own rest =
          let more : List ℕ = filter_map given (roots (filter test trees)) in
          let one : nat_le 1 (length (s ∷ more)) ≡ true = le-leb 1 (length (s ∷ more)) (omega arith) in
          rw (is, own) (rw one refl)

  pub parents_are : (r : ℕ) (by : List Tree → Object → Option ℕ) → by live ≡ given → objects_given m 0 live (children_by m r Max 1 None by live) ≡ roots (filter (has_child_in m r (objects_given m 0 live given)) live)
  unfolding child_trees
  parents_are r by is =
      roots_given (children_by m r Max 1 None by live) (has_child_in m r (objects_given m 0 live given))
      (λ t.
      ap (λ (g : Object → Option ℕ). is_some (children_score Max 1 None (filter_map g (roots (filter (is_child_by m r t) live))))) is
      ∙ some_children (is_child_by m r t) live
      ∙ sym (any_given (λ o. is_child_by m r t (tree_of o))))
