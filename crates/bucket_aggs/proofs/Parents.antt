-- The parents of objects, whichever score they get for their children.
use Rattle.std.proofs.Common.{◌≡◌, ℕ, true, false, nat_le, List, [], ◌∷◌, filter_map, length, Option, None, is_some, refl, ap, arith}
use Rattle.std.proofs.lemmas.Bool.{le-leb}
use Rattle.mapping.specs.Mapping.{Mapping}
use Rattle.query_ast.specs.Hit.{children_score, parent_score}
use Rattle.query_ast.specs.Joined.{child_trees, roots}
use Rattle.query_eval.specs.Found.{live_trees}
use Rattle.query_eval.specs.Keyed.{any_child_by}
use Rattle.query_eval.specs.Sides.{children_by}
use Rattle.score_math.specs.declared.score.ScoreMode.TheVariants.{Max}
use Rattle.segment.specs.Live.{EntryState}
use Rattle.tree_objects.specs.Object.{Object}
use Rattle.tree_objects.specs.Tree.{Tree}
use Rattle.view_objects.specs.Hits.{live_objects}
use Rattle.bucket_aggs.specs.Parents.{AreParents}
use Rattle.bucket_aggs.specs.Given.{IsAnswer, is_given, objects_given}
use Rattle.bucket_aggs.proofs.Documents.{Scores}
use Rattle.bucket_aggs.proofs.Formed.{answer_same}
use Rattle.bucket_aggs.proofs.Lists.{filter_same}

any_child : (scores : List ℕ) → is_some (parent_score false 1 scores) ≡ is_some (children_score Max 1 None scores)
any_child [] = refl
any_child (s ∷ scores) = let one : nat_le 1 (length (s ∷ scores)) ≡ true = le-leb 1 (length (s ∷ scores)) (omega arith) in rw one refl

pub any_children_are : (m : Mapping) (live : List Tree) (r : ℕ) (given : List Tree → Object → Option ℕ) → objects_given m 0 live (any_child_by m r given live) ≡ objects_given m 0 live (children_by m r Max 1 None given live)
any_children_are m live r given =
    filter_same (is_given (any_child_by m r given live)) (is_given (children_by m r Max 1 None given live)) (λ o. any_child (filter_map (given live) (roots (child_trees m live r o)))) (live_objects m 0 live)

-- the same roots are answered alike
pub answer_of_parents : {A : Type 0} (m : Mapping) (view : List EntryState) (r : ℕ) (answer : List Tree → List Object → A) (given : List Tree → Object → Option ℕ) (those : List Scores) (value : A) → (are : AreParents m view r given those) → IsAnswer m view 0 answer are.inner value
    → IsAnswer m view 0 answer (children_by m r Max 1 None given) value
answer_of_parents m view r answer given those value are =
    answer_same m view 0 0 answer answer are.inner (children_by m r Max 1 None given) value
    (λ trees stand own. let live : List Tree = live_trees trees in ap (answer live) (are.are live))
