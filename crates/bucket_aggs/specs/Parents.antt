-- The parents of objects, across the trees of a view.
use Rattle.std.specs.Prelude.{◌≡◌, ℕ, List, Option, None}
use Rattle.mapping.specs.Mapping.{Mapping}
use Rattle.query_eval.specs.Found.{IsSeen}
use Rattle.query_eval.specs.Sides.{children_by}
use Rattle.score_math.specs.declared.score.ScoreMode.TheVariants.{Max}
use Rattle.segment.specs.Live.{EntryState}
use Rattle.tree_objects.specs.Object.{Object}
use Rattle.tree_objects.specs.Tree.{Tree}
use Rattle.bucket_aggs.specs.Given.{objects_given}

-- these are the roots with a child by a relation that is given something, among live trees
pub record AreParents (m : Mapping) (view : List EntryState) (r : ℕ) (given : List Tree → Object → Option ℕ) (those : List (List (Option ℕ))) : Type 0 where
  pub inner : List Tree → Object → Option ℕ
  pub seen : IsSeen m view 0 inner those
  pub are : (live : List Tree) → objects_given m 0 live (inner live) ≡ objects_given m 0 live (children_by m r Max 1 None given live)
