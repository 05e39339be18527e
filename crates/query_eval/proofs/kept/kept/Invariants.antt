use Rattle.std.proofs.Common.{◌≡◌, ℕ, List, Option, Some, take}
use Rattle.block_join.specs.declared.rule.Rule.TheVariants.{Kept}
use Rattle.leaf_search.specs.Found.{leaf_of}
use Rattle.query_ast.specs.Clause.{Leaf}
use Rattle.query_ast.specs.Clause.View.{clause_of}
use Rattle.query_ast.specs.Resolved.{IsLeaf}
use Rattle.tree_objects.specs.Object.{Object}
use Rattle.tree_objects.specs.Tree.{Tree}
use Rattle.query_eval.specs.Folds.{leaf_score, paired_by, whatever}
use Rattle.query_eval.specs.Found.{AreLong, IsSeen}
use Rattle.query_eval.proofs.Entries.{Done}
use Rattle.query_eval.proofs.kept.kept.Given as goal

abbrev pub invariant-entries : goal.invariant-entries
invariant-entries l =
    AreLong (take l.at l.entries) l.made.items
    × ((leaf : Leaf) (given : List Tree → Object → Option ℕ) → leaf_of (clause_of l.query) ≡ Some leaf → IsLeaf l.mapping leaf → IsSeen l.mapping l.entries l.scope given l.fn.hits
    → Done l.mapping l.entries l.scope (paired_by Kept given (whatever (leaf_score l.mapping leaf 1))) l.at l.made.items)
