use Rattle.std.proofs.Common.{◌≡◌, Some, take}
use Rattle.leaf_search.specs.Found.{leaf_of}
use Rattle.query_ast.specs.Clause.{Leaf}
use Rattle.query_ast.specs.Clause.View.{clause_of}
use Rattle.query_ast.specs.Resolved.{IsLeaf}
use Rattle.query_eval.specs.Folds.{leaf_score, whatever}
use Rattle.query_eval.specs.Found.{AreLong}
use Rattle.query_eval.proofs.Entries.{Done}
use Rattle.query_eval.proofs.leaves.leaves.Given as goal

abbrev pub invariant-entries : goal.invariant-entries
invariant-entries l =
    AreLong (take l.at l.entries) l.made.items
    × ((leaf : Leaf) → leaf_of (clause_of l.query) ≡ Some leaf → IsLeaf l.mapping leaf → Done l.mapping l.entries l.scope (whatever (leaf_score l.mapping leaf l.score)) l.at l.made.items)
