use Rattle.std.proofs.Common.{ℕ, List, Option, take}
use Rattle.mapping.specs.Mapping.{Mapping}
use Rattle.tree_objects.specs.Object.{Object}
use Rattle.tree_objects.specs.Tree.{Tree}
use Rattle.query_eval.specs.Folds.{paired_by}
use Rattle.query_eval.specs.Found.{AreLong, IsSeen}
use Rattle.query_eval.proofs.Entries.{Done}
use Rattle.query_eval.proofs.merges.merges.Given as goal

abbrev pub invariant-entries : goal.invariant-entries
invariant-entries l =
    AreLong (take l.at l.entries) l.made.items
    × ((m : Mapping) (n : ℕ) (first second : List Tree → Object → Option ℕ) → IsSeen m l.entries n first l.one → IsSeen m l.entries n second l.other → Done m l.entries n (paired_by l.rule first second) l.at l.made.items)
