use Rattle.std.proofs.Common.{ℕ, List, Option, take}
use Rattle.mapping.specs.Mapping.{Mapping, IsAbove}
use Rattle.tree_objects.specs.Object.{Object}
use Rattle.tree_objects.specs.Tree.{Tree}
use Rattle.query_eval.specs.Found.{AreLong, IsSeen}
use Rattle.query_eval.specs.Nested.{around_by}
use Rattle.query_eval.proofs.Entries.{Done}
use Rattle.query_eval.proofs.nests.downs.Given as goal

abbrev pub invariant-entries : goal.invariant-entries
invariant-entries l =
    AreLong (take l.at l.entries) l.made.items
    × ((m : Mapping) (given : List Tree → Object → Option ℕ) → IsAbove m l.from l.to → IsSeen m l.entries l.from given l.fn.hits → Done m l.entries l.to (around_by l.from given) l.at l.made.items)
