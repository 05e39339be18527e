use Rattle.std.proofs.Common.{ℕ, List, Option, take}
use Rattle.mapping.specs.Mapping.{Mapping, IsAbove}
use Rattle.score_math.specs.Scores.{mode_of}
use Rattle.tree_objects.specs.Object.{Object}
use Rattle.tree_objects.specs.Tree.{Tree}
use Rattle.query_eval.specs.Found.{AreLong, IsSeen}
use Rattle.query_eval.specs.Nested.{below_by}
use Rattle.query_eval.proofs.Entries.{Done}
use Rattle.query_eval.proofs.nests.ups.Given as goal

abbrev pub invariant-entries : goal.invariant-entries
invariant-entries l =
    AreLong (take l.at l.entries) l.made.items
    × ((m : Mapping) (from : ℕ) (given : List Tree → Object → Option ℕ) → IsAbove m l.to from → IsSeen m l.entries from given l.fn.hits → Done m l.entries l.to (below_by m (mode_of l.mode) from given) l.at l.made.items)
