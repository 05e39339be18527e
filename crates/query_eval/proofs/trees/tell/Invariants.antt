use Rattle.std.proofs.Common.{◌≡◌, ◌++◌, ◌-◌, ◌≤◌, ℕ, List, length, take}
use Rattle.query_eval.specs.Sides.{AreKeyScores, at_roots, key_count, keys_at, told}
use Rattle.query_eval.specs.declared.answer.Answer.{Answer}
use Rattle.query_eval.proofs.trees.tell.Given as goal

abbrev pub invariant-documents : goal.invariant-documents
invariant-documents l =
    (l.left.scores ≡ l.hits)
    × (l.left.from ≤ length l.hits)
    × (key_count l.keyed ≡ key_count l.fn.keyed)
    × ((asked : Answer) (pairs : List (ℕ × ℕ)) → AreKeyScores asked pairs l.fn.keyed
    → AreKeyScores asked (pairs ++ told (take l.left.from (at_roots l.roots (keys_at l.mapping l.joins l.side l.segment l.place))) (take l.left.from l.hits)) l.keyed)

abbrev pub decreases-documents : goal.decreases-documents
decreases-documents l = length l.hits - l.left.from
