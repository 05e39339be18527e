use Rattle.std.proofs.Common.{◌≡◌, ◌≤◌, ℕ, List, Some, length, map, slice_get}
use Rattle.block_bits.specs.Blocks.{documents_of}
use Rattle.segment.specs.Roots.{root_documents}
use Rattle.query_eval.specs.Folds.{scopes_in}
use Rattle.query_eval.specs.Sides.{AreKeyScores, answer_for, keys_at}
use Rattle.query_eval.specs.declared.answer.Answer.{Answer}
use Rattle.query_eval.proofs.Walking.{Giving}
use Rattle.query_eval.proofs.trees.given.Given as goal

abbrev pub invariant-roots : goal.invariant-roots
invariant-roots l =
    (l.hits.len ≡ l.segment.documents)
    × ((root doc : ℕ) → l.root ≤ root → slice_get (root_documents l.segment.scopes) root ≡ Some doc → length l.hits.done ≤ doc)
    × ((asked : Answer) (pairs : List (ℕ × ℕ)) → AreKeyScores asked pairs l.keyed
    → Giving (documents_of (scopes_in l.segment) 0) (map (answer_for asked pairs) (keys_at l.mapping l.joins l.side l.segment l.place)) l.hits.done l.root)
