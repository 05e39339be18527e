use Rattle.std.proofs.Common.{◌≡◌, take}
use Rattle.query_eval.specs.Sides.{AreKeyScores, key_count, told_by}
use Rattle.query_eval.proofs.trees.gathered.Given as goal

abbrev pub invariant-entries : goal.invariant-entries
invariant-entries l =
    (key_count l.keyed ≡ l.joins.count)
    × AreKeyScores l.fn.answer (told_by l.mapping l.joins l.side 0 (take l.place l.entries) (take l.place l.fn.hits)) l.keyed
