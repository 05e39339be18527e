use Rattle.std.proofs.Common.{◌-◌, ap}
use Rattle.block_join.specs.Scores.{between}
use Rattle.nested_sort.proofs.Ranges.{first_told}
use Rattle.nested_sort.proofs.hits.next_hit.Goals as goal

pub returns-clause-hit : goal.returns-clause-hit
returns-clause-hit c =
    let new = c.next_before.new.self in
    first_told c.args.place c.args.left.now.from c.args.end new.from (c.from-doc.result - 1) c.args.left.now.scores c.in_ok-score.score (between new.scores new.from c.args.end)
    c.in_ok-score.ensures.document (ap (λ k. k - 1) c.from-doc.ensures.from) c.in_ok-score.ensures.later.0 c.in_ok-score.ensures.later.1 c.in_ok-score.ensures.score
