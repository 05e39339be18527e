use Rattle.std.proofs.Common.{length, ap, ◌∙◌}
use Rattle.query_eval.proofs.Seen.{leaf_known, leaf_long, leaf_seen}
use Rattle.query_eval.proofs.leaves.leaf_scores.Goals as goal

pub returns-clause-long : goal.returns-clause-long
returns-clause-long c =
    let l = leaf_known _ c.requires.leaf in
    ap length c.same.ensures
    ∙ leaf_long c.args.mapping.now c.args.entry.now c.segment.result.now c.live-live.result.now c.args.scope l.0 c.args.score c.in_ok-set.set c.segment.ensures c.live-live.ensures.live (c.in_ok-set.ensures l.0 l.1)

pub returns-clause-seen : goal.returns-clause-seen
returns-clause-seen c = λ l trees is own stands.
    c.same.ensures
    ∙ leaf_seen c.args.mapping.now c.args.entry.now c.segment.result.now c.live-live.result.now c.args.scope l c.args.score c.in_ok-set.set c.segment.ensures c.live-live.ensures.live (c.in_ok-set.ensures l is) trees own stands
