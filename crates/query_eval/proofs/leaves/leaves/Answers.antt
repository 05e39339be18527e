use Rattle.std.proofs.Common.{◌<◌, [], length, get_or, arith}
use Rattle.query_eval.specs.Folds.{leaf_score, whatever}
use Rattle.query_eval.proofs.Entries.{entry_step, done_step, all_long, all_seen}
use Rattle.query_eval.proofs.leaves.leaves.Goals as goal

pub entries-preserved : goal.entries-preserved
entries-preserved c =
    let below : c.entries.at < length c.args.entries.now = omega (arith, c.entries-test.true) in (
      entry_step c.args.entries.now c.entries.at c.index-entries-at.result c.entries.made.items c.push.new.self.items c.in_ok-scores.scores c.index-entries-at.is below c.entries.invariant.0 c.in_ok-scores.ensures.long c.in_ok-push.ensures.items,
      λ l is own.
          done_step c.args.mapping.now c.args.entries.now c.args.scope (whatever (leaf_score c.args.mapping.now l c.args.score)) c.entries.at c.index-entries-at.result c.entries.made.items c.push.new.self.items c.in_ok-scores.scores
          (c.entries.invariant.1 l is own) below c.index-entries-at.is c.in_ok-push.ensures.items
          (λ trees stands here. c.in_ok-scores.ensures.seen l (get_or trees c.entries.at []) is own here),
    )

pub returns-clause-long : goal.returns-clause-long
returns-clause-long c =
    all_long c.args.entries.now c.entries.at c.entries.made.items c.of.result c.entries.invariant.0 (omega (arith, c.entries-test.false)) c.of.ensures

pub returns-clause-seen : goal.returns-clause-seen
returns-clause-seen c = λ l is own.
    all_seen c.args.mapping.now c.args.entries.now c.args.scope (whatever (leaf_score c.args.mapping.now l c.args.score)) c.entries.at c.entries.made.items c.of.result (c.entries.invariant.1 l is own) c.entries.invariant.0
    (omega (arith, c.entries-test.false)) c.of.ensures
