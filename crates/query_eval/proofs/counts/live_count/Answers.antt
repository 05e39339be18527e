use Rattle.std.proofs.Common.{◌<◌, [], length, get_or, Some, arith}
use Rattle.block_join.specs.Scores.{filled}
use Rattle.query_ast.specs.Clause.{match_all}
use Rattle.query_eval.specs.Folds.{leaf_score, whatever}
use Rattle.query_eval.proofs.Clauses.{found_leaf}
use Rattle.query_eval.proofs.Seen.{leaf_long, leaf_seen}
use Rattle.query_eval.proofs.Tallied.{counting_end, counting_more, counting_start, own_filled}
use Rattle.query_eval.proofs.counts.live_count.Goals as goal

pub entries-init : goal.entries-init
entries-init c = λ m. counting_start m c.args.entries.now c.args.scope (whatever (leaf_score m match_all 1))

pub entries-preserved : goal.entries-preserved
entries-preserved c = λ m.
    let n = c.args.scope in
    let e = c.index-entries-at.result in
    let below : c.entries.at < length c.args.entries.now = omega (arith, c.entries-test.true) in
    let own = c.live_documents-own.ensures m in
    let long = leaf_long m e c.segment.result.now c.live.result.now n match_all 1 own.those c.segment.ensures c.live.ensures.live own.found in
    let seen = leaf_seen m e c.segment.result.now c.live.result.now n match_all 1 own.those c.segment.ensures c.live.ensures.live own.found in
    counting_more m c.args.entries.now n (whatever (leaf_score m match_all 1)) c.entries.at e c.entries.count c.in-Some.more (filled (Some 1) own.those) (c.entries.invariant m) c.index-entries-at.is below
    long (omega (arith, own.counted, own_filled 1 own.those, c.from.ensures, c.in-Some.ensures.1))
    (λ trees stands here. seen (get_or trees c.entries.at []) tt here)

pub returns : goal.returns
returns c = λ m.
    let all = counting_end m c.args.entries.now c.args.scope (whatever (leaf_score m match_all 1)) c.entries.at c.entries.count (c.entries.invariant m) (omega (arith, c.entries-test.false)) in
    record {
      those = all.those;
      seen = found_leaf m c.args.entries.now c.args.scope match_all 1 all.those all.seen;
      counted = all.counted;
    }
