use Rattle.std.proofs.Common.{◌<◌, List, [], length, get_or, ap, ◌∙◌, arith}
use Rattle.block_join.specs.Merge.{paired, put_together}
use Rattle.query_eval.specs.Folds.{paired_by}
use Rattle.query_eval.specs.Found.{live_trees}
use Rattle.query_eval.proofs.Entries.{Scores, entry_at, entry_step, done_step, all_long, all_seen, long_count, own_long, own_scores, own_seen, same_long}
use Rattle.query_eval.proofs.Seen.{seen_paired}
use Rattle.query_eval.proofs.merges.merges.Goals as goal

pub bounds-ones-at : goal.bounds-ones-at
bounds-ones-at c = omega (arith, c.entries-test.true, long_count c.args.entries.now c.args.one.now c.requires.one, ap (λ (l : List Scores). length l) c.as_slice-ones.ensures)

pub bounds-others-at : goal.bounds-others-at
bounds-others-at c = omega (arith, c.entries-test.true, long_count c.args.entries.now c.args.other.now c.requires.other, ap (λ (l : List Scores). length l) c.as_slice-others.ensures)

pub merged_scores-requires : goal.merged_scores-requires
merged_scores-requires c =
    let below : c.entries.at < length c.args.entries.now = omega (arith, c.entries-test.true) in
    same_long c.args.entries.now c.entries.at (entry_at c.args.entries.now c.entries.at below).0 c.args.one.now c.args.other.now c.index-ones-at.result c.index-others-at.result c.requires.one c.requires.other below
    (c.index-ones-at.is ∙ ap (λ (l : List Scores). get_or l c.entries.at c.index-ones-at.result) c.as_slice-ones.ensures)
    (c.index-others-at.is ∙ ap (λ (l : List Scores). get_or l c.entries.at c.index-others-at.result) c.as_slice-others.ensures)

pub entries-preserved : goal.entries-preserved
entries-preserved c =
    let below : c.entries.at < length c.args.entries.now = omega (arith, c.entries-test.true) in
    let known = entry_at c.args.entries.now c.entries.at below in
    let e = known.0 in
    let at = known.1 in
    let one_at = c.index-ones-at.is ∙ ap (λ (l : List Scores). get_or l c.entries.at c.index-ones-at.result) c.as_slice-ones.ensures in
    let other_at = c.index-others-at.is ∙ ap (λ (l : List Scores). get_or l c.entries.at c.index-others-at.result) c.as_slice-others.ensures in (
      entry_step c.args.entries.now c.entries.at e c.entries.made.items c.push.new.self.items c.in_ok-scores.scores at below c.entries.invariant.0
          (c.in_ok-scores.ensures.long ∙ own_long c.args.entries.now c.entries.at e c.args.one.now c.index-ones-at.result c.requires.one below at one_at) c.in_ok-push.ensures.items,
      λ m n first second one other.
          done_step m c.args.entries.now n (paired_by c.args.rule first second) c.entries.at e c.entries.made.items c.push.new.self.items c.in_ok-scores.scores (c.entries.invariant.1 m n first second one other) below at c.in_ok-push.ensures.items
          (λ trees stands here.
          c.in_ok-scores.ensures.scores
          ∙ ap (λ (s : Scores). paired (put_together c.args.rule) s c.index-others-at.result) (own_seen m c.args.entries.now n first c.args.one.now trees c.entries.at c.index-ones-at.result one stands below one_at)
          ∙ ap (paired (put_together c.args.rule) (own_scores m n first trees (get_or trees c.entries.at []))) (own_seen m c.args.entries.now n second c.args.other.now trees c.entries.at c.index-others-at.result other stands below other_at)
          ∙ seen_paired m n c.args.rule (first (live_trees trees)) (second (live_trees trees)) (get_or trees c.entries.at [])),
    )

pub returns-clause-long : goal.returns-clause-long
returns-clause-long c =
    all_long c.args.entries.now c.entries.at c.entries.made.items c.of.result c.entries.invariant.0 (omega (arith, c.entries-test.false)) c.of.ensures

pub returns-clause-seen : goal.returns-clause-seen
returns-clause-seen c = λ m n first second one other.
    all_seen m c.args.entries.now n (paired_by c.args.rule first second) c.entries.at c.entries.made.items c.of.result (c.entries.invariant.1 m n first second one other) c.entries.invariant.0
    (omega (arith, c.entries-test.false)) c.of.ensures
