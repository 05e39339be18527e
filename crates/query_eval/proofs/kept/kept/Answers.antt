use Rattle.std.proofs.Common.{◌<◌, List, [], length, get_or, ap, ◌∙◌, arith}
use Rattle.block_join.specs.Merge.{paired, put_together}
use Rattle.block_join.specs.declared.rule.Rule.TheVariants.{Kept}
use Rattle.query_ast.specs.Clause.View.{clause_of}
use Rattle.tree_joins.specs.Seen.{at_scope, seen}
use Rattle.query_eval.specs.Folds.{leaf_score, paired_by, whatever}
use Rattle.query_eval.specs.Found.{live_trees}
use Rattle.query_eval.proofs.Entries.{Scores, all_long, all_seen, done_step, entry_step, long_count, own_long, own_seen}
use Rattle.query_eval.proofs.Cutting.{kept_of_leaf}
use Rattle.query_eval.proofs.Seen.{seen_paired}
use Rattle.query_eval.proofs.kept.kept.Goals as goal

pub bounds-hits-at : goal.bounds-hits-at
bounds-hits-at c = omega (arith, c.entries-test.true, long_count c.args.entries.now c.args.hits.now c.requires.long, ap (λ (l : List Scores). length l) c.as_slice-hits.ensures)

pub kept_scores-requires-clause-long : goal.kept_scores-requires-clause-long
kept_scores-requires-clause-long c =
    own_long c.args.entries.now c.entries.at c.index-entries-at.result c.args.hits.now c.index-hits-at.result c.requires.long (omega (arith, c.entries-test.true)) c.index-entries-at.is
    (c.index-hits-at.is ∙ ap (λ (l : List Scores). get_or l c.entries.at c.index-hits-at.result) c.as_slice-hits.ensures)

pub entries-preserved : goal.entries-preserved
entries-preserved c =
    let m = c.args.mapping.now in
    let n = c.args.scope in
    let below : c.entries.at < length c.args.entries.now = omega (arith, c.entries-test.true) in
    let e = c.index-entries-at.result in
    let hits_at = c.index-hits-at.is ∙ ap (λ (l : List Scores). get_or l c.entries.at c.index-hits-at.result) c.as_slice-hits.ensures in (
      entry_step c.args.entries.now c.entries.at e c.entries.made.items c.push.new.self.items c.in_ok-scores.scores c.index-entries-at.is below c.entries.invariant.0 c.in_ok-scores.ensures.long c.in_ok-push.ensures.items,
      λ l given is own found.
          done_step m c.args.entries.now n (paired_by Kept given (whatever (leaf_score m l 1))) c.entries.at e c.entries.made.items c.push.new.self.items c.in_ok-scores.scores (c.entries.invariant.1 l given is own found) below c.index-entries-at.is c.in_ok-push.ensures.items
          (λ trees stands here.
          c.in_ok-scores.ensures.kept l (get_or trees c.entries.at []) is own here
          ∙ ap (λ (s : Scores). paired (put_together Kept) s (seen m (at_scope n (leaf_score m l 1)) (get_or trees c.entries.at []))) (own_seen m c.args.entries.now n given c.args.hits.now trees c.entries.at c.index-hits-at.result found stands below hits_at)
          ∙ seen_paired m n Kept (given (live_trees trees)) (leaf_score m l 1) (get_or trees c.entries.at [])),
    )

pub returns-clause-long : goal.returns-clause-long
returns-clause-long c =
    all_long c.args.entries.now c.entries.at c.entries.made.items c.of.result c.entries.invariant.0 (omega (arith, c.entries-test.false)) c.of.ensures

pub returns-clause-seen : goal.returns-clause-seen
returns-clause-seen c = λ given is.
    let m = c.args.mapping.now in
    kept_of_leaf m c.args.entries.now c.args.scope (clause_of c.args.query.now) given c.of.result c.requires.leaf c.requires.resolved
    (λ l known own.
    all_seen m c.args.entries.now c.args.scope (paired_by Kept given (whatever (leaf_score m l 1))) c.entries.at c.entries.made.items c.of.result (c.entries.invariant.1 l given known own is) c.entries.invariant.0
    (omega (arith, c.entries-test.false)) c.of.ensures)
