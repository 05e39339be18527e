use Rattle.std.proofs.Common.{◌<◌, List, [], length, get_or, sym, ap, subst, ◌∙◌, arith}
use Rattle.score_math.specs.Scores.{mode_of}
use Rattle.segment_parts.specs.declared.columns.Columns.{Columns}
use Rattle.flattener.specs.StandsFor.{EntryStandsFor}
use Rattle.query_eval.specs.Found.{live_trees}
use Rattle.query_eval.specs.Nested.{below_by}
use Rattle.query_eval.proofs.Entries.{Scores, entry_step, done_step, all_long, all_seen, long_count, own_long, own_seen}
use Rattle.query_eval.proofs.nests.ups.Goals as goal

pub bounds-hits-at : goal.bounds-hits-at
bounds-hits-at c = omega (arith, c.entries-test.true, long_count c.args.entries.now c.args.hits.now c.requires, ap (λ (l : List Scores). length l) c.as_slice-hits.ensures)

pub up_scores-requires : goal.up_scores-requires
up_scores-requires c =
    own_long c.args.entries.now c.entries.at c.index-entries-at.result c.args.hits.now c.index-hits-at.result c.requires (omega (arith, c.entries-test.true)) c.index-entries-at.is
    (c.index-hits-at.is ∙ ap (λ (l : List Scores). get_or l c.entries.at c.index-hits-at.result) c.as_slice-hits.ensures)
    ∙ sym (ap (λ (x : Columns). x.documents) c.segment.ensures)

pub entries-preserved : goal.entries-preserved
entries-preserved c =
    let below : c.entries.at < length c.args.entries.now = omega (arith, c.entries-test.true) in
    let e = c.index-entries-at.result in (
      entry_step c.args.entries.now c.entries.at e c.entries.made.items c.push.new.self.items c.in_ok-scores.scores c.index-entries-at.is below c.entries.invariant.0
          (c.in_ok-scores.ensures.long ∙ ap (λ (x : Columns). x.documents) c.segment.ensures) c.in_ok-push.ensures.items,
      λ m from given above is.
          done_step m c.args.entries.now c.args.to (below_by m (mode_of c.args.mode) from given) c.entries.at e c.entries.made.items c.push.new.self.items c.in_ok-scores.scores (c.entries.invariant.1 m from given above is) below c.index-entries-at.is c.in_ok-push.ensures.items
          (λ trees stands here.
          c.in_ok-scores.ensures.seen m e.live (get_or trees c.entries.at []) from (given (live_trees trees))
          (subst (λ (x : Columns). EntryStandsFor m x e.live (get_or trees c.entries.at [])) (sym c.segment.ensures) here) above
          (own_seen m c.args.entries.now from given c.args.hits.now trees c.entries.at c.index-hits-at.result is stands below (c.index-hits-at.is ∙ ap (λ (l : List Scores). get_or l c.entries.at c.index-hits-at.result) c.as_slice-hits.ensures))),
    )

pub returns-clause-long : goal.returns-clause-long
returns-clause-long c =
    all_long c.args.entries.now c.entries.at c.entries.made.items c.of.result c.entries.invariant.0 (omega (arith, c.entries-test.false)) c.of.ensures

pub returns-clause-seen : goal.returns-clause-seen
returns-clause-seen c = λ m from given above is.
    all_seen m c.args.entries.now c.args.to (below_by m (mode_of c.args.mode) from given) c.entries.at c.entries.made.items c.of.result (c.entries.invariant.1 m from given above is) c.entries.invariant.0
    (omega (arith, c.entries-test.false)) c.of.ensures
