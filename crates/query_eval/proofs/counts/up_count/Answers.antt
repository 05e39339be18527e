use Rattle.std.proofs.Common.{◌≡◌, Bool, List, length, map, is_some, get_or, sym, ap, subst, ◌∙◌, arith}
use Rattle.std.proofs.lemmas.List.{length-map}
use Rattle.score_math.specs.Scores.{mode_of}
use Rattle.score_math.specs.declared.score.ScoreMode.TheVariants.{Max}
use Rattle.segment_parts.specs.declared.columns.Columns.{Columns}
use Rattle.query_eval.specs.Counted.{IsCount, up_marks, up_total}
use Rattle.query_eval.specs.Nested.{below_by}
use Rattle.query_eval.proofs.Entries.{Scores, long_count, own_long}
use Rattle.query_eval.proofs.Reached.{total_end, total_step}
use Rattle.query_eval.proofs.counts.up_count.Goals as goal

pub bounds-hits-at : goal.bounds-hits-at
bounds-hits-at c = omega (arith, c.entries-test.true, long_count c.args.entries.now c.args.hits.now c.requires, ap (λ (l : List Scores). length l) c.as_slice-hits.ensures)

pub marked_ups-requires : goal.marked_ups-requires
marked_ups-requires c =
    let s = c.index-hits-at.result in
    ap (λ (l : List Bool). length l) c.set.ensures ∙ length-map s is_some
    ∙ own_long c.args.entries.now c.entries.at c.index-entries-at.result c.args.hits.now s c.requires (omega (arith, c.entries-test.true)) c.index-entries-at.is
    (c.index-hits-at.is ∙ ap (λ (l : List Scores). get_or l c.entries.at s) c.as_slice-hits.ensures)
    ∙ sym (ap (λ (x : Columns). x.documents) c.segment.ensures)

pub entries-preserved : goal.entries-preserved
entries-preserved c =
    let view = c.args.entries.now in
    let hits = c.args.hits.now in
    let s = c.index-hits-at.result in
    let there : s ≡ get_or hits c.entries.at s = c.index-hits-at.is ∙ ap (λ (l : List Scores). get_or l c.entries.at s) c.as_slice-hits.ensures in
    let own : c.in_ok-own.own ≡ up_marks c.index-entries-at.result.columns c.args.to (map is_some s) =
    c.in_ok-own.ensures
    ∙ ap (λ (x : Columns). up_marks x c.args.to c.set.result.now) c.segment.ensures
    ∙ ap (up_marks c.index-entries-at.result.columns c.args.to) c.set.ensures in
    omega (
      arith,
      c.entries.invariant,
      own,
      c.from.ensures,
      c.in-Some.ensures.1,
      total_step c.args.to c.entries.at view hits c.index-entries-at.result s c.requires (omega (arith, c.entries-test.true)) c.index-entries-at.is there,
    )

pub returns : goal.returns
returns c = λ m from given above is.
    let view = c.args.entries.now in
    let hits = c.args.hits.now in
    let all : up_total c.args.to view hits ≡ c.entries.count = omega (arith, c.entries.invariant, total_end c.args.to c.entries.at view hits (omega (arith, c.entries-test.false))) in
    subst (IsCount m view c.args.to (below_by m (mode_of Max) from given)) all (c.ups_are_counted.ensures m view c.args.to from given hits above is)
