use Rattle.std.proofs.Common.{◌≡◌, ◌<◌, ◌≤◌, ◌+◌, List as Seq, [], false, length, take, Global, Vec, sym, ap, ◌∙◌, arith}
use Rattle.std.proofs.lemmas.List.Sums.{sum_by_push}
use Rattle.std.specs.List.{sum_by}
use Rattle.flattener.specs.StandsFor.{Marked}
use Rattle.query_ast.specs.declared.hit.Hit.{Hit}
use Rattle.reply_text.specs.Weight.{whole_weight}
use Rattle.tree_objects.specs.Tree.{Tree}
use Rattle.inner_hits.proofs.Refusals.{same_refusal}
use Rattle.search_page.specs.Hits.{AreRootRows, row_reads, shown_at, weight_or_zero}
use Rattle.search_page.specs.Searched.{AreSearched}
use Rattle.search_page.proofs.Shown.{more_none, more_some, reads_more, reads_within, row_passes, row_within, whole}
use Rattle.search_page.proofs.hits.hits_of.Goals as goal
use Rattle.search_page.proofs.hits.hits_of.Goals.{in-Some+in_ok-push, in_default}

pub rows-preserved : goal.rows-preserved
rows-preserved g c =
    let m = c.args.mapping.now in
    let view = c.args.view.now in
    let body = c.args.search.now in
    let rows = c.args.rows.now.rows in
    let low : c.rows.at < length rows = omega (arith, c.rows-test.true, c.len-at-end.ensures) in
    let reads : (trees : Seq (Seq (Marked Tree))) → AreSearched m view trees → AreRootRows m trees rows → c.hit.new.steps ≤ c.args.steps.now + sum_by (row_reads m trees body) (take (c.rows.at + 1) rows) =
    λ trees searched roots.
    reads_more (row_reads m trees body) rows c.rows.at c.in_ok-row.row low c.in_ok-row.ensures c.args.steps.now c.rows.steps c.hit.new.steps (c.rows.invariant.1 trees searched roots)
    (c.in_ok-hit.ensures.reads trees searched (row_within m trees rows c.rows.at c.in_ok-row.row roots low c.in_ok-row.ensures)) in
    let unread : body.source ≡ false → body.inner ≡ [] → c.hit.new.steps ≡ c.args.steps.now = λ none plain. c.in_ok-hit.ensures.unread none plain ∙ c.rows.invariant.2 none plain in
    elim c.match-hit.branch [
      | in-Some+in_ok-push w ↦ (
        λ trees searched roots.
            more_some (shown_at m view c.args.found.now trees body) rows c.rows.at c.in_ok-row.row low c.in_ok-row.ensures c.rows.hits.items c.match-hit.hits.items w.in-Some.hit (c.rows.invariant.0 trees searched roots)
            (sym (whole m trees view c.args.found.now body c.in_ok-row.row _ c.in_ok-hit.ensures.hit (c.in_ok-hit.ensures.shown trees searched (row_within m trees rows c.rows.at c.in_ok-row.row roots low c.in_ok-row.ensures))) ∙ w.in-Some.is)
            (ap (λ (v : Vec Hit Global). v.items) w.hits-is ∙ w.in_ok-push.ensures.items),
        reads,
        unread,
        omega (arith, c.rows.invariant.3, c.in_ok-hit.ensures.room, ap weight_or_zero w.in-Some.is, sum_by_push whole_weight c.rows.hits.items w.in-Some.hit, ap (sum_by whole_weight) (ap (λ (v : Vec Hit Global). v.items) w.hits-is ∙ w.in_ok-push.ensures.items)),
      )
      | in_default w ↦ (
        λ trees searched roots.
            more_none (shown_at m view c.args.found.now trees body) rows c.rows.at c.in_ok-row.row low c.in_ok-row.ensures c.rows.hits.items c.match-hit.hits.items (c.rows.invariant.0 trees searched roots)
            (sym (whole m trees view c.args.found.now body c.in_ok-row.row _ c.in_ok-hit.ensures.hit (c.in_ok-hit.ensures.shown trees searched (row_within m trees rows c.rows.at c.in_ok-row.row roots low c.in_ok-row.ensures))) ∙ w.in_default.is)
            (ap (λ (v : Vec Hit Global). v.items) w.hits-is),
        reads,
        unread,
        omega (arith, c.rows.invariant.3, c.in_ok-hit.ensures.room, ap weight_or_zero w.in_default.is, ap (sum_by whole_weight) (ap (λ (v : Vec Hit Global). v.items) w.hits-is)),
      )
    ]

pub returns-in_err-hit-clause-reads : goal.returns-in_err-hit-clause-reads
returns-in_err-hit-clause-reads g c = λ trees searched roots.
    let m = c.args.mapping.now in
    let rows = c.args.rows.now.rows in
    let cost = row_reads m trees c.args.search.now in
    let low : c.rows.at < length rows = omega (arith, c.rows-test.true, c.len-at-end.ensures) in
    let here : c.hit.new.steps ≤ c.args.steps.now + sum_by cost (take (c.rows.at + 1) rows) =
    reads_more cost rows c.rows.at c.in_ok-row.row low c.in_ok-row.ensures c.args.steps.now c.rows.steps c.hit.new.steps (c.rows.invariant.1 trees searched roots)
    (c.in_err-hit.ensures.reads trees searched (row_within m trees rows c.rows.at c.in_ok-row.row roots low c.in_ok-row.ensures)) in
    let all : sum_by cost (take (c.rows.at + 1) rows) ≤ sum_by cost rows = reads_within cost rows (c.rows.at + 1) in
    omega (arith, here, all)

pub returns-in_err-push-clause-reads : goal.returns-in_err-push-clause-reads
returns-in_err-push-clause-reads g c = λ trees searched roots.
    let m = c.args.mapping.now in
    let rows = c.args.rows.now.rows in
    let cost = row_reads m trees c.args.search.now in
    let low : c.rows.at < length rows = omega (arith, c.rows-test.true, c.len-at-end.ensures) in
    let here : c.hit.new.steps ≤ c.args.steps.now + sum_by cost (take (c.rows.at + 1) rows) =
    reads_more cost rows c.rows.at c.in_ok-row.row low c.in_ok-row.ensures c.args.steps.now c.rows.steps c.hit.new.steps (c.rows.invariant.1 trees searched roots)
    (c.in_ok-hit.ensures.reads trees searched (row_within m trees rows c.rows.at c.in_ok-row.row roots low c.in_ok-row.ensures)) in
    let all : sum_by cost (take (c.rows.at + 1) rows) ≤ sum_by cost rows = reads_within cost rows (c.rows.at + 1) in
    omega (arith, here, all)

pub returns-in_err-row-clause-reads : goal.returns-in_err-row-clause-reads
returns-in_err-row-clause-reads g c = λ trees searched roots.
    let rows = c.args.rows.now.rows in
    let cost = row_reads c.args.mapping.now trees c.args.search.now in
    let before : c.rows.steps ≤ c.args.steps.now + sum_by cost (take c.rows.at rows) = c.rows.invariant.1 trees searched roots in
    let all : sum_by cost (take c.rows.at rows) ≤ sum_by cost rows = reads_within cost rows c.rows.at in
    omega (arith, before, all)

pub returns-in_err-hit-clause-too_large : goal.returns-in_err-hit-clause-too_large
returns-in_err-hit-clause-too_large g c = λ large trees searched roots.
    let m = c.args.mapping.now in
    let rows = c.args.rows.now.rows in
    let f = shown_at m c.args.view.now c.args.found.now trees c.args.search.now in
    let low : c.rows.at < length rows = omega (arith, c.rows-test.true, c.len-at-end.ensures) in
    let less = c.in_err-hit.ensures.too_large (same_refusal c.from_residual-in_err-hit.result c.from_residual-in_err-hit.ensures.1 large) trees searched (row_within m trees rows c.rows.at c.in_ok-row.row roots low c.in_ok-row.ensures) in
    omega (arith, c.rows.invariant.3, row_passes f rows c.rows.at c.in_ok-row.row low c.in_ok-row.ensures c.rows.hits.items _ (c.rows.invariant.0 trees searched roots) less)
