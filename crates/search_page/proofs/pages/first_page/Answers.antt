use Rattle.std.proofs.Common.{◌≡◌, refl, ap, ◌∙◌, arith}
use Rattle.std.specs.List.{filter_map, sum_by}
use Rattle.query_ast.specs.Search.{hit_page}
use Rattle.query_eval.specs.Found.{live_trees}
use Rattle.inner_hits.proofs.Refusals.{same_refusal}
use Rattle.reply_text.specs.Weight.{page_weight}
use Rattle.search_page.specs.Hits.{row_reads, shown_at}
use Rattle.search_page.specs.Searched.{page_reads}
use Rattle.search_page.proofs.Plain.{front_at_roots, front_found, front_reads_are}
use Rattle.search_page.proofs.pages.first_page.Goals as goal

pub returns-clause-page : goal.returns-clause-page
returns-clause-page g c = λ trees searched.
    let m = c.args.mapping.now in
    let view = c.args.view.now in
    let body = c.args.search.now in
    let found = c.args.matched.now in
    let one_root = c.objects_nest.ensures.at_root m in
    let page = c.in_ok-rows.rows.rows in
    front_found m one_root view found body c.requires.matched trees searched.stands searched.numbered c.args.score c.requires.after c.requires.sort c.requires.shared page c.in_ok-rows.ensures c.of.result c.in_ok-total.total
    (c.of.ensures ∙ c.in_ok-hits.ensures.hits trees searched (front_at_roots m one_root view found body c.requires.matched trees searched.stands searched.numbered c.args.score c.requires.after c.requires.sort c.requires.shared page c.in_ok-rows.ensures))
    (c.in_ok-total.ensures body.query trees c.requires.matched searched.stands)

pub returns-in_err-hits-clause-reads : goal.returns-in_err-hits-clause-reads
returns-in_err-hits-clause-reads g c = λ trees searched.
    let m = c.args.mapping.now in
    let view = c.args.view.now in
    let body = c.args.search.now in
    let found = c.args.matched.now in
    let one_root = c.objects_nest.ensures.at_root m in
    let page = c.in_ok-rows.rows.rows in
    let reads = c.in_err-hits.ensures.reads trees searched (front_at_roots m one_root view found body c.requires.matched trees searched.stands searched.numbered c.args.score c.requires.after c.requires.sort c.requires.shared page c.in_ok-rows.ensures) in
    let costs : sum_by (row_reads m trees body) page ≡ page_reads (hit_page m (live_trees trees) body) =
    front_reads_are m one_root view found body c.requires.matched trees searched.stands searched.numbered c.args.score c.requires.after c.requires.sort c.requires.shared page c.in_ok-rows.ensures in
    omega (arith, reads, costs, c.in_ok-prepared.ensures.steps)

pub returns-clause-reads : goal.returns-clause-reads
returns-clause-reads g c = λ trees searched.
    let m = c.args.mapping.now in
    let view = c.args.view.now in
    let body = c.args.search.now in
    let found = c.args.matched.now in
    let one_root = c.objects_nest.ensures.at_root m in
    let page = c.in_ok-rows.rows.rows in
    let reads = c.in_ok-hits.ensures.reads trees searched (front_at_roots m one_root view found body c.requires.matched trees searched.stands searched.numbered c.args.score c.requires.after c.requires.sort c.requires.shared page c.in_ok-rows.ensures) in
    let costs : sum_by (row_reads m trees body) page ≡ page_reads (hit_page m (live_trees trees) body) =
    front_reads_are m one_root view found body c.requires.matched trees searched.stands searched.numbered c.args.score c.requires.after c.requires.sort c.requires.shared page c.in_ok-rows.ensures in
    omega (arith, reads, costs, c.in_ok-prepared.ensures.steps)

pub returns-in_err-hits-clause-too_large : goal.returns-in_err-hits-clause-too_large
returns-in_err-hits-clause-too_large g c = λ large trees searched.
    let m = c.args.mapping.now in
    let view = c.args.view.now in
    let body = c.args.search.now in
    let found = c.args.matched.now in
    let one_root = c.objects_nest.ensures.at_root m in
    let page = c.in_ok-rows.rows.rows in
    let less = c.in_err-hits.ensures.too_large (same_refusal c.from_residual-in_err-hits.result c.from_residual-in_err-hits.ensures.1 large) trees searched (front_at_roots m one_root view found body c.requires.matched trees searched.stands searched.numbered c.args.score c.requires.after c.requires.sort c.requires.shared page c.in_ok-rows.ensures) in
    let same = front_found m one_root view found body c.requires.matched trees searched.stands searched.numbered c.args.score c.requires.after c.requires.sort c.requires.shared page c.in_ok-rows.ensures (filter_map (shown_at m view found trees body) page) c.in_ok-total.total refl (c.in_ok-total.ensures body.query trees c.requires.matched searched.stands) in
    omega (arith, less, ap page_weight same)
