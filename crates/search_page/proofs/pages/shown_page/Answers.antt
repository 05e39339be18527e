use Rattle.std.proofs.Common.{◌≡◌, refl, ap, ◌∙◌, arith}
use Rattle.query_ast.specs.Search.{hit_page}
use Rattle.query_eval.specs.Found.{live_trees, score_by}
use Rattle.std.specs.List.{filter_map, sum_by}
use Rattle.inner_hits.proofs.Refusals.{same_refusal}
use Rattle.reply_text.specs.Weight.{page_weight}
use Rattle.search_page.specs.Hits.{row_reads, shown_at}
use Rattle.search_page.specs.Searched.{page_reads}
use Rattle.search_page.proofs.Paged.{page_at_roots, page_found, page_reads_are}
use Rattle.search_page.proofs.pages.shown_page.Goals as goal

pub returns-clause-page : goal.returns-clause-page
returns-clause-page g c = λ trees searched.
    let m = c.args.mapping.now in
    let view = c.args.view.now in
    let body = c.args.search.now in
    let found = c.args.matched.now in
    let rows = c.in_ok-rows.rows in
    let one_root = c.objects_nest.ensures.at_root m in
    let are = c.in_ok-rows.ensures.rows (score_by m body.query) trees body.from body.size c.requires.matched searched.stands (omega arith) in
    let page = c.in_ok-shown.shown.rows in
    page_found m one_root view found body c.requires.matched trees searched.stands rows.rows page rows.directions _ c.in_ok-rows.ensures.directions c.as_ref-after.ensures.value are c.in_ok-shown.ensures.page
    c.of.result c.in_ok-total.total
    (c.of.ensures
    ∙ c.in_ok-hits.ensures.hits trees searched (page_at_roots m one_root view found body c.requires.matched trees searched.stands rows.rows page rows.directions _ c.in_ok-rows.ensures.directions c.as_ref-after.ensures.value are c.in_ok-shown.ensures.page))
    (c.in_ok-total.ensures body.query trees c.requires.matched searched.stands)

pub returns-in_err-hits-clause-reads : goal.returns-in_err-hits-clause-reads
returns-in_err-hits-clause-reads g c = λ trees searched.
    let m = c.args.mapping.now in
    let view = c.args.view.now in
    let body = c.args.search.now in
    let found = c.args.matched.now in
    let rows = c.in_ok-rows.rows in
    let one_root = c.objects_nest.ensures.at_root m in
    let are = c.in_ok-rows.ensures.rows (score_by m body.query) trees body.from body.size c.requires.matched searched.stands (omega arith) in
    let page = c.in_ok-shown.shown.rows in
    let reads = c.in_err-hits.ensures.reads trees searched (page_at_roots m one_root view found body c.requires.matched trees searched.stands rows.rows page rows.directions _ c.in_ok-rows.ensures.directions c.as_ref-after.ensures.value are c.in_ok-shown.ensures.page) in
    let costs : sum_by (row_reads m trees body) page ≡ page_reads (hit_page m (live_trees trees) body) =
    page_reads_are m one_root view found body c.requires.matched trees searched.stands rows.rows page rows.directions _ c.in_ok-rows.ensures.directions c.as_ref-after.ensures.value are c.in_ok-shown.ensures.page in
    omega (arith, reads, costs, c.in_ok-rows.ensures.steps, c.in_ok-prepared.ensures.steps, c.in_ok-filters.ensures.steps)

pub returns-clause-reads : goal.returns-clause-reads
returns-clause-reads g c = λ trees searched.
    let m = c.args.mapping.now in
    let view = c.args.view.now in
    let body = c.args.search.now in
    let found = c.args.matched.now in
    let rows = c.in_ok-rows.rows in
    let one_root = c.objects_nest.ensures.at_root m in
    let are = c.in_ok-rows.ensures.rows (score_by m body.query) trees body.from body.size c.requires.matched searched.stands (omega arith) in
    let page = c.in_ok-shown.shown.rows in
    let reads = c.in_ok-hits.ensures.reads trees searched (page_at_roots m one_root view found body c.requires.matched trees searched.stands rows.rows page rows.directions _ c.in_ok-rows.ensures.directions c.as_ref-after.ensures.value are c.in_ok-shown.ensures.page) in
    let costs : sum_by (row_reads m trees body) page ≡ page_reads (hit_page m (live_trees trees) body) =
    page_reads_are m one_root view found body c.requires.matched trees searched.stands rows.rows page rows.directions _ c.in_ok-rows.ensures.directions c.as_ref-after.ensures.value are c.in_ok-shown.ensures.page in
    omega (arith, reads, costs, c.in_ok-rows.ensures.steps, c.in_ok-prepared.ensures.steps, c.in_ok-filters.ensures.steps)

pub returns-in_err-hits-clause-too_large : goal.returns-in_err-hits-clause-too_large
returns-in_err-hits-clause-too_large g c = λ large trees searched.
    let m = c.args.mapping.now in
    let view = c.args.view.now in
    let body = c.args.search.now in
    let found = c.args.matched.now in
    let rows = c.in_ok-rows.rows in
    let one_root = c.objects_nest.ensures.at_root m in
    let are = c.in_ok-rows.ensures.rows (score_by m body.query) trees body.from body.size c.requires.matched searched.stands (omega arith) in
    let page = c.in_ok-shown.shown.rows in
    let less = c.in_err-hits.ensures.too_large (same_refusal c.from_residual-in_err-hits.result c.from_residual-in_err-hits.ensures.1 large) trees searched
    (page_at_roots m one_root view found body c.requires.matched trees searched.stands rows.rows page rows.directions _ c.in_ok-rows.ensures.directions c.as_ref-after.ensures.value are c.in_ok-shown.ensures.page) in
    let same = page_found m one_root view found body c.requires.matched trees searched.stands rows.rows page rows.directions _ c.in_ok-rows.ensures.directions c.as_ref-after.ensures.value are c.in_ok-shown.ensures.page
    (filter_map (shown_at m view found trees body) page) c.in_ok-total.total refl (c.in_ok-total.ensures body.query trees c.requires.matched searched.stands) in
    omega (arith, less, ap page_weight same)
