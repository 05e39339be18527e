use Rattle.std.proofs.Common.{◌≤◌, ◌<◌, ◌+◌, List, Err, length, map, ap, subst, ◌∙◌, arith}
use Rattle.flattener.specs.StandsFor.{ViewStandsFor}
use Rattle.machine.specs.Searching.{found_by}
use Rattle.query_ast.specs.Search.{hit_page, found_buckets}
use Rattle.reply_text.specs.Text.{line_of}
use Rattle.reply_text.specs.Weight.{page_weight}
use Rattle.search_page.specs.Searched.{AreSearched, page_reads}
use Rattle.segment.specs.Live.{EntryState}
use Rattle.segment_builder.specs.Blocks.{blocks_in}
use Rattle.tree_objects.specs.Tree.{Tree}
use Rattle.engine.proofs.Finding.{are_searched, blocks_same, found_same, live_same, trees_of}
use Rattle.engine.proofs.search.found_in.Goals as goal

pub returns-in-Ok-clause-found : goal.returns-in-Ok-clause-found
returns-in-Ok-clause-found g c = λ live s.
    let m = c.args.mapping.now in
    let trees = trees_of m c.args.view.now live s in
    let stands : ViewStandsFor m c.args.view.now trees =
    subst (λ (entries : List EntryState). ViewStandsFor m entries trees) c.entries.ensures.entries
    (c.entries_stand.ensures m trees c.scope_count-scopes.ensures.is_mapping (ap (map blocks_in) c.entries.ensures.entries ∙ blocks_same m c.args.view.now live s)) in
    let searched : AreSearched m c.args.view.now trees = are_searched m c.args.view.now live s stands in
    found_same m live c.args.search.now c.in-Ok.field-0.page c.in-Ok.field-0.answers trees (live_same m c.args.view.now live s) (c.in-Ok.ensures.page trees searched) (c.in-Ok.ensures.answers trees searched)

pub returns-in-Ok-clause-reads : goal.returns-in-Ok-clause-reads
returns-in-Ok-clause-reads g c = λ live s.
    let m = c.args.mapping.now in
    let trees = trees_of m c.args.view.now live s in
    let stands : ViewStandsFor m c.args.view.now trees =
    subst (λ (entries : List EntryState). ViewStandsFor m entries trees) c.entries.ensures.entries
    (c.entries_stand.ensures m trees c.scope_count-scopes.ensures.is_mapping (ap (map blocks_in) c.entries.ensures.entries ∙ blocks_same m c.args.view.now live s)) in
    subst (λ (own : List Tree). c.found.new.steps ≤ c.args.steps.now + page_reads (hit_page m own c.args.search.now)) (live_same m c.args.view.now live s)
    (c.found.ensures.reads trees (are_searched m c.args.view.now live s stands))

pub returns-in-Err-TooLarge-clause-found : goal.returns-in-Err-TooLarge-clause-found
returns-in-Err-TooLarge-clause-found g c = λ live s.
    let m = c.args.mapping.now in
    let trees = trees_of m c.args.view.now live s in
    let stands : ViewStandsFor m c.args.view.now trees =
    subst (λ (entries : List EntryState). ViewStandsFor m entries trees) c.entries.ensures.entries
    (c.entries_stand.ensures m trees c.scope_count-scopes.ensures.is_mapping (ap (map blocks_in) c.entries.ensures.entries ∙ blocks_same m c.args.view.now live s)) in
    let searched : AreSearched m c.args.view.now trees = are_searched m c.args.view.now live s stands in
    let heavy : c.args.limits.now.reply_bytes < page_weight (hit_page m live c.args.search.now) =
    subst (λ (own : List Tree). c.args.limits.now.reply_bytes < page_weight (hit_page m own c.args.search.now)) (live_same m c.args.view.now live s) (c.in-Err-TooLarge.ensures.too_large (ap Err c.in-Err-TooLarge.field-0-is) trees searched) in
    let held : page_weight (hit_page m live c.args.search.now) ≤ length (line_of (found_by m live c.args.search.now)) =
    c.reply_weighs_its_page.ensures (hit_page m live c.args.search.now) (found_buckets m live c.args.search.now) (c.requires.apart live) in
    omega (arith, heavy, held)

pub returns-in-Err-TooLarge-clause-reads : goal.returns-in-Err-TooLarge-clause-reads
returns-in-Err-TooLarge-clause-reads g c = λ live s.
    let m = c.args.mapping.now in
    let trees = trees_of m c.args.view.now live s in
    let stands : ViewStandsFor m c.args.view.now trees =
    subst (λ (entries : List EntryState). ViewStandsFor m entries trees) c.entries.ensures.entries
    (c.entries_stand.ensures m trees c.scope_count-scopes.ensures.is_mapping (ap (map blocks_in) c.entries.ensures.entries ∙ blocks_same m c.args.view.now live s)) in
    subst (λ (own : List Tree). c.found.new.steps ≤ c.args.steps.now + page_reads (hit_page m own c.args.search.now)) (live_same m c.args.view.now live s)
    (c.found.ensures.reads trees (are_searched m c.args.view.now live s stands))

pub returns-in-Err-NoMemory-clause-reads : goal.returns-in-Err-NoMemory-clause-reads
returns-in-Err-NoMemory-clause-reads g c = λ live s.
    let m = c.args.mapping.now in
    let trees = trees_of m c.args.view.now live s in
    let stands : ViewStandsFor m c.args.view.now trees =
    subst (λ (entries : List EntryState). ViewStandsFor m entries trees) c.entries.ensures.entries
    (c.entries_stand.ensures m trees c.scope_count-scopes.ensures.is_mapping (ap (map blocks_in) c.entries.ensures.entries ∙ blocks_same m c.args.view.now live s)) in
    subst (λ (own : List Tree). c.found.new.steps ≤ c.args.steps.now + page_reads (hit_page m own c.args.search.now)) (live_same m c.args.view.now live s)
    (c.found.ensures.reads trees (are_searched m c.args.view.now live s stands))
