use Rattle.std.proofs.Common.{◌∙◌}
use Rattle.query_eval.specs.Found.{live_trees}
use Rattle.search_page.proofs.Empty.{empty_is}
use Rattle.search_page.proofs.pages.empty_page.Goals as goal

pub returns-clause-page : goal.returns-clause-page
returns-clause-page c = λ trees searched.
    let body = c.args.search.now in
    empty_is c.args.mapping.now (live_trees trees) body c.of-hits.result c.in_ok-total.total c.requires.none (c.of-hits.ensures ∙ c.new.ensures.items) (c.in_ok-total.ensures body.query trees c.requires.matched searched.stands)
