use Rattle.query_parser.proofs.Searches.{search_is}
use Rattle.query_parser.proofs.resolve.is_resolved.Goals as goal

pub returns : goal.returns
returns c clean =
    search_is c.args.mapping.now (λ n some below. c.scopes_form_chains.ensures.root c.args.mapping.now n c.scope_count.ensures.is_mapping some below)
    c.args.shape.now c.members.ensures.form c.members.ensures.texts clean
