use Rattle.query_eval.proofs.Rooted.{seen_parents}
use Rattle.query_eval.proofs.trees.with_parent.Goals as goal

pub returns : goal.returns
returns c = λ given is.
    seen_parents c.objects_nest.ensures.at_root c.args.entries.now c.args.joins.now c.requires.joined c.args.mapping.now c.scope_count-scopes.ensures.is_mapping c.args.hits.now c.in_ok-made.made given
    c.in_ok-made.ensures.long is c.args.parent c.args.score c.args.boost c.in_ok-made.ensures.given
