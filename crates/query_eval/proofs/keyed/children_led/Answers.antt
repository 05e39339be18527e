use Rattle.std.proofs.Common.{◌∙◌, sym}
use Rattle.query_eval.proofs.Related.{seen_by_relation}
use Rattle.query_eval.proofs.keyed.children_led.Goals as goal

pub returns-clause-seen : goal.returns-clause-seen
returns-clause-seen c = λ given is.
    seen_by_relation c.objects_nest.ensures.at_root c.args.entries.now c.args.joins.now c.requires.joined c.args.mapping.now c.scope_count-scopes.ensures.is_mapping c.args.hits.now c.in_ok-made.made given
    c.in_ok-made.ensures.long is c.args.child c.in-Some.parent (sym c.parent_relation.ensures ∙ c.in-Some.is) c.in_ok-made.ensures.given
