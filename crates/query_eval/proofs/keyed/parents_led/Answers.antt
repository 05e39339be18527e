use Rattle.std.proofs.Common.{◌∙◌, sym}
use Rattle.query_eval.proofs.Rooted.{seen_any_child}
use Rattle.query_eval.proofs.keyed.parents_led.Goals as goal

pub led-requires-clause-keyed : goal.led-requires-clause-keyed
led-requires-clause-keyed c = c.requires.parents c.in-Some.parent (sym c.parent_relation.ensures ∙ c.in-Some.is)

pub returns-clause-seen : goal.returns-clause-seen
returns-clause-seen c = λ given is.
    seen_any_child c.objects_nest.ensures.at_root c.args.entries.now c.args.joins.now c.requires.joined c.args.mapping.now c.scope_count-scopes.ensures.is_mapping c.args.hits.now c.in_ok-made.made given
    c.in_ok-made.ensures.long is c.args.child c.in-Some.parent (sym c.parent_relation.ensures ∙ c.in-Some.is) c.in_ok-made.ensures.given
