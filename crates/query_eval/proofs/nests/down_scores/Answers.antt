use Rattle.std.proofs.Common.{◌≢◌, arith}
use Rattle.query_eval.proofs.Scopes.{down_is}
use Rattle.query_eval.proofs.nests.down_scores.Goals as goal

pub returns-in_ok-join_down-in-Some-Some-clause-seen : goal.returns-in_ok-join_down-in-Some-Some-clause-seen
returns-in_ok-join_down-in-Some-Some-clause-seen c = λ m bits trees given stands above are.
    let less = c.scopes_form_chains.ensures.smaller m c.args.from c.args.to stands.mapping above in
    let apart : c.args.from ≢ c.args.to = λ same. absurd (omega (arith, same, less.0)) in
    down_is m c.args.segment.now bits trees stands c.args.from c.args.to given c.in-Some-Some.parents.now c.in-Some-Some.children.now c.args.hits.now c.in_ok-join_down-in-Some-Some.field-0 apart
    c.in-Some-Some.ensures.set c.in-Some-Some.ensures'.set are
    (λ scopes above below apart is own. c.in_ok-join_down-in-Some-Some.ensures.scores scopes above below apart is own)
    (c.joins_are_of_trees.ensures.down m c.args.from c.args.to given trees stands.mapping above)

pub returns-in_ok-join_down-in_default-clause-seen : goal.returns-in_ok-join_down-in_default-clause-seen
returns-in_ok-join_down-in_default-clause-seen c = λ m bits trees given stands above are.
    let less = c.scopes_form_chains.ensures.smaller m c.args.from c.args.to stands.mapping above in
    let apart : c.args.from ≢ c.args.to = λ same. absurd (omega (arith, same, less.0)) in
    down_is m c.args.segment.now bits trees stands c.args.from c.args.to given c.in_ok-parents-in_default.parents c.in_ok-children-in_default.children c.args.hits.now c.in_ok-join_down-in_default.field-0 apart
    c.in_ok-parents-in_default.ensures.set c.in_ok-children-in_default.ensures.set are
    (λ scopes above below apart is own. c.in_ok-join_down-in_default.ensures.scores scopes above below apart is own)
    (c.joins_are_of_trees.ensures.down m c.args.from c.args.to given trees stands.mapping above)
