use Rattle.std.proofs.Common.{refl}
use Rattle.score_math.specs.Scores.{mode_of}
use Rattle.query_eval.proofs.Scopes.{up_is}
use Rattle.query_eval.proofs.nests.up_scores.Goals as goal

pub returns-in_ok-join_up-in-Some-clause-seen : goal.returns-in_ok-join_up-in-Some-clause-seen
returns-in_ok-join_up-in-Some-clause-seen c = λ m bits trees from given stands above are.
    up_is m c.args.segment.now bits trees stands c.args.to from given (mode_of c.args.mode) c.in-Some.parents.now c.args.hits.now c.in_ok-join_up-in-Some.field-0 c.in-Some.ensures.set are
    (λ scopes n is. c.in_ok-join_up-in-Some.ensures.scores scopes n is)
    (c.joins_are_of_trees.ensures.up m c.args.to from given (mode_of c.args.mode) trees stands.mapping above refl)

pub returns-in_ok-join_up-in-None-clause-seen : goal.returns-in_ok-join_up-in-None-clause-seen
returns-in_ok-join_up-in-None-clause-seen c = λ m bits trees from given stands above are.
    up_is m c.args.segment.now bits trees stands c.args.to from given (mode_of c.args.mode) c.in_ok-parents-in-None.parents c.args.hits.now c.in_ok-join_up-in-None.field-0 c.in_ok-parents-in-None.ensures.set are
    (λ scopes n is. c.in_ok-join_up-in-None.ensures.scores scopes n is)
    (c.joins_are_of_trees.ensures.up m c.args.to from given (mode_of c.args.mode) trees stands.mapping above refl)
