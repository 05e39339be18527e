use Rattle.query_eval.proofs.Reached.{ups_count}
use Rattle.query_eval.proofs.law.ups_are_counted.Goals as goal

pub returns : goal.returns
returns c = λ m view to from given hits above is.
    ups_count (λ m to from score mode trees known above none. c.joins_are_of_trees.ensures.up m to from score mode trees known above none) m view to from given hits above is
