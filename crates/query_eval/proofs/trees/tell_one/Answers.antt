use Rattle.query_eval.proofs.trees.tell_one.Goals as goal

pub returns-clause-scores : goal.returns-clause-scores
returns-clause-scores c = λ asked pairs was. rw (c.in-Some.is, c.in-Some-score.is) (c.in_ok-add.ensures.scores asked pairs was)
