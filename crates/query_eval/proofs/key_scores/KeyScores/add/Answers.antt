use Rattle.query_eval.proofs.Slots.{marked_more}
use Rattle.query_eval.proofs.key_scores.KeyScores.add.Goals as goal

pub returns-in-Alike-clause-scores : goal.returns-in-Alike-clause-scores
returns-in-Alike-clause-scores c = λ asked pairs was.
    let own = rw c.in-Alike.is at was in (own.0, rw c.set.ensures (marked_more c.in-Alike.field-0 pairs _ c.args.key c.args.score own.1 (rw c.in-Alike.is at c.requires.key)))
