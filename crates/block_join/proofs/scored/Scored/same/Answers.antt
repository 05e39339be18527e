use Rattle.block_join.proofs.Shown.{shown_same}
use Rattle.block_join.proofs.scored.Scored.same.Goals as goal

pub returns : goal.returns
returns c = shown_same c.args.score 0 c.args.set
