use Rattle.source_growth.proofs.Taken.{taken}
use Rattle.source_growth.proofs.law.growth_is_taken.Goals as goal

pub returns : goal.returns
returns c = taken
