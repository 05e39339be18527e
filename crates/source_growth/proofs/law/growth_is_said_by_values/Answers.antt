use Rattle.source_growth.proofs.Said.{said}
use Rattle.source_growth.proofs.law.growth_is_said_by_values.Goals as goal

pub returns : goal.returns
returns c = said
