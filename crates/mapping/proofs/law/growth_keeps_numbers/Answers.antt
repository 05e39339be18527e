use Rattle.mapping.proofs.Keeps.{numbers_keep}
use Rattle.mapping.proofs.law.growth_keeps_numbers.Goals as goal

pub returns : goal.returns
returns c = numbers_keep
