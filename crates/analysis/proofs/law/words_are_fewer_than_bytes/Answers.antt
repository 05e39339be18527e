use Rattle.analysis.proofs.Fewer.{words_fewer}
use Rattle.analysis.proofs.law.words_are_fewer_than_bytes.Goals as goal

pub returns : goal.returns
returns c = words_fewer
