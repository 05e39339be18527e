use Rattle.json_merge.proofs.Levels.{merged_within}
use Rattle.json_merge.proofs.merge.merged_values_nest_no_deeper.Goals as goal

pub returns : goal.returns
returns c = merged_within
