use Rattle.tree_json.proofs.FewLevels.{few_levels}
use Rattle.tree_json.proofs.law.what_is_read_has_few_levels.Goals as goal

pub returns : goal.returns
returns c = few_levels
