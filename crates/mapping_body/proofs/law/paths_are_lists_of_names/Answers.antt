use Rattle.mapping_body.proofs.Above.{above_names, joined_names, names_above}
use Rattle.mapping_body.proofs.law.paths_are_lists_of_names.Goals as goal

pub returns-clause-above : goal.returns-clause-above
returns-clause-above c = above_names

pub returns-clause-prefix : goal.returns-clause-prefix
returns-clause-prefix c = names_above

pub returns-clause-joined : goal.returns-clause-joined
returns-clause-joined c = joined_names
