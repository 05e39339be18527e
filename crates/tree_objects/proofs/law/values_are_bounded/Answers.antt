use Rattle.tree_objects.proofs.Faultless.{no_long_values}
use Rattle.tree_objects.proofs.Weights.{values_few, values_short}
use Rattle.tree_objects.proofs.law.values_are_bounded.Goals as goal

pub returns-clause-count : goal.returns-clause-count
returns-clause-count c = values_few

pub returns-clause-bytes : goal.returns-clause-bytes
returns-clause-bytes c = values_short

pub returns-clause-short : goal.returns-clause-short
returns-clause-short c = no_long_values
