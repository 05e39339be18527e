use Rattle.tree_objects.proofs.Further.{tree_same, below_same}
use Rattle.tree_objects.proofs.Kept.{values_same, no_values, join_same, fault_same}
use Rattle.tree_objects.proofs.law.further_bodies_leave_trees.Goals as goal

pub returns-clause-objects : goal.returns-clause-objects
returns-clause-objects c = tree_same

pub returns-clause-below : goal.returns-clause-below
returns-clause-below c = below_same

pub returns-clause-values : goal.returns-clause-values
returns-clause-values c = values_same

pub returns-clause-later : goal.returns-clause-later
returns-clause-later c = no_values

pub returns-clause-join : goal.returns-clause-join
returns-clause-join c = join_same

pub returns-clause-faults : goal.returns-clause-faults
returns-clause-faults c = fault_same
