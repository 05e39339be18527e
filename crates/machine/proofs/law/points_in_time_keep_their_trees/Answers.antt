use Rattle.machine.proofs.Pointed.{may_given, may_keeps, open_has, points_stay}
use Rattle.machine.proofs.law.points_in_time_keep_their_trees.Goals as goal

pub returns-clause-given : goal.returns-clause-given
returns-clause-given c = may_given

pub returns-clause-opened : goal.returns-clause-opened
returns-clause-opened c = open_has

pub returns-clause-kept : goal.returns-clause-kept
returns-clause-kept c = may_keeps

pub returns-clause-others : goal.returns-clause-others
returns-clause-others c = points_stay
