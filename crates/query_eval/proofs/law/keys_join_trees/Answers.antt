use Rattle.query_eval.proofs.Meeting.{children_meet, parents_meet}
use Rattle.query_eval.proofs.law.keys_join_trees.Goals as goal

pub returns-clause-children : goal.returns-clause-children
returns-clause-children c = λ m view ordinals relation parent place root other other_root tree child one two are is.
    children_meet m view ordinals are relation parent place root other other_root tree child one two is

pub returns-clause-parents : goal.returns-clause-parents
returns-clause-parents c = λ m view ordinals relation place root other other_root tree parent one two are.
    parents_meet m view ordinals are relation place root other other_root tree parent one two
