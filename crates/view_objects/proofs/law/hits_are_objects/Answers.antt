use Rattle.std.proofs.Common.{[], get_or}
use Rattle.view_objects.proofs.Hits.{hits_found, roots_are}
use Rattle.view_objects.proofs.Inside.{below_found}
use Rattle.view_objects.proofs.law.hits_are_objects.Goals as goal

pub returns-clause-hits : goal.returns-clause-hits
returns-clause-hits c = λ m n given trees. hits_found m n given trees

pub returns-clause-roots : goal.returns-clause-roots
returns-clause-roots c = λ m trees is. roots_are m (λ tree. c.objects_nest.ensures.at_root m tree is) trees

pub returns-clause-inside : goal.returns-clause-inside
returns-clause-inside c = λ m n p owner given trees place doc score is above hit.
    below_found m n p owner given trees place doc score hit (c.joins_are_of_trees.ensures.inside m n p given (get_or trees place []) is above)
