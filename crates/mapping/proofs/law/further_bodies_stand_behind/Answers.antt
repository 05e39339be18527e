use Rattle.mapping.proofs.Further.{stand_behind}
use Rattle.mapping.proofs.law.further_bodies_stand_behind.Goals as goal

pub returns : goal.returns
returns c bs more on later are forms = stand_behind bs more on later are.forms forms
