use Rattle.request_form.proofs.Formed.{asked_search}
use Rattle.request_form.proofs.law.searches_are_formed.Goals as goal

pub returns : goal.returns
returns c = asked_search
