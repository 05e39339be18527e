use Rattle.request_form.proofs.Formed.{asked_formed}
use Rattle.request_form.proofs.law.writes_are_formed.Goals as goal

pub returns : goal.returns
returns c = asked_formed c.what_is_read_has_few_levels.ensures
