use Rattle.request_form.proofs.Formed.{asked_factor, asked_force}
use Rattle.request_form.proofs.law.merges_are_formed.Goals as goal

pub returns-clause-forced : goal.returns-clause-forced
returns-clause-forced c = asked_force

pub returns-clause-factor : goal.returns-clause-factor
returns-clause-factor c = asked_factor
