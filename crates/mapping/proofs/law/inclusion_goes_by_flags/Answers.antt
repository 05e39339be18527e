use Rattle.mapping.proofs.Including.{led, included_by}
use Rattle.mapping.proofs.law.inclusion_goes_by_flags.Goals as goal

pub returns-clause-led : goal.returns-clause-led
returns-clause-led c = led

pub returns-clause-included : goal.returns-clause-included
returns-clause-included c = included_by
