use Rattle.mapping.proofs.Above.{chain, above_step, above_lt, above_in_range, included_up}
use Rattle.mapping.proofs.law.scopes_form_chains.Goals as goal

pub returns-clause-chain : goal.returns-clause-chain
returns-clause-chain c = chain

pub returns-clause-step : goal.returns-clause-step
returns-clause-step c = above_step

pub returns-clause-smaller : goal.returns-clause-smaller
returns-clause-smaller c m a b is above = (above_lt m a b is above, above_in_range m a b above)

pub returns-clause-included : goal.returns-clause-included
returns-clause-included c = included_up
