use Rattle.inner_hits.proofs.Refusals.{same_refusal}
use Rattle.inner_hits.proofs.pages.inner.Goals as goal

pub returns-clause-pages : goal.returns-clause-pages
returns-clause-pages g c = λ trees asked. c.in_ok-pages_for.ensures.pages trees (record { stands = asked.stands; kept = asked.kept; hit = asked.hit; holds = λ need. asked.holds })

pub returns-clause-steps : goal.returns-clause-steps
returns-clause-steps g c = λ trees asked. c.in_ok-pages_for.ensures.steps trees (record { stands = asked.stands; kept = asked.kept; hit = asked.hit; holds = λ need. asked.holds })

pub returns-in_err-pages_for-clause-steps : goal.returns-in_err-pages_for-clause-steps
returns-in_err-pages_for-clause-steps g c = λ trees asked. c.in_err-pages_for.ensures.steps trees (record { stands = asked.stands; kept = asked.kept; hit = asked.hit; holds = λ need. asked.holds })

pub returns-in_err-pages_for-clause-too_large : goal.returns-in_err-pages_for-clause-too_large
returns-in_err-pages_for-clause-too_large g c = λ large trees asked. c.in_err-pages_for.ensures.too_large (same_refusal c.from_residual.result c.from_residual.ensures.1 large) trees (record { stands = asked.stands; kept = asked.kept; hit = asked.hit; holds = λ need. asked.holds })
