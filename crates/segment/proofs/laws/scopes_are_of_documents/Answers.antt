use Rattle.segment.proofs.FlatScopes.{seen_shown, sets_shown, scope_within}
use Rattle.segment.proofs.laws.scopes_are_of_documents.Goals as goal

pub returns-clause-seen : goal.returns-clause-seen
returns-clause-seen c = seen_shown c.args.segment.now c.docs-documents.ensures.agree

pub returns-clause-sets : goal.returns-clause-sets
returns-clause-sets c = λ scope doc within inside. sets_shown c.args.segment.now scope doc c.docs-documents.ensures.agree within inside

pub returns-clause-within : goal.returns-clause-within
returns-clause-within c = λ doc inside. scope_within c.args.segment.now doc c.docs-documents.ensures.agree inside
