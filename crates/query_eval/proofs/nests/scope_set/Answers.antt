use Rattle.std.proofs.Common.{ℕ, false, replicate, ap, ◌∙◌}
use Rattle.query_eval.proofs.Scopes.{none_is}
use Rattle.query_eval.proofs.nests.scope_set.Goals as goal

pub returns-in_ok-empty-in-None-clause-set : goal.returns-in_ok-empty-in-None-clause-set
returns-in_ok-empty-in-None-clause-set c =
    c.in_ok-empty-in-None.ensures
    ∙ ap (λ (n : ℕ). replicate n false) c.docs-documents.ensures.documents
    ∙ none_is c.args.segment.now c.args.scope c.in-None.ensures.none c.scopes_are_of_documents.ensures.within
