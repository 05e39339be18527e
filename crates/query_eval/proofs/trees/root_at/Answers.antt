use Rattle.std.proofs.Common.{ℕ, Some, ap, ◌∙◌}
use Rattle.query_eval.proofs.Hits.{root_ranked}
use Rattle.query_eval.proofs.trees.root_at.Goals as goal

pub returns-then-root_doc-doc-clause-root : goal.returns-then-root_doc-doc-clause-root
returns-then-root_doc-doc-clause-root c =
    root_ranked c.args.segment.now.scopes c.args.rank c.args.doc (c.root_doc.ensures.document ∙ ap (λ (doc : ℕ). Some doc) c.if-root_doc-doc.true)
