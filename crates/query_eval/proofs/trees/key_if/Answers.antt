use Rattle.std.proofs.Common.{◌<◌, ℕ, Option, IfSome, length, sym, ap, subst, ◌∙◌, arith}
use Rattle.query_eval.specs.Sides.{keys_at}
use Rattle.query_eval.proofs.Hits.{key_found, no_key, root_set}
use Rattle.query_eval.proofs.Scopes.{documents_long}
use Rattle.query_eval.proofs.Telling.{key_within}
use Rattle.query_eval.proofs.trees.key_if.Goals as goal

pub root_at-requires : goal.root_at-requires
root_at-requires c = omega (arith, c.requires.document, ap length c.requires.roots, documents_long c.args.segment.now 0)

pub returns-then-not-has-clause-key : goal.returns-then-not-has-clause-key
returns-then-not-has-clause-key c = sym (no_key c.args.roots.now (keys_at c.args.mapping.now c.args.joins.now c.args.side c.args.segment.now c.args.place) c.args.doc (sym c.has.ensures ∙ c.if-not-has.true))

pub returns-clause-key : goal.returns-clause-key
returns-clause-key c =
    key_found c.args.mapping.now c.args.joins.now c.args.side c.args.segment.now c.args.place c.args.roots.now c.args.doc c.root_at.result c.kept_key.result c.requires.roots
    (root_set c.args.segment.now c.docs-documents.ensures.agree c.scopes_are_of_documents.ensures.sets) (sym c.has.ensures ∙ c.if-not-has.false) c.root_at.ensures.root c.root_at.ensures.within (c.kept_key.ensures c.args.segment.now c.requires.relations)

pub returns-clause-within : goal.returns-clause-within
returns-clause-within c = λ count have.
    subst (λ (key : Option ℕ). IfSome key (λ k. k < count)) (sym (c.kept_key.ensures c.args.segment.now c.requires.relations))
    (key_within c.args.mapping.now c.args.joins.now c.args.side c.args.segment.now c.args.place c.root_at.result count have)
