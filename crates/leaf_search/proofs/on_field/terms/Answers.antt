use Rattle.std.proofs.Common.{ℕ, Option, sym, subst}
use Rattle.query_ast.specs.Clause.{on_field, is_among}
use Rattle.leaf_search.specs.Found.{Finds}
use Rattle.leaf_search.proofs.Finding.{finds_unmapped_from, finds_among}
use Rattle.leaf_search.proofs.on_field.terms.Goals as goal

pub returns-in_ok-values_set-in-Some : goal.returns-in_ok-values_set-in-Some
returns-in_ok-values_set-in-Some c = λ m.
    subst (λ (field : Option ℕ). Finds m c.args.segment.now c.args.live.now c.args.scope (on_field field (is_among c.args.values.now)) c.in_ok-values_set-in-Some.field-0) (sym c.in-Some.is)
    (finds_among c.args.segment.now c.args.live.now c.args.scope c.requires.documents c.values_are_of_documents.ensures.fit m c.keys_are_ordered.ensures c.in-Some.field c.args.values.now c.in_ok-values_set-in-Some.field-0 c.in_ok-values_set-in-Some.ensures.fit c.in_ok-values_set-in-Some.ensures.made)

pub returns-in_ok-empty-in-None : goal.returns-in_ok-empty-in-None
returns-in_ok-empty-in-None c = λ m.
    finds_unmapped_from c.args.segment.now c.args.live.now c.args.scope c.requires.documents c.values_are_of_documents.ensures.fit m (is_among c.args.values.now) c.args.field c.docs.result c.in_ok-empty-in-None.field-0
    c.in-None.is c.docs.ensures.documents c.in_ok-empty-in-None.ensures
