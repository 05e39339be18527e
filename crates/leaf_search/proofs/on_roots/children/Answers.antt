use Rattle.std.proofs.Common.{ℕ, Option, refl, sym, subst}
use Rattle.query_ast.specs.Clause.{parent_id}
use Rattle.leaf_search.specs.Found.{Finds}
use Rattle.leaf_search.specs.declared.roots.RootTest.TheVariants.{IsChild}
use Rattle.leaf_search.proofs.Finding.{finds_children, finds_no_children}
use Rattle.leaf_search.proofs.on_roots.children.Goals as goal

pub returns-in_ok-root_set-in-Some : goal.returns-in_ok-root_set-in-Some
returns-in_ok-root_set-in-Some c = λ m.
    subst (λ (child : Option ℕ). Finds m c.args.segment.now c.args.live.now c.args.scope (parent_id child c.args.id.now) c.in_ok-root_set-in-Some.field-0) (sym c.in-Some.is)
    (finds_children c.args.segment.now c.args.live.now c.args.scope c.requires.documents c.values_are_of_documents.ensures.fit m c.objects_nest.ensures.at_root (IsChild c.in-Some.relation c.args.id) c.in-Some.relation c.args.id.now c.in_ok-root_set-in-Some.field-0 (λ r. refl) c.in_ok-root_set-in-Some.ensures)

pub returns-in_ok-empty-in-None : goal.returns-in_ok-empty-in-None
returns-in_ok-empty-in-None c = λ m.
    finds_no_children c.args.segment.now c.args.live.now c.args.scope c.requires.documents c.values_are_of_documents.ensures.fit m c.args.child c.args.id.now c.docs.result c.in_ok-empty-in-None.field-0 c.in-None.is c.docs.ensures.documents c.in_ok-empty-in-None.ensures
