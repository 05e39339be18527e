use Rattle.std.proofs.Common.{ℕ, Option, refl, sym, subst, ◌∙◌}
use Rattle.query_ast.specs.Clause.{on_field, exists}
use Rattle.leaf_search.specs.Found.{Finds}
use Rattle.leaf_search.specs.declared.roots.RootTest.TheVariants.{IsJoined}
use Rattle.leaf_search.proofs.Finding.{known_is, finds_unknown, finds_joined, finds_part, finds_value}
use Rattle.leaf_search.proofs.on_kind.existing.Goals as goal

pub returns-in_default : goal.returns-in_default
returns-in_default c =
    finds_unknown c.args.segment.now c.args.live.now c.args.scope c.requires.documents c.values_are_of_documents.ensures.fit c.args.mapping.now exists c.args.field c.docs.result c.in_ok-empty.field-0 (sym c.in_default.is ∙ c.known.ensures) c.docs.ensures.documents c.in_ok-empty.ensures

pub returns-in_ok-root_set-in-Join : goal.returns-in_ok-root_set-in-Join
returns-in_ok-root_set-in-Join c =
    subst (λ (field : Option ℕ). Finds c.args.mapping.now c.args.segment.now c.args.live.now c.args.scope (on_field field (exists)) c.in_ok-root_set-in-Join.field-0) (sym (known_is c.args.mapping.now c.args.field c.in-Some.own (sym c.known.ensures ∙ c.in-Some.is)))
    (finds_joined c.args.segment.now c.args.live.now c.args.scope c.requires.documents c.values_are_of_documents.ensures.fit c.args.mapping.now c.objects_nest.ensures.at_root IsJoined c.in-Some.own c.in_ok-root_set-in-Join.field-0 (sym c.kind.ensures ∙ c.in-Join.is) (λ r. refl) c.in_ok-root_set-in-Join.ensures)

pub returns-in_ok-parts_set-in-Object : goal.returns-in_ok-parts_set-in-Object
returns-in_ok-parts_set-in-Object c =
    subst (λ (field : Option ℕ). Finds c.args.mapping.now c.args.segment.now c.args.live.now c.args.scope (on_field field (exists)) c.in_ok-parts_set-in-Object.field-0) (sym (known_is c.args.mapping.now c.args.field c.in-Some.own (sym c.known.ensures ∙ c.in-Some.is)))
    (finds_part c.args.segment.now c.args.live.now c.args.scope c.requires.documents c.values_are_of_documents.ensures.fit c.args.mapping.now c.in-Some.own c.in_ok-parts_set-in-Object.field-0 (sym c.kind.ensures ∙ c.in-Object.is) c.in_ok-parts_set-in-Object.ensures)

pub returns-in_ok-shown_set-in_default-kind : goal.returns-in_ok-shown_set-in_default-kind
returns-in_ok-shown_set-in_default-kind c =
    subst (λ (field : Option ℕ). Finds c.args.mapping.now c.args.segment.now c.args.live.now c.args.scope (on_field field (exists)) c.in_ok-shown_set-in_default-kind.field-0) (sym (known_is c.args.mapping.now c.args.field c.in-Some.own (sym c.known.ensures ∙ c.in-Some.is)))
    (finds_value c.args.segment.now c.args.live.now c.args.scope c.requires.documents c.values_are_of_documents.ensures.fit c.args.mapping.now c.in-Some.own c.in_ok-shown_set-in_default-kind.field-0 (λ e. c.in_default-kind.not-Object (c.kind.ensures ∙ e)) (λ e. c.in_default-kind.not-Join (c.kind.ensures ∙ e)) c.in_ok-shown_set-in_default-kind.ensures)
