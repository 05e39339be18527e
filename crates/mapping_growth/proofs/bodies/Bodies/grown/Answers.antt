use Rattle.std.proofs.Common.{◌≡◌, ◌∙◌, ◌++◌, ◌∷◌, [], sym, ap, subst, None, true, false, List}
use Rattle.tree_json.specs.Value.{JsonValue}
use Rattle.tree_json.specs.View.{view}
use Rattle.mapping_growth.specs.Bodies.{AreBodies, adds, conflict_of, exceeded}
use Rattle.mapping_body.specs.Body.{is_body}
use Rattle.mapping_growth.proofs.Keeping.{bodies_more}
use Rattle.mapping_growth.proofs.bodies.Bodies.grown.Goals as goal

pub invariant_of-result : goal.invariant_of-result
invariant_of-result c =
    let form : is_body (view c.in_ok-next.next.body.now) ≡ true = sym c.has_form.ensures ∙ c.if-not-has_form.false in
    let agrees : conflict_of c.self.inside.said (view c.in_ok-next.next.body.now) ≡ None = sym c.in_ok-path.ensures ∙ c.in-None.is in
    let more : adds c.self.inside.said (view c.in_ok-next.next.body.now) ≡ true = sym c.in_ok-more.ensures ∙ c.if-not-more.false in
    let whole = c.in_ok-said.ensures.ok in
    subst (λ (bs : List JsonValue). AreBodies bs) (sym whole.0)
    (bodies_more c.self.inside.said (view c.in_ok-next.next.body.now) c.self.invariant form agrees more (ap exceeded (sym whole.0) ∙ whole.1))
