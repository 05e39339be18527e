use Rattle.std.proofs.Common.{◌≡◌, ℕ, ◌+◌, ◌-◌, ◌<◌, List, [], ◌∷◌, ◌++◌, length, map, drop, get_or, refl, sym, ◌∙◌, ap, append_assoc, arith}
use Rattle.std.proofs.lemmas.List.{drop_more}
use Rattle.tree_json.specs.Text.{compact}
use Rattle.tree_json.specs.Value.{JsonValue, null}
use Rattle.commit_store.proofs.plan.body_texts.Goals as goal

pub bodies-preserved : goal.bodies-preserved
bodies-preserved c =
    let bodies : List JsonValue = c.args.mapping.now.bodies in
    let at : ℕ = c.bodies.generation in
    let less : c.bodies.generation < length c.args.mapping.now.bodies = omega (arith, c.bodies-test.true, c.generation-generation-end.ensures.generation) in
    let here : at + 1 - 1 ≡ at = omega arith in
    let text : c.in_ok-body_text.field-0 ≡ compact (get_or bodies at null)
    = c.in_ok-body_text.ensures ∙ ap compact (c.body.ensures ∙ ap (λ (n : ℕ). get_or bodies n null) here) in
    ap (λ (texts : List (List ℕ)). texts ++ map compact (drop (at + 1) bodies)) c.in_ok-push.ensures.items
    ∙ append_assoc c.bodies.texts.items (c.in_ok-body_text.field-0 ∷ []) (map compact (drop (at + 1) bodies))
    ∙ ap (λ (it : List ℕ). c.bodies.texts.items ++ (it ∷ map compact (drop (at + 1) bodies))) text
    ∙ ap (λ (rest : List JsonValue). c.bodies.texts.items ++ map compact rest) (sym (drop_more bodies at null less))
    ∙ c.bodies.invariant
