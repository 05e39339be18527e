use Rattle.std.proofs.Common.{◌<◌, Bool, List, [], length, refl, ap, ◌∙◌, arith}
use Rattle.query_eval.proofs.Scopes.{set_at}
use Rattle.query_eval.proofs.nests.lent_set.Goals as goal

pub returns-clause-set : goal.returns-clause-set
returns-clause-set c =
    let below : c.args.scope < length c.args.segment.now.scopes =
    omega (arith, c.if-place-scopes.false, ap (λ (l : List (List Bool)). length l) c.as_slice-scopes.ensures, ap (λ (l : List (List Bool)). length l) c.scopes.ensures) in
    set_at c.args.segment.now c.args.scope c.as_slice-scopes.result.now c.index-scopes-place.result c.index-scopes-place.result below (c.as_slice-scopes.ensures ∙ c.scopes.ensures) c.index-scopes-place.is refl
    (c.docs-documents.ensures.agree.parts.head.long c.args.scope [] below) (λ doc inside. c.scopes_are_of_documents.ensures.sets c.args.scope doc below inside)
