use Rattle.std.proofs.Common.{◌<◌, List, Bool, [], length, ap, ◌∙◌, arith}
use Rattle.nested_sort.proofs.Scopes.{none_is, set_at}
use Rattle.inner_hits.proofs.walk.scope_docs.Goals as goal

pub returns-then-place-scopes-clause-none : goal.returns-then-place-scopes-clause-none
returns-then-place-scopes-clause-none c =
    none_is c.args.segment.now c.args.scope (omega (arith, c.if-place-scopes.true, ap (λ (l : List (List Bool)). length l) c.as_slice-scopes.ensures, ap (λ (l : List (List Bool)). length l) c.scopes.ensures)) c.scopes_are_of_documents.ensures.within

pub returns-clause-some : goal.returns-clause-some
returns-clause-some c =
    let below : c.args.scope < length c.args.segment.now.scopes =
    omega (arith, c.if-place-scopes.false, ap (λ (l : List (List Bool)). length l) c.as_slice-scopes.ensures, ap (λ (l : List (List Bool)). length l) c.scopes.ensures) in
    set_at c.args.segment.now c.args.scope c.as_slice-scopes.result.now c.index-scopes-place.result below (c.as_slice-scopes.ensures ∙ c.scopes.ensures) c.index-scopes-place.is
    (c.docs-documents.ensures.agree.parts.head.long c.args.scope [] below) (λ doc inside. c.scopes_are_of_documents.ensures.sets c.args.scope doc below inside)
