use Rattle.std.proofs.Common.{◌≡◌, ℕ, ◌<◌, ◌≤◌, Bool, false, List, [], length, get_or, ap, subst, ◌∙◌}
use Rattle.std.proofs.lemmas.List.{get_or_read}
use Rattle.segment.specs.Lists.{postings_of}
use Rattle.leaf_search.specs.Words.{lists_at, phrase_posted}
use Rattle.leaf_search.proofs.Selecting.{made_nowhere, made_selected}
use Rattle.leaf_search.proofs.Unions.{scope_long}
use Rattle.leaf_search.proofs.long_phrase.long_phrase_set.Goals as goal

pub returns-then-scope-scopes : goal.returns-then-scope-scopes
returns-then-scope-scopes c =
    made_nowhere c.args.segment.now c.args.live.now c.args.scope (phrase_posted (lists_at (postings_of c.args.segment.now) c.args.ordinals.now)) c.docs.result c.in_ok-empty.field-0 c.requires.live
    (subst (λ (l : List (List Bool)). length l ≤ c.args.scope) (c.as_slice-scopes.ensures ∙ c.scopes.ensures) c.if-scope-scopes.true) c.scopes_are_of_documents.ensures.within c.docs.ensures.documents c.in_ok-empty.ensures

pub with_phrase-requires-clause-live : goal.with_phrase-requires-clause-live
with_phrase-requires-clause-live c = ap length c.documents.ensures ∙ c.requires.live.documents

-- the sets of the scopes, as they are read
read_scopes : (sets scopes : List (List Bool)) (n : ℕ) (own : List Bool) → sets ≡ scopes → own ≡ get_or sets n own → own ≡ get_or scopes n own
read_scopes sets scopes n own same is = is ∙ ap (λ (l : List (List Bool)). get_or l n own) same

pub with_phrase-requires-clause-scope : goal.with_phrase-requires-clause-scope
with_phrase-requires-clause-scope c =
    let same = c.as_slice-scopes.ensures ∙ c.scopes.ensures in
    let inside = subst (λ (l : List (List Bool)). c.args.scope < length l) same c.if-scope-scopes.false in
    scope_long c.args.segment.now c.args.scope c.index-scopes-scope.result c.docs-documents.ensures.agree inside (read_scopes c.as_slice-scopes.result.now c.args.segment.now.scopes c.args.scope c.index-scopes-scope.result same c.index-scopes-scope.is)

pub returns : goal.returns
returns c =
    let same = c.as_slice-scopes.ensures ∙ c.scopes.ensures in
    let own : List Bool = c.index-scopes-scope.result in
    let inside = subst (λ (l : List (List Bool)). c.args.scope < length l) same c.if-scope-scopes.false in
    let there = get_or_read c.args.segment.now.scopes c.args.scope own inside (read_scopes c.as_slice-scopes.result.now c.args.segment.now.scopes c.args.scope own same c.index-scopes-scope.is) [] in
    made_selected c.args.segment.now c.args.live.now c.args.scope (phrase_posted (lists_at (postings_of c.args.segment.now) c.args.ordinals.now)) c.documents.result.now own c.in_ok-with_phrase.field-0 c.requires.live c.documents.ensures
    (λ doc below. ap (λ (l : List Bool). get_or l doc false) there ∙ c.scopes_are_of_documents.ensures.sets c.args.scope doc inside below) c.in_ok-with_phrase.ensures
