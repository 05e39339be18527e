use Rattle.std.proofs.Common.{ℕ, ◌<◌, ◌≤◌, List, Bool, false, length, replicate, sym, ap, subst, ◌∙◌}
use Rattle.block_bits.specs.Flags.{intersection}
use Rattle.leaf_search.proofs.Unions.{live_none, live_scope, read_scopes, scope_long}
use Rattle.leaf_search.proofs.scoped.live_set.Goals as goal

pub both-requires : goal.both-requires
both-requires c =
    let same = c.as_slice-scopes.ensures ∙ c.scopes.ensures in
    let inside = subst (λ (l : List (List Bool)). c.args.scope < length l) same c.if-scope-scopes.true in
    ap length c.documents.ensures ∙ c.requires.documents
    ∙ sym (scope_long c.args.segment.now c.args.scope c.index-scopes-scope.result c.docs-documents.ensures.agree inside
    (read_scopes c.as_slice-scopes.result.now c.args.segment.now.scopes c.args.scope c.index-scopes-scope.result same c.index-scopes-scope.is))

pub returns-in_ok-both : goal.returns-in_ok-both
returns-in_ok-both c =
    let same = c.as_slice-scopes.ensures ∙ c.scopes.ensures in
    let inside = subst (λ (l : List (List Bool)). c.args.scope < length l) same c.if-scope-scopes.true in
    let own : List Bool = c.index-scopes-scope.result in
    c.in_ok-both.ensures
    ∙ ap (λ (l : List Bool). intersection l own) c.documents.ensures
    ∙ live_scope c.args.segment.now c.args.scope c.args.live.now.docs own c.docs-documents.ensures.agree inside
    (read_scopes c.as_slice-scopes.result.now c.args.segment.now.scopes c.args.scope own same c.index-scopes-scope.is)
    c.scopes_are_of_documents.ensures.sets c.requires.documents

pub returns-in_ok-empty : goal.returns-in_ok-empty
returns-in_ok-empty c =
    let same = c.as_slice-scopes.ensures ∙ c.scopes.ensures in
    let past = subst (λ (l : List (List Bool)). length l ≤ c.args.scope) same c.if-scope-scopes.false in
    c.in_ok-empty.ensures
    ∙ ap (λ (k : ℕ). replicate k false) c.docs-documents.ensures.documents
    ∙ live_none c.args.segment.now c.args.scope c.args.live.now.docs past c.scopes_are_of_documents.ensures.within c.requires.documents
