use Rattle.std.proofs.Common.{◌<◌, ◌≤◌, List, Bool, length, count_by, sym, ap, subst, ◌∙◌}
use Rattle.block_bits.specs.Flags.{intersection, is_marked}
use Rattle.leaf_search.proofs.Unions.{live_count_none, live_scope, read_scopes, scope_long}
use Rattle.leaf_search.proofs.scoped.live_count.Goals as goal

pub count_both-requires : goal.count_both-requires
count_both-requires c =
    let same = c.as_slice-scopes.ensures ∙ c.scopes.ensures in
    let inside = subst (λ (l : List (List Bool)). c.args.scope < length l) same c.if-scope-scopes.true in
    ap length c.documents.ensures ∙ c.requires.documents
    ∙ sym (scope_long c.args.segment.now c.args.scope c.index-scopes-scope.result c.docs-documents.ensures.agree inside
    (read_scopes c.as_slice-scopes.result.now c.args.segment.now.scopes c.args.scope c.index-scopes-scope.result same c.index-scopes-scope.is))

pub returns-then-scope-scopes : goal.returns-then-scope-scopes
returns-then-scope-scopes c =
    let same = c.as_slice-scopes.ensures ∙ c.scopes.ensures in
    let inside = subst (λ (l : List (List Bool)). c.args.scope < length l) same c.if-scope-scopes.true in
    let own : List Bool = c.index-scopes-scope.result in
    c.count_both.ensures
    ∙ ap (λ (l : List Bool). count_by is_marked (intersection l own)) c.documents.ensures
    ∙ ap (λ (l : List Bool). count_by is_marked l)
    (live_scope c.args.segment.now c.args.scope c.args.live.now.docs own c.docs-documents.ensures.agree inside
    (read_scopes c.as_slice-scopes.result.now c.args.segment.now.scopes c.args.scope own same c.index-scopes-scope.is)
    c.scopes_are_of_documents.ensures.sets c.requires.documents)

pub returns-else-scope-scopes : goal.returns-else-scope-scopes
returns-else-scope-scopes c =
    let same = c.as_slice-scopes.ensures ∙ c.scopes.ensures in
    let past = subst (λ (l : List (List Bool)). length l ≤ c.args.scope) same c.if-scope-scopes.false in
    live_count_none c.args.segment.now c.args.scope c.args.live.now.docs past c.scopes_are_of_documents.ensures.within c.requires.documents
