use Rattle.std.proofs.Common.{ℕ, ◌<◌, ◌≤◌, List, Bool, length, sym, ap, subst, ◌∙◌}
use Rattle.block_bits.specs.Flags.{cleared, intersection}
use Rattle.leaf_search.proofs.Unions.{kept_scope, kept_none, read_scopes, scope_long}
use Rattle.leaf_search.proofs.scoped.keep_live.Goals as goal

pub and_both-requires-clause-one : goal.and_both-requires-clause-one
and_both-requires-clause-one c = c.requires.long ∙ sym c.requires.live.documents ∙ ap length (sym c.documents.ensures)

pub and_both-requires-clause-other : goal.and_both-requires-clause-other
and_both-requires-clause-other c =
    let same = c.as_slice-scopes.ensures ∙ c.scopes.ensures in
    let inside = subst (λ (l : List (List Bool)). c.args.scope < length l) same c.if-scope-scopes.true in
    c.requires.long
    ∙ sym (scope_long c.args.segment.now c.args.scope c.index-scopes-scope.result c.docs-documents.ensures.agree inside
    (read_scopes c.as_slice-scopes.result.now c.args.segment.now.scopes c.args.scope c.index-scopes-scope.result same c.index-scopes-scope.is))

pub returns-then-scope-scopes : goal.returns-then-scope-scopes
returns-then-scope-scopes c =
    let same = c.as_slice-scopes.ensures ∙ c.scopes.ensures in
    let inside = subst (λ (l : List (List Bool)). c.args.scope < length l) same c.if-scope-scopes.true in
    let own : List Bool = c.index-scopes-scope.result in
    c.and_both.ensures
    ∙ ap (λ (l : List Bool). intersection (intersection c.args.set.now l) own) c.documents.ensures
    ∙ kept_scope c.args.segment.now c.args.scope c.args.set.now c.args.live.now.docs own c.docs-documents.ensures.agree inside
    (read_scopes c.as_slice-scopes.result.now c.args.segment.now.scopes c.args.scope own same c.index-scopes-scope.is)
    c.scopes_are_of_documents.ensures.sets

pub returns-else-scope-scopes : goal.returns-else-scope-scopes
returns-else-scope-scopes c =
    let same = c.as_slice-scopes.ensures ∙ c.scopes.ensures in
    let past = subst (λ (l : List (List Bool)). length l ≤ c.args.scope) same c.if-scope-scopes.false in
    c.clear_range.ensures
    ∙ ap (λ (n : ℕ). cleared 0 n c.args.set.now) c.len-len.ensures
    ∙ kept_none c.args.segment.now c.args.scope c.args.set.now c.args.live.now.docs past c.scopes_are_of_documents.ensures.within c.requires.long c.requires.live.documents
