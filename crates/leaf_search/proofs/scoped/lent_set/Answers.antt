use Rattle.std.proofs.Common.{◌≡◌, ◌<◌, List, Bool, length, count_by, sym, ap, subst, ◌∙◌, arith}
use Rattle.block_bits.specs.Flags.{intersection, is_marked}
use Rattle.leaf_search.proofs.Lent.{all_meet}
use Rattle.leaf_search.proofs.Unions.{live_scope, read_scopes, scope_long}
use Rattle.leaf_search.proofs.scoped.lent_set.Goals as goal

pub returns : goal.returns
returns c =
    let columns = c.args.segment.now in
    let lives = c.args.live.now.docs in
    let own : List Bool = c.index-scopes-scope.result in
    let same = c.as_slice-scopes.ensures ∙ c.scopes.ensures in
    let inside = subst (λ (l : List (List Bool)). c.args.scope < length l) same c.if-scope-scopes.false in
    let read = read_scopes c.as_slice-scopes.result.now columns.scopes c.args.scope own same c.index-scopes-scope.is in
    let long : length lives ≡ length own = c.requires.documents ∙ sym (scope_long columns c.args.scope own c.docs-documents.ensures.agree inside read) in
    let counted = ap (λ (l : List Bool). count_by is_marked (intersection l own)) c.documents.ensures in
    sym (all_meet lives own long (omega (arith, c.if-count_both-count.false, c.count.ensures, c.count_both.ensures, counted)))
    ∙ live_scope columns c.args.scope lives own c.docs-documents.ensures.agree inside read c.scopes_are_of_documents.ensures.sets c.requires.documents
