use Rattle.std.proofs.Common.{◌≡◌, ℕ, Some, map, is_some, subst, sym, arith}
use Rattle.block_join.specs.Scores.{filled}
use Rattle.search_page.specs.Hits.{AreShared}
use Rattle.search_page.proofs.Front.{dropped_all, shared_step}
use Rattle.search_page.proofs.first.have_score.Goals as goal

pub entries-preserved : goal.entries-preserved
entries-preserved c = λ rest.
    let found = c.args.found.now in
    let scores = c.index-found-at.result in
    let own : scores ≡ filled (Some c.args.score) (map is_some scores) =
    subst (λ (s : ℕ). scores ≡ filled (Some s) (map is_some scores)) (omega (arith, c.if-own-score.false)) c.in-Some.ensures.alike in
    c.entries.invariant (shared_step c.args.score c.entries.at found scores c.entries-test.true c.index-found-at.is own rest)

pub returns : goal.returns
returns c = λ yes. c.entries.invariant (subst (AreShared c.args.score) (sym (dropped_all c.entries.at c.args.found.now c.entries-test.false)) tt)
