use Rattle.std.proofs.Common.{Some}
use Rattle.store_opening.proofs.Shows.{shown_commit}
use Rattle.store_opening.proofs.opening.inspected.Goals as goal

pub returns-in-Commit-clause-inspects : goal.returns-in-Commit-clause-inspects
returns-in-Commit-clause-inspects g c = λ file known.
    let shows = shown_commit c.args.limit file c.in_ok-read_store.field-0 c.in-Commit.found c.in-Commit.is (c.in_ok-read_store.ensures.shows file known) in
    record { found = Some shows.commit; there = shows.finds; is = c.told_by.ensures.inspected c.args.limit file shows }
