use Rattle.std.proofs.Common.{drop}
use Rattle.search_page.specs.Hits.{AreShared}
use Rattle.search_page.proofs.first.have_score.Given as goal

abbrev pub invariant-entries : goal.invariant-entries
invariant-entries l = AreShared l.score (drop l.at l.found) → AreShared l.score l.found
