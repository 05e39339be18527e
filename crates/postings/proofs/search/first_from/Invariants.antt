use Rattle.std.proofs.Common.{◌<◌, ◌≤◌, ◌-◌}
use Rattle.postings.specs.Search.{document_at, AreBelow}
use Rattle.postings.proofs.search.first_from.Given as goal

abbrev pub invariant-halves : goal.invariant-halves
invariant-halves l =
    (l.low ≤ l.first) × (l.first ≤ l.end) × (l.end ≤ l.high) × AreBelow l.entries l.low l.first l.to × (l.end < l.count → l.to ≤ document_at l.entries l.end)

abbrev pub decreases-halves : goal.decreases-halves
decreases-halves l = l.end - l.first
