use Rattle.std.proofs.Common.{◌≡◌, ◌+◌, drop}
use Rattle.query_eval.specs.Counted.{up_total}
use Rattle.query_eval.proofs.counts.up_count.Given as goal

abbrev pub invariant-entries : goal.invariant-entries
invariant-entries l = l.count + up_total l.to (drop l.at l.entries) (drop l.at l.fn.hits) ≡ up_total l.to l.entries l.fn.hits
