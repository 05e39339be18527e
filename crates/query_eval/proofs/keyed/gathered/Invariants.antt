use Rattle.query_eval.specs.Keyed.{AreKeyedTo}
use Rattle.query_eval.proofs.keyed.gathered.Given as goal

abbrev pub invariant-entries : goal.invariant-entries
invariant-entries l = AreKeyedTo l.mapping l.joins l.side l.entries l.place l.roots.items
