use Rattle.std.proofs.Common.{length}
use Rattle.search_walk.proofs.after.+clauses_take.Given as goal

abbrev pub decreases-clauses_take : goal.decreases-clauses_take
decreases-clauses_take l = length l.clauses.now
