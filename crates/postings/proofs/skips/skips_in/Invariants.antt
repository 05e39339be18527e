use Rattle.std.proofs.Common.{All}
use Rattle.postings.specs.Skips.{IsSkip}
use Rattle.postings.proofs.Leaps.{IsWalk}
use Rattle.postings.proofs.skips.skips_in.Given as goal

abbrev pub invariant-entries : goal.invariant-entries
invariant-entries l = IsWalk l.text l.count l.at l.rest × All (IsSkip l.text) l.skips.items
