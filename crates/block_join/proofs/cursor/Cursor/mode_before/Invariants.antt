use Rattle.std.proofs.Common.{◌-◌}
use Rattle.block_join.proofs.Summing.{Summing}
use Rattle.block_join.proofs.cursor.Cursor.mode_before.Given as goal

abbrev pub invariant-scores : goal.invariant-scores
invariant-scores l = Summing l.fn.self l.self l.end l.total l.count l.least l.greatest

abbrev pub decreases-scores : goal.decreases-scores
decreases-scores l = l.end - l.self.from
