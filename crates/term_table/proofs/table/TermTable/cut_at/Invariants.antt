use Rattle.std.proofs.Common.{◌-◌}
use Rattle.term_table.proofs.Orders.{Searched}
use Rattle.term_table.proofs.table.TermTable.cut_at.Given as goal

abbrev pub invariant-search : goal.invariant-search
invariant-search l = Searched l.self l.field l.cut l.low l.high

abbrev pub decreases-search : goal.decreases-search
decreases-search l = l.high - l.low
