use Rattle.std.proofs.Common.{◌-◌, Some, length, map}
use Rattle.reply_text.specs.Next.{ArePassed}
use Rattle.reply_text.proofs.order.passed.Given as goal

abbrev pub invariant-names : goal.invariant-names
invariant-names g l = ArePassed (Some l.last) (map g.T.Named.entry l.list) l.from → ArePassed (Some l.last) (map g.T.Named.entry l.list) l.at

abbrev pub decreases-names : goal.decreases-names
decreases-names g l = length l.list - l.at
