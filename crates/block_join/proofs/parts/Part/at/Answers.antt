use Rattle.std.proofs.Common.{sym, ◌∙◌}
use Rattle.block_join.proofs.Totals.{filled_off, filled_on}
use Rattle.block_join.proofs.parts.Part.at.Goals as goal

pub returns-then-has-clause-value : goal.returns-then-has-clause-value
returns-then-has-clause-value c = filled_on c.args.self.now.score c.args.self.now.set c.args.doc (sym c.has.ensures ∙ c.if-has.true)

pub returns-else-has-clause-value : goal.returns-else-has-clause-value
returns-else-has-clause-value c = filled_off c.args.self.now.score c.args.self.now.set c.args.doc (sym c.has.ensures ∙ c.if-has.false)
