use Rattle.std.proofs.Common.{arith}
use Rattle.block_join.proofs.Standing.{view_long}
use Rattle.block_join.proofs.cursor.Cursor.from.Goals as goal

pub returns-clause-within : goal.returns-clause-within
returns-clause-within c = omega (arith, c.self.invariant.within, view_long c.self.inside.walk.documents c.self.inside.form.now c.self.inside.from c.args.self.now c.self.view_is)
