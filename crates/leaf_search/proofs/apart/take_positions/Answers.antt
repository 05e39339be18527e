use Rattle.std.proofs.Common.{arith}
use Rattle.postings.specs.Postings.{present_positions}
use Rattle.leaf_search.proofs.Taking.{taking_all, taking_free}
use Rattle.leaf_search.proofs.apart.take_positions.Goals as goal

pub returns-clause-free : goal.returns-clause-free
returns-clause-free c = λ _.
    taking_free (present_positions c.args.cursor.now) c.positions.i c.args.taken.now c.positions.taken c.positions.invariant (omega (arith, c.positions-test.false, c.positions-i-end.ensures))

pub returns-clause-taken : goal.returns-clause-taken
returns-clause-taken c = λ _.
    taking_all (present_positions c.args.cursor.now) c.positions.i c.args.taken.now c.positions.taken c.positions.invariant (omega (arith, c.positions-test.false, c.positions-i-end.ensures))
