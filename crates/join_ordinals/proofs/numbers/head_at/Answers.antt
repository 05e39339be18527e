use Rattle.std.proofs.Common.{arith}
use Rattle.join_ordinals.proofs.Grouping.{head_new, head_same, ids_alike, ids_differ}
use Rattle.join_ordinals.proofs.numbers.head_at.Goals as goal

pub returns-then-is_same : goal.returns-then-is_same
returns-then-is_same c =
    head_same c.args.met.now c.args.at c.args.head c.requires.within.0 c.requires.head
    (ids_alike c.args.met.now c.args.head c.args.at c.is_same.result (omega (arith, c.requires.within.0, c.requires.within.1)) c.requires.within.1 c.is_same.ensures c.if-is_same.true)

pub returns-else-is_same : goal.returns-else-is_same
returns-else-is_same c =
    head_new c.args.met.now c.args.at c.args.head c.requires.grouped c.requires.within.1 c.requires.head
    (ids_differ c.args.met.now c.args.head c.args.at c.is_same.result (omega (arith, c.requires.within.0, c.requires.within.1)) c.requires.within.1 c.is_same.ensures c.if-is_same.false)
