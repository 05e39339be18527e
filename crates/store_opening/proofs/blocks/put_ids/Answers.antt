use Rattle.std.proofs.Common.{◌<◌, length, arith, refl}
use Rattle.store_opening.proofs.Owned.{counting_on, counting_twice}
use Rattle.store_opening.proofs.blocks.put_ids.Goals as goal

pub returns-then-not-branch-clause-twice : goal.returns-then-not-branch-clause-twice
returns-then-not-branch-clause-twice c = λ refused new.
    counting_twice c.args.entry.now c.roots.root c.args.ids.now c.roots.ids c.entry_is_known.ensures (grind (arith, c.roots-test.true, c.roots-root-end.ensures.roots, c.segment.ensures))
    c.roots.invariant (grind (arith, c.in_ok-put_id.ensures.twice, c.if-not-branch.true)) new

pub roots-preserved : goal.roots-preserved
roots-preserved c =
    counting_on c.args.entry.now c.roots.root c.args.ids.now c.roots.ids c.put_id.new.ids c.entry_is_known.ensures
    (grind (arith, c.roots-test.true, c.roots-root-end.ensures.roots, c.segment.ensures)) c.roots.invariant (grind (arith, c.in_ok-put_id.ensures.all, c.if-not-branch.false))
