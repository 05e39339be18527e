use Rattle.std.proofs.Common.{◌≤◌, length, subst, arith}
use Rattle.store_opening.specs.Blocks.{IsKnownEntry}
use Rattle.store_opening.proofs.Each.{all_more, all_end}
use Rattle.store_opening.proofs.blocks.entries_are_known.Goals as goal

pub entries-preserved : goal.entries-preserved
entries-preserved c =
    all_more IsKnownEntry c.args.entries.now c.entries.entry-index c.entry-item.result c.entries-test.true c.entries.invariant
    (subst IsKnownEntry c.entry-item.is c.entry_is_known.ensures)

pub returns : goal.returns
returns c = all_end IsKnownEntry c.args.entries.now c.entries.entry-index (omega (arith, c.entries-test.false)) c.entries.invariant
