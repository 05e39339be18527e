use Rattle.std.proofs.Common.{ap, arith, length, map}
use Rattle.join_ordinals.specs.Rows.{renumbered}
use Rattle.join_ordinals.proofs.Renumbering.{rows_step}
use Rattle.join_ordinals.proofs.rows.renumber.Goals as goal

pub rows-preserved : goal.rows-preserved
rows-preserved c =
    rows_step (map (renumbered c.args.numbers.now)) c.args.rows.now.items c.rows.row-items c.rows.row-index c.row-item.result c.renumber_row.new.row c.rows.invariant
    (omega (arith, c.rows-test.true, ap length c.deref_mut-row-items.ensures.value)) c.renumber_row.ensures
