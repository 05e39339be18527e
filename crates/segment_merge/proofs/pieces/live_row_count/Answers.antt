use Rattle.std.proofs.Common.{arith, length, ◌<◌}
use Rattle.segment_merge.proofs.Pieced.{count_dead, count_live, doc_below}
use Rattle.segment_merge.proofs.pieces.live_row_count.Goals as goal
use Rattle.segment_merge.proofs.pieces.live_row_count.Goals.{then-is_some, else-is_some}

pub number-requires : goal.number-requires
number-requires g c =
    let below : c.rows.row < length c.args.column.now = omega (arith, c.rows-test.true, c.rows-row-end.ensures.count) in
    doc_below c.args.part.now.entry.columns.documents c.args.column.now c.rows.row c.doc.result c.requires below c.doc.ensures

pub rows-preserved : goal.rows-preserved
rows-preserved g c =
    let below : c.rows.row < length c.args.column.now = omega (arith, c.rows-test.true, c.rows-row-end.ensures.count) in
    elim c.if-is_some.branch [
      | then-is_some w ↦ (omega (arith, w.count-is, c.rows.invariant, count_live c.args.part.now c.args.column.now c.rows.row c.doc.result c.number.result c.is_some.result below c.doc.ensures c.number.ensures c.is_some.ensures w.if-is_some.true), omega (arith, w.count-is, c.rows.invariant))
      | else-is_some w ↦ (omega (arith, w.count-is, c.rows.invariant, count_dead c.args.part.now c.args.column.now c.rows.row c.doc.result c.number.result c.is_some.result below c.doc.ensures c.number.ensures c.is_some.ensures w.if-is_some.false), omega (arith, w.count-is, c.rows.invariant))
    ]
