use Rattle.std.proofs.Common.{◌<◌, length, ap, arith}
use Rattle.doc_values.specs.Values.{values_of}
use Rattle.segment_parts.specs.Text.{marked_places}
use Rattle.bucket_aggs.proofs.Told.{flat_length, rows_told, told_count, told_end, values_at}
use Rattle.bucket_aggs.proofs.metrics.rows_count.Goals as goal

pub rows-preserved : goal.rows-preserved
rows-preserved g c =
    let low : c.rows.row < length c.args.column.now = omega (arith, c.rows-test.true, c.rows-row-end.ensures.count) in
    let own = values_at c.args.column.now c.rows.row low in
    omega (arith, c.rows.invariant, c.in-Some.ensures.1, c.from.ensures, c.row_count.ensures own.0 own.1, told_count c.args.set.now c.args.column.now c.rows.row own.0 low own.1)

pub returns : goal.returns
returns g c =
    omega (
      arith,
      c.rows.invariant,
      ap length (told_end c.args.set.now c.args.column.now c.rows.row (omega (arith, c.rows-test.false, c.rows-row-end.ensures.count))),
      ap length (rows_told c.args.set.now c.args.column.now c.rows-row-end.ensures.ascending),
      flat_length (λ doc. values_of doc c.args.column.now) (marked_places 0 c.args.set.now),
    )
