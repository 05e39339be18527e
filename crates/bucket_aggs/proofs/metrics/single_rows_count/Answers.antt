use Rattle.std.proofs.Common.{◌≡◌, ◌<◌, ◌∷◌, [], ℕ, Bool, false, true, cond, length, get_or, sym, ap, ◌∙◌, arith}
use Rattle.doc_values.specs.Values.{values_of}
use Rattle.segment_parts.specs.Text.{marked_places}
use Rattle.bucket_aggs.proofs.Told.{document_below, flat_length, rows_told, told_end, told_one}
use Rattle.bucket_aggs.proofs.metrics.single_rows_count.Goals.{then-has, else-has}
use Rattle.bucket_aggs.proofs.metrics.single_rows_count.Goals as goal

pub has-requires : goal.has-requires
has-requires g c =
    let low : c.rows.at < length c.args.rows.now = omega (arith, c.rows-test.true, c.len-at-end.ensures) in
    document_below c.args.rows.now c.rows.at c.row.result.0 (length c.args.set.now) (c.row.result.1 ∷ []) low c.row.ensures c.requires.within

pub rows-preserved : goal.rows-preserved
rows-preserved g c =
    let low : c.rows.at < length c.args.rows.now = omega (arith, c.rows-test.true, c.len-at-end.ensures) in
    let step = told_one c.args.set.now c.args.rows.now c.rows.at c.row.result.0 c.row.result.1 low c.row.ensures in
    elim c.if-has.branch [
      | then-has w ↦
          let held : get_or c.args.set.now c.row.result.0 false ≡ true = sym c.has.ensures ∙ w.if-has.true in
          (omega (arith, c.rows.invariant.0, w.count-is), omega (arith, c.rows.invariant.1, step, ap (λ (b : Bool). cond {A = ℕ} b 1 0) held, w.count-is))
      | else-has w ↦
          let failed : get_or c.args.set.now c.row.result.0 false ≡ false = sym c.has.ensures ∙ w.if-has.false in
          (omega (arith, c.rows.invariant.0, w.count-is), omega (arith, c.rows.invariant.1, step, ap (λ (b : Bool). cond {A = ℕ} b 1 0) failed, w.count-is))
    ]

pub returns : goal.returns
returns g c =
    let rows = c.args.rows.now in
    omega (
      arith,
      c.rows.invariant.1,
      ap length (told_end c.args.set.now rows c.rows.at (omega (arith, c.rows-test.false, c.len-at-end.ensures))),
      ap length (rows_told c.args.set.now rows c.requires.ascending),
      flat_length (λ doc. values_of doc rows) (marked_places 0 c.args.set.now),
    )
