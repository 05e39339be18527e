use Rattle.std.proofs.Common.{sym, arith, length, ◌<◌, ◌≡◌, ◌++◌, ℕ, List, drop, ◌+◌, subst}
use Rattle.std.specs.List.{flat_map}
use Rattle.doc_values.specs.Text.{entry_text}
use Rattle.segment_merge.specs.Pieces.{written_rows}
use Rattle.segment_merge.proofs.Pieced.{doc_below, rows_dead, rows_live}
use Rattle.segment_merge.proofs.pieces.put_rows.Goals as goal
use Rattle.segment_merge.proofs.pieces.put_rows.Goals.{in-Some+in_ok-put_row, in_default}

pub number-requires : goal.number-requires
number-requires g c =
    let below : c.rows.row < length c.args.column.now = omega (arith, c.rows-test.true, c.rows-row-end.ensures.count) in
    doc_below c.args.part.now.entry.columns.documents c.args.column.now c.rows.row c.doc.result c.requires below c.doc.ensures

pub rows-preserved : goal.rows-preserved
rows-preserved g c =
    let below : c.rows.row < length c.args.column.now = omega (arith, c.rows-test.true, c.rows-row-end.ensures.count) in
    let text : ℕ × List g.row.T.Denot → List ℕ = entry_text g.T.ColumnValue.text in
    let renew : g.row.T.Denot → g.row.T.Denot = g.T.MergedValue.renewed c.args.ordinals.now in
    let all : List ℕ = c.args.into.now.items ++ flat_map text (written_rows renew c.args.part.now c.args.column.now) in
    elim c.match-number.branch [
      | in-Some+in_ok-put_row w ↦
          subst (λ v. v.items ++ flat_map text (written_rows renew c.args.part.now (drop (c.rows.row + 1) c.args.column.now)) ≡ all) (sym w.into-is)
          (rows_live text renew c.args.part.now c.args.column.now c.rows.row c.doc.result w.in-Some.doc c.number.result w.row_values.result c.rows.into.items w.put_row.new.into.items all w.row_values.ensures c.doc.ensures c.number.ensures w.in-Some.is w.in_ok-put_row.ensures c.rows.invariant)
      | in_default w ↦
          subst (λ v. v.items ++ flat_map text (written_rows renew c.args.part.now (drop (c.rows.row + 1) c.args.column.now)) ≡ all) (sym w.into-is)
          (rows_dead text renew c.args.part.now c.args.column.now c.rows.row c.doc.result c.number.result c.rows.into.items all below c.doc.ensures c.number.ensures w.in_default.is c.rows.invariant)
    ]
