use Rattle.std.proofs.Common.{◌≡◌, ◌++◌, drop}
use Rattle.std.specs.List.{flat_map}
use Rattle.doc_values.specs.Text.{entry_text}
use Rattle.segment_merge.specs.Pieces.{written_rows}
use Rattle.segment_merge.proofs.pieces.put_rows.Given as goal

abbrev pub invariant-rows : goal.invariant-rows
invariant-rows g l =
    l.into.items ++ flat_map (entry_text g.T.ColumnValue.text) (written_rows (g.T.MergedValue.renewed l.ordinals) l.part (drop l.row l.column))
    ≡ l.fn.into.items ++ flat_map (entry_text g.T.ColumnValue.text) (written_rows (g.T.MergedValue.renewed l.ordinals) l.part l.column)
