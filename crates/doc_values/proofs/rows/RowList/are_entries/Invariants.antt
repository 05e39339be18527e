use Rattle.std.proofs.Common.{ℕ, ◌+◌, ◌<◌, List, get_or}
use Rattle.doc_values.specs.Values.{documents}
use Rattle.doc_values.specs.Stands.{IsRow}
use Rattle.doc_values.proofs.rows.RowList.are_entries.Given as goal

abbrev pub invariant-rows : goal.invariant-rows
invariant-rows g l =
    ((k : ℕ) → k + 1 < l.at → get_or (documents l.rows) k 0 < get_or (documents l.rows) (k + 1) 0)
    × ((k : ℕ) (d : ℕ × List g.row.T.Denot) → k < l.at → IsRow g.T.Ord.cmp g.T.ColumnValue.Fits (get_or l.rows k d))
