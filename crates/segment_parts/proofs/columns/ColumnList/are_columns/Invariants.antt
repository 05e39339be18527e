use Rattle.std.proofs.Common.{ℕ, ◌+◌, ◌<◌, get_or}
use Rattle.std.specs.List.{AllWithin}
use Rattle.doc_values.specs.Stands.{IsColumn}
use Rattle.segment_parts.specs.Fields.{fields}
use Rattle.segment_parts.proofs.columns.ColumnList.are_columns.Given as goal

abbrev pub invariant-columns : goal.invariant-columns
invariant-columns g l =
    ((k : ℕ) → k + 1 < l.at → get_or (fields l.columns) k 0 < get_or (fields l.columns) (k + 1) 0)
    × AllWithin (IsColumn g.T.Ord.cmp g.T.ColumnValue.Fits) l.columns 0 l.at
