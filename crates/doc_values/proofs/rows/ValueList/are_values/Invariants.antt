use Rattle.std.proofs.Common.{◌≡◌, ℕ, ◌+◌, ◌<◌, get_or, false}
use Rattle.std.specs.Ordering.{is_lt}
use Rattle.doc_values.proofs.rows.ValueList.are_values.Given as goal

abbrev pub invariant-values : goal.invariant-values
invariant-values g l =
    ((k : ℕ) (d : g.row.T.Denot) → k + 1 < l.at → is_lt (g.T.Ord.cmp (get_or l.values (k + 1) d) (get_or l.values k d)) ≡ false)
    × ((k : ℕ) (d : g.row.T.Denot) → k < l.at → g.T.ColumnValue.Fits (get_or l.values k d))
