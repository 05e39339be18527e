use Rattle.std.proofs.Common.{◌≡◌, length, drop}
use Rattle.segment_parts.specs.Kept.{AreTaking}
use Rattle.segment_parts.proofs.values.columns_at.Given as goal

abbrev pub invariant-columns : goal.invariant-columns
invariant-columns g l =
    AreTaking g.T.Ord.cmp g.T.ColumnValue.Fits g.T.ColumnValue.text g.T.ColumnValue.read l.bytes (drop l.initial.place l.bytes) l.columns.items l.place
    × (length l.columns.items ≡ l.counter)
