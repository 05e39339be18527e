use Rattle.std.proofs.Common.{◌≡◌, ◌++◌, length, map}
use Rattle.std.specs.List.{flat_map}
use Rattle.segment_merge.proofs.pieces.put_values.Given as goal

abbrev pub invariant-values : goal.invariant-values
invariant-values g l =
    l.into.items ++ flat_map g.T.ColumnValue.text (map (g.T.MergedValue.renewed l.ordinals) l.rest)
    ≡ l.fn.into.items ++ flat_map g.T.ColumnValue.text (map (g.T.MergedValue.renewed l.ordinals) l.fn.values)

abbrev pub decreases-values : goal.decreases-values
decreases-values g l = length l.rest
