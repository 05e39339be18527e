use Rattle.std.proofs.Common.{◌≡◌, ◌++◌, drop}
use Rattle.std.specs.List.{filter}
use Rattle.segment.specs.Flat.{has_some}
use Rattle.segment_merge.specs.Pieces.{columns_in}
use Rattle.segment_merge.proofs.pieces.add_pieces.Given as goal

abbrev pub invariant-columns : goal.invariant-columns
invariant-columns g l =
    l.pieces.items ++ filter has_some (columns_in (g.T.MergedValue.renewed l.ordinals) l.part (drop l.at (g.T.MergedValue.columns l.part.entry.columns)))
    ≡ l.fn.pieces.items ++ filter has_some (columns_in (g.T.MergedValue.renewed l.ordinals) l.part (g.T.MergedValue.columns l.part.entry.columns))
