use Rattle.std.proofs.Common.{◌≡◌, ◌++◌, drop}
use Rattle.std.specs.List.{filter}
use Rattle.segment.specs.Flat.{has_some}
use Rattle.segment_merge.specs.Pieces.{columns_of_parts}
use Rattle.segment_merge.proofs.pieces.pieces_of.Given as goal

abbrev pub invariant-parts : goal.invariant-parts
invariant-parts g l =
    l.pieces.items ++ filter has_some (columns_of_parts g.T.MergedValue.columns g.T.MergedValue.renewed (drop l.at l.parts) (drop l.at l.news))
    ≡ filter has_some (columns_of_parts g.T.MergedValue.columns g.T.MergedValue.renewed l.parts l.news)
