use Rattle.std.specs.List.{filter}
use Rattle.segment.specs.Flat.{has_some}
use Rattle.segment_merge.specs.Pieces.{columns_of_parts}
use Rattle.segment_merge.proofs.Pieced.{of_first, parts_more}
use Rattle.segment_merge.proofs.pieces.pieces_of.Goals as goal

pub parts-preserved : goal.parts-preserved
parts-preserved g c =
    parts_more g.T.MergedValue.columns g.T.MergedValue.renewed c.args.parts.now c.args.news.now c.parts.at c.index-parts-at.result c.of_part.result.now c.parts.pieces.items c.add_pieces.new.pieces.items
    (filter has_some (columns_of_parts g.T.MergedValue.columns g.T.MergedValue.renewed c.args.parts.now c.args.news.now))
    c.parts-test.true c.index-parts-at.is (of_first c.args.news.now c.parts.at c.of_part.result.now c.of_part.ensures) c.in_ok-add_pieces.ensures c.parts.invariant
