use Rattle.std.specs.List.{filter}
use Rattle.segment.specs.Flat.{has_some}
use Rattle.segment_merge.specs.Pieces.{from_parts, part_texts}
use Rattle.segment_merge.proofs.Placed.{all_texts_more}
use Rattle.segment_merge.proofs.text_columns.texts_of.Goals as goal

pub parts-preserved : goal.parts-preserved
parts-preserved c =
    all_texts_more c.args.parts.now c.parts.part-index c.part-item.result c.parts.texts.items c.add_texts.new.texts.items (filter has_some (from_parts part_texts c.args.parts.now))
    c.parts-test.true c.part-item.is c.in_ok-add_texts.ensures c.parts.invariant
