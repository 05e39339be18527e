use Rattle.std.proofs.Common.{◌++◌}
use Rattle.std.specs.List.{flat_map}
use Rattle.segment_merge.proofs.Pieced.{items_more}
use Rattle.segment_merge.proofs.by_field.put_items.Goals as goal

pub parts-preserved : goal.parts-preserved
parts-preserved g c =
    items_more g.P.PartItems.text c.args.parts.now c.parts.part-index c.part-item.result c.parts.into.items c.put.new.into.items (c.args.into.now.items ++ flat_map g.P.PartItems.text c.args.parts.now)
    c.parts-test.true c.part-item.is c.in_ok-put.ensures c.parts.invariant
