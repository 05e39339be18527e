use Rattle.std.proofs.Common.{◌++◌}
use Rattle.std.specs.List.{flat_map}
use Rattle.segment_builder.specs.Groups.{groups_seen}
use Rattle.segment_merge.specs.ByField.{group_text}
use Rattle.segment_merge.proofs.Pieced.{groups_more}
use Rattle.segment_merge.proofs.by_field.put_groups.Goals as goal

pub groups-preserved : goal.groups-preserved
groups-preserved g c =
    groups_more (group_text g.P.PartItems.count g.P.PartItems.text) c.args.groups.now c.groups.field-index c.groups-item.result c.as_slice.result.now c.groups.into.items c.put_group.new.into.items
    (c.args.into.now.items ++ flat_map (group_text g.P.PartItems.count g.P.PartItems.text) (groups_seen c.args.groups.now))
    c.groups-test.true c.groups-item.is c.as_slice.ensures.value c.in_ok-put_group.ensures c.groups.invariant
