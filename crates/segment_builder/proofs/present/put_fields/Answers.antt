use Rattle.std.proofs.Common.{◌<◌}
use Rattle.std.specs.List.{All}
use Rattle.segment_builder.proofs.Among.{item_at}
use Rattle.segment_builder.proofs.present.put_fields.Goals as goal

pub set_of-requires : goal.set_of-requires
set_of-requires c =
    rw c.as_slice.ensures.value
    (item_at (λ group. (group.0, group.1.items)) (λ group. All (λ doc. doc < c.args.documents) group.1) c.args.groups.now c.groups.field-index c.groups-item.result c.groups-test.true c.groups-item.is c.requires)
