use Rattle.std.proofs.Common.{◌+◌, ◌-◌, ◌/◌, ◌<◌, length, slice_index, ◌∙◌, arith}
use Rattle.segment_builder.specs.Groups.{keys}
use Rattle.segment_builder.proofs.Inserted.{all_above, all_below, field_at, field_count, from_equal, from_greater, from_less}
use Rattle.segment_builder.proofs.by_field.place_of.Goals as goal

pub places-preserved-in-Less : goal.places-preserved-in-Less
places-preserved-in-Less g c =
    let middle = c.places.low + (c.places.high - c.places.low) / 2 in
    let within : middle < length c.args.groups.now = omega (arith, c.places-test.true, c.places.invariant.1) in
    let below : slice_index (keys c.args.groups.now) middle < c.args.field = rw (field_at c.args.groups.now middle c.index-groups-middle.result within) (from_less _ _ c.in-Less.ensures) in (
      omega (arith, c.places-test.true),
      c.places.invariant.1,
      all_below (keys c.args.groups.now) c.args.field middle c.requires (omega (arith, within, field_count c.args.groups.now)) below,
      c.places.invariant.3,
    )

pub returns-in-Equal-clause-place : goal.returns-in-Equal-clause-place
returns-in-Equal-clause-place g c =
    let middle = c.places.low + (c.places.high - c.places.low) / 2 in
    let within : middle < length c.args.groups.now = omega (arith, c.places-test.true, c.places.invariant.1) in
    (within, field_at c.args.groups.now middle c.index-groups-middle.result within ∙ from_equal _ _ c.in-Equal.ensures)

pub places-preserved : goal.places-preserved
places-preserved g c =
    let middle = c.places.low + (c.places.high - c.places.low) / 2 in
    let within : middle < length c.args.groups.now = omega (arith, c.places-test.true, c.places.invariant.1) in
    let above : c.args.field < slice_index (keys c.args.groups.now) middle = rw (field_at c.args.groups.now middle c.index-groups-middle.result within) (from_greater _ _ c.in-Greater.ensures) in (
      omega arith,
      omega (arith, within),
      c.places.invariant.2,
      (λ at behind inside. all_above (keys c.args.groups.now) c.args.field middle c.requires above at behind (omega (arith, inside, field_count c.args.groups.now))),
    )
