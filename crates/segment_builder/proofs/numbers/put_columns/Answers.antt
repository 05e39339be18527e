use Rattle.std.proofs.Common.{FitsSigned, w64}
use Rattle.std.specs.Ordering.{int_cmp}
use Rattle.doc_values.specs.Stands.{IsColumn}
use Rattle.segment_builder.specs.Columns.{number_rows}
use Rattle.segment_builder.proofs.Among.{item_at}
use Rattle.segment_builder.proofs.numbers.put_columns.Goals as goal

pub put_column-requires : goal.put_column-requires
put_column-requires c =
    rw c.as_slice.ensures.value
    (item_at (λ group. (group.0, number_rows group.1.items)) (IsColumn int_cmp (FitsSigned w64)) c.args.groups.now c.groups.field-index c.groups-item.result c.groups-test.true c.groups-item.is c.requires)
