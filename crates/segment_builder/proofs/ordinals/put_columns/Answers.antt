use Rattle.segment_builder.specs.Columns.{IsKeywordColumn, keyword_rows, terms_lent}
use Rattle.segment_builder.proofs.Among.{item_at}
use Rattle.segment_builder.proofs.ordinals.put_columns.Goals as goal

pub put_column-requires-clause-are : goal.put_column-requires-clause-are
put_column-requires-clause-are c =
    rw c.as_slice.ensures.value
    (item_at (λ group. (group.0, keyword_rows group.1.items)) (IsKeywordColumn (terms_lent c.args.terms.now)) c.args.groups.now c.groups.field-index c.groups-item.result c.groups-test.true c.groups-item.is c.requires.are)
