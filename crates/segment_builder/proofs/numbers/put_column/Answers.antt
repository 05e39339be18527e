use Rattle.std.specs.Ordering.{int_cmp}
use Rattle.doc_values.specs.Values.{AreValues}
use Rattle.segment_builder.specs.Members.{number_member}
use Rattle.segment_builder.proofs.Among.{item_at}
use Rattle.segment_builder.proofs.numbers.put_column.Goals as goal

pub put_entry-requires : goal.put_entry-requires
put_entry-requires c =
    rw c.as_slice.ensures
    (item_at number_member (λ row. AreValues int_cmp row.1) c.args.members.now c.members.doc-index c.members-item.result c.members-test.true c.members-item.is c.requires.entries.rows_are.valued).fewer
