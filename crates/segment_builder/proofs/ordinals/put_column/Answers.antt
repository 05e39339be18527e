use Rattle.std.proofs.Common.{Contains, arith}
use Rattle.std.proofs.lemmas.List.{length-map}
use Rattle.std.specs.Cmp.Lexicographic.{slice_cmp}
use Rattle.std.specs.List.{All}
use Rattle.std.specs.Ordering.{nat_cmp}
use Rattle.doc_values.specs.Values.{AreValues}
use Rattle.segment_builder.specs.Columns.{terms_lent}
use Rattle.segment_builder.specs.Members.{keyword_member}
use Rattle.segment_builder.proofs.Among.{item_at}
use Rattle.segment_builder.proofs.ordinals.put_column.Goals as goal

pub put_entry-requires-clause-there : goal.put_entry-requires-clause-there
put_entry-requires-clause-there c =
    rw c.as_slice.ensures
    (item_at keyword_member (λ row. All (λ bytes. Contains (terms_lent c.args.terms.now) (c.args.field, bytes)) row.1) c.args.members.now c.members.doc-index c.members-item.result c.members-test.true c.members-item.is c.requires.are.entries.fit)

pub put_entry-requires-clause-few : goal.put_entry-requires-clause-few
put_entry-requires-clause-few c =
    let values = item_at keyword_member (λ row. AreValues (slice_cmp nat_cmp) row.1) c.args.members.now c.members.doc-index c.members-item.result c.members-test.true c.members-item.is c.requires.are.entries.rows_are.valued in
    rw c.as_slice.ensures (omega (arith, values.fewer, length-map c.members-item.result.1.now.values.items (λ bytes. bytes.items)))
