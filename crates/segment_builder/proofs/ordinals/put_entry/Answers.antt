use Rattle.std.proofs.Common.{Contains}
use Rattle.segment_builder.specs.Columns.{terms_lent}
use Rattle.segment_builder.proofs.Ranks.{lent_at}
use Rattle.segment_builder.proofs.ordinals.put_entry.Goals as goal

pub find-place-requires-clause-there : goal.find-place-requires-clause-there
find-place-requires-clause-there c =
    rw c.as_slice.ensures
    (lent_at (λ bytes. Contains (terms_lent c.args.terms.now) (c.args.field, bytes)) c.args.values.now c.values.value-index c.value-item.result c.values-test.true c.value-item.is c.requires.there)
