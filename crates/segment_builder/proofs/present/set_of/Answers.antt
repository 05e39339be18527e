use Rattle.std.proofs.Common.{arith}
use Rattle.segment_builder.proofs.present.set_of.Goals as goal

pub set-requires : goal.set-requires
set-requires c = omega (arith, c.requires c.docs.doc-index 0 c.docs-test.true, c.docs.invariant.1)
