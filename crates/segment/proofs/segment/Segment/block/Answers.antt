use Rattle.std.proofs.Common.{arith}
use Rattle.segment.proofs.Places.{before_root}
use Rattle.segment.proofs.segment.Segment.block.Goals as goal

pub returns-else-root-eq0-clause-ordered : goal.returns-else-root-eq0-clause-ordered
returns-else-root-eq0-clause-ordered c =
    omega (arith, before_root c.self.inside.parts _ c.args.root _ _ c.self.view_is c.self.invariant.columns c.if-root-eq0.false c.requires c.root_doc.ensures.document c.root_doc-end.ensures.document)
