use Rattle.std.proofs.Common.{All, subst}
use Rattle.std.proofs.lemmas.List.{take_all}
use Rattle.std.proofs.lemmas.List.Elements.{All-more}
use Rattle.segment_parts.specs.Agree.{AreColumns}
use Rattle.segment_merge.proofs.Placed.{Agrees, IsLive}
use Rattle.segment_merge.proofs.agreed.parts_agree.Goals as goal

pub parts-preserved : goal.parts-preserved
parts-preserved c = (
  All-more Agrees c.args.parts.now c.parts.part-index c.part-item.result c.parts-test.true c.parts.invariant.0 (subst Agrees c.part-item.is (subst AreColumns c.segment.ensures.segment c.docs-documents.ensures.agree)),
  All-more IsLive c.args.parts.now c.parts.part-index c.part-item.result c.parts-test.true c.parts.invariant.1 (subst IsLive c.part-item.is c.segment.ensures.live),
)

pub returns-clause-agree : goal.returns-clause-agree
returns-clause-agree c = subst (All Agrees) (take_all c.parts.part-index c.args.parts.now c.parts-test.false) c.parts.invariant.0

pub returns-clause-live : goal.returns-clause-live
returns-clause-live c = subst (All IsLive) (take_all c.parts.part-index c.args.parts.now c.parts-test.false) c.parts.invariant.1
