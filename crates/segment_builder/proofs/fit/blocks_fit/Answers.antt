use Rattle.std.proofs.Common.{subst, arith}
use Rattle.std.specs.List.{All}
use Rattle.std.proofs.lemmas.List.{take_all}
use Rattle.std.proofs.lemmas.List.Elements.{All-more}
use Rattle.flattener.specs.Seen.{document_seen}
use Rattle.segment_builder.specs.Form.{IsFit}
use Rattle.segment_builder.proofs.fit.blocks_fit.Goals as goal

pub each-preserved : goal.each-preserved
each-preserved c =
    All-more (λ block. All (λ document. IsFit (document_seen document)) block.documents.items) c.args.blocks.now c.each.block-index c.block-item.result c.each-test.true c.each.invariant
    (subst (λ block. All (λ document. IsFit (document_seen document)) block.documents.items) c.block-item.is (rw c.as_slice.ensures.value at c.documents_fit.ensures))

pub returns : goal.returns
returns c = subst (All (λ block. All (λ document. IsFit (document_seen document)) block.documents.items)) (take_all c.each.block-index c.args.blocks.now (omega arith)) c.each.invariant
