use Rattle.std.proofs.Common.{subst, arith}
use Rattle.std.specs.List.{All}
use Rattle.std.proofs.lemmas.List.{take_all}
use Rattle.std.proofs.lemmas.List.Elements.{All-more}
use Rattle.flattener.specs.Seen.{document_seen}
use Rattle.segment_builder.specs.Form.{IsFit}
use Rattle.segment_builder.proofs.fit.documents_fit.Goals as goal

pub documents-preserved : goal.documents-preserved
documents-preserved c =
    All-more (λ document. IsFit (document_seen document)) c.args.documents.now c.documents.document-index c.document-item.result c.documents-test.true c.documents.invariant
    (subst (λ document. IsFit (document_seen document)) c.document-item.is (c.document_fits.ensures))

pub returns : goal.returns
returns c = subst (All (λ document. IsFit (document_seen document))) (take_all c.documents.document-index c.args.documents.now (omega arith)) c.documents.invariant
