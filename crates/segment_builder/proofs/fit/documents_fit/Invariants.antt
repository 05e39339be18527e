use Rattle.std.proofs.Common.{take}
use Rattle.std.specs.List.{All}
use Rattle.flattener.specs.Seen.{document_seen}
use Rattle.segment_builder.specs.Form.{IsFit}
use Rattle.segment_builder.proofs.fit.documents_fit.Given as goal

abbrev pub invariant-documents : goal.invariant-documents
invariant-documents l =
    All (λ document. IsFit (document_seen document)) (take l.document-index l.documents)
