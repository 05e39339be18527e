use Rattle.std.proofs.Common.{take}
use Rattle.std.specs.List.{All}
use Rattle.flattener.specs.Seen.{document_seen}
use Rattle.segment_builder.specs.Form.{IsFit}
use Rattle.segment_builder.proofs.fit.blocks_fit.Given as goal

abbrev pub invariant-each : goal.invariant-each
invariant-each l =
    All (λ block. All (λ document. IsFit (document_seen document)) block.documents.items) (take l.block-index l.blocks)
