use Rattle.std.proofs.Common.{◌≡◌, ◌+◌, drop, length, map}
use Rattle.flattener.specs.Seen.{document_seen}
use Rattle.segment_builder.specs.Entries.{EntriesState, with_documents}
use Rattle.segment_builder.specs.Lists.{AreLists}
use Rattle.segment_builder.proofs.entries.add_documents.Given as goal

abbrev pub invariant-documents : goal.invariant-documents
invariant-documents l =
    ((it : EntriesState) → AreLists it l.fn.lists → (own : EntriesState) × AreLists own l.lists
    × (with_documents own (map document_seen (drop l.document-index l.documents)) ≡ with_documents it (map document_seen l.documents)))
    × (length l.lists.scopes.items ≡ length l.fn.lists.scopes.items + l.document-index)
