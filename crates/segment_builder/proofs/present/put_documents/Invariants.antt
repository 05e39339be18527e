use Rattle.std.proofs.Common.{◌≡◌, ◌++◌, length, drop}
use Rattle.std.specs.List.{flat_map}
use Rattle.part_text.specs.Text.{u32_text}
use Rattle.segment_parts.specs.Text.{marked_places}
use Rattle.segment_builder.proofs.present.put_documents.Given as goal

abbrev pub invariant-documents : goal.invariant-documents
invariant-documents l = l.into.items ++ flat_map u32_text (marked_places l.from (drop l.from l.set)) ≡ l.fn.into.items ++ flat_map u32_text (marked_places 0 l.set)

abbrev pub decreases-documents : goal.decreases-documents
decreases-documents l = length (drop l.from l.set)
