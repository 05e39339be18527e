use Rattle.std.specs.List.{AllWithin}
use Rattle.segment_parts.specs.Parts.{IsPresence}
use Rattle.segment_parts.proofs.writable.have_length.Given as goal

abbrev pub invariant-columns : goal.invariant-columns
invariant-columns l = AllWithin (IsPresence l.documents) l.columns 0 l.field-index
