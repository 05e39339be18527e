use Rattle.std.proofs.Common.{◌≡◌, ◌++◌, length, take}
use Rattle.std.specs.List.{flat_map}
use Rattle.part_text.specs.Text.{u32_text}
use Rattle.doc_values.specs.Text.{entry_text}
use Rattle.doc_values.proofs.written.put_entries.Given as goal

abbrev pub invariant-entries : goal.invariant-entries
invariant-entries g l = l.into.items ≡ (l.fn.into.items ++ u32_text (length l.entries)) ++ flat_map (entry_text g.T.ColumnValue.text) (take l.entry-index l.entries)
