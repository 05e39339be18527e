use Rattle.std.proofs.Common.{◌≡◌, ◌++◌, length, take}
use Rattle.std.specs.List.{flat_map}
use Rattle.part_text.specs.Text.{u64_text}
use Rattle.term_table.specs.Part.{row_text}
use Rattle.term_table.proofs.written.put_rows.Given as goal

abbrev pub invariant-rows : goal.invariant-rows
invariant-rows l = l.into.items ≡ (l.fn.into.items ++ u64_text (length l.rows)) ++ flat_map row_text (take l.row-index l.rows)
