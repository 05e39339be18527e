use Rattle.std.proofs.Common.{◌≡◌, ◌++◌, length, take}
use Rattle.std.specs.List.{flat_map}
use Rattle.part_text.specs.Text.{u32_text}
use Rattle.store_text.specs.Record.{row_text}
use Rattle.store_text.proofs.written.put_rows.Given as goal

abbrev pub invariant-rows : goal.invariant-rows
invariant-rows l = l.into.items ≡ (l.fn.into.items ++ u32_text (length l.rows)) ++ flat_map row_text (take l.row-index l.rows)
