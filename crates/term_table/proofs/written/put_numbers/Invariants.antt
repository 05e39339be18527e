use Rattle.std.proofs.Common.{◌≡◌, ◌++◌, length, take}
use Rattle.std.specs.List.{flat_map}
use Rattle.part_text.specs.Text.{u32_text}
use Rattle.term_table.proofs.written.put_numbers.Given as goal

abbrev pub invariant-numbers : goal.invariant-numbers
invariant-numbers l = l.into.items ≡ (l.fn.into.items ++ u32_text (length l.numbers)) ++ flat_map u32_text (take l.number-index l.numbers)
