use Rattle.std.proofs.Common.{◌≡◌, ◌++◌, length, take}
use Rattle.std.specs.List.{flat_map}
use Rattle.part_text.specs.Text.{u32_text}
use Rattle.store_text.proofs.written.put_dead.Given as goal

abbrev pub invariant-indexes : goal.invariant-indexes
invariant-indexes l = l.into.items ≡ (l.fn.into.items ++ u32_text (length l.indexes)) ++ flat_map u32_text (take l.index-index l.indexes)
