use Rattle.std.proofs.Common.{◌≡◌, drop}
use Rattle.store_opening.specs.Blocks.{ascends, numbers_through}
use Rattle.store_opening.proofs.blocks.numbers_ascend.Given as goal

abbrev pub invariant-entries : goal.invariant-entries
invariant-entries l = ascends l.from (numbers_through (drop l.entry-index l.entries)) l.next ≡ ascends 0 (numbers_through l.entries) l.next
