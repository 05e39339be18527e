use Rattle.std.proofs.Common.{◌≡◌, ℕ, List, ◌++◌, drop}
use Rattle.index_core.specs.Found.{root_numbers}
use Rattle.store_opening.specs.Blocks.{ascends}
use Rattle.store_opening.proofs.blocks.ascending_to.Given as goal

abbrev pub invariant-roots : goal.invariant-roots
invariant-roots l = (more : List ℕ) → ascends l.least (drop l.root (root_numbers l.segment) ++ more) l.next ≡ ascends l.from (root_numbers l.segment ++ more) l.next
