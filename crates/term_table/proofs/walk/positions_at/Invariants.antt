use Rattle.part_text.specs.Reading.{many_at}
use Rattle.part_text.specs.Walks.{IsWalked}
use Rattle.std.proofs.Common.{None, ℕ}
use Rattle.term_table.specs.Reading.{ascending_at}
use Rattle.term_table.proofs.walk.positions_at.Given as goal

abbrev pub invariant-positions : goal.invariant-positions
invariant-positions l = IsWalked (λ (n : ℕ). n) ascending_at (many_at (λ (n : ℕ). n) ascending_at None l.count l.initial.rest) l.count l.before l.counter l.rest
