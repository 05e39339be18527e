use Rattle.part_text.specs.Reading.{many_at}
use Rattle.part_text.specs.Walks.{IsWalked}
use Rattle.std.proofs.Common.{None, ℕ, List}
use Rattle.term_table.specs.Reading.{posting_at}
use Rattle.term_table.proofs.walk.postings_at.Given as goal

abbrev pub invariant-postings : goal.invariant-postings
invariant-postings l = IsWalked (λ (posting : ℕ × List ℕ). posting.0) posting_at (many_at (λ (posting : ℕ × List ℕ). posting.0) posting_at None l.count l.initial.rest) l.count l.before l.counter l.rest
