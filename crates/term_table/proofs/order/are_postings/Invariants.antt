use Rattle.std.proofs.Common.{ℕ, List}
use Rattle.part_text.specs.Order.{IsFollowed}
use Rattle.term_table.specs.Laws.{MayBePosting}
use Rattle.term_table.proofs.order.are_postings.Given as goal

abbrev pub invariant-postings : goal.invariant-postings
invariant-postings l = IsFollowed (λ (posting : ℕ × List ℕ). posting.0) MayBePosting l.postings l.before l.document-index
