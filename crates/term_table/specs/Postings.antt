-- Postings: the documents that have a term, each with the positions at which the term stands in it.
use Rattle.std.specs.Prelude.{ℕ, ◌<◌, ◌^◌, List, length, map}
use Rattle.std.specs.List.{All}
use Rattle.std.specs.List.Sorted.{IsStrictlyIncreasing}

-- the documents of postings
abbrev pub documents : List (ℕ × List ℕ) → List ℕ
documents postings = map (λ (posting : ℕ × List ℕ). posting.0) postings

-- numbers of 32 bits, fewer than 2^32 of them, each greater than the one before
pub record AreAscending (numbers : List ℕ) : Type 0 where
  pub fewer : length numbers < 2 ^ 32
  pub ascending : IsStrictlyIncreasing numbers
  pub fit : All (λ number. number < 2 ^ 32) numbers

-- the postings of a term: documents ascend, and so do the positions in each
pub record ArePostings (postings : List (ℕ × List ℕ)) : Type 0 where
  pub documents_are : AreAscending (documents postings)
  pub positions_are : All (λ (posting : ℕ × List ℕ). AreAscending posting.1) postings
