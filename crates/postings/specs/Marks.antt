-- What a list of postings says of documents.
use Rattle.std.specs.Prelude.{ℕ, Bool, ◌==◌, nat_lt, List, length}
use Rattle.std.specs.List.{list_any}

-- whether a document is among the postings
abbrev pub has_document : ℕ → List (ℕ × List ℕ) → Bool
has_document document postings = list_any (λ (posting : ℕ × List ℕ). posting.0 == document) postings

-- whether some posting has positions, as those of a text's word have
abbrev pub has_positions : List (ℕ × List ℕ) → Bool
has_positions postings = list_any (λ (posting : ℕ × List ℕ). nat_lt 0 (length posting.1)) postings
