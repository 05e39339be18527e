-- What the postings of a term are, as the column of its field is.
use Rattle.std.specs.Prelude.{ℕ, ℤ, List, FitsSigned}
use Rattle.std.specs.List.{All}
use Rattle.std.specs.Int.{w64}
use Rattle.segment_parts.specs.Agree.{IsWordAt, IsKeywordAt, IsNumberAt}
use Rattle.segment.specs.declared.agree_terms.Kind.{Kind}
use Rattle.segment.specs.declared.agree_terms.Kind.TheVariants.{Word, Keyword, Number}

abbrev pub IsPosting : Kind → ℕ × List ℕ → Type 0
IsPosting (Word present) = IsWordAt present.now
IsPosting (Keyword rows ordinal) = IsKeywordAt rows ordinal
IsPosting (Number rows key) = IsNumberAt rows key.now

-- numbers fit their type
abbrev pub HasFits : Kind → Type 0
HasFits (Word present) = Unit {0}
HasFits (Keyword rows ordinal) = Unit {0}
HasFits (Number rows key) = All (λ (row : ℕ × List ℤ). All (FitsSigned w64) row.1) rows
