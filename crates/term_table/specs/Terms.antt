-- Terms: the values of keyword and number fields, and the words of text fields.
use Rattle.std.specs.Prelude.{ℕ, List}
use Rattle.std.specs.Ordering.{nat_cmp, ordering_then}
use Rattle.std.specs.Cmp.Lexicographic.{slice_cmp}
use Rattle.std.specs.List.Sorted.{IsStrictlySortedBy}
use Rattle.std.specs.declared.cmp.Ordering.{Ordering}

-- by field, and the terms of one field in the order of their bytes, a term before those that it is a prefix of
abbrev pub term_cmp : ℕ × List ℕ → ℕ × List ℕ → Ordering
term_cmp one other = ordering_then (nat_cmp one.0 other.0) (slice_cmp nat_cmp one.1 other.1)

-- each term comes before all later ones, so that none stands there twice
abbrev pub AreAscending : List (ℕ × List ℕ) → Type 0
AreAscending terms = IsStrictlySortedBy term_cmp terms
