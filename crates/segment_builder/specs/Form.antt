-- Documents that can be written: what each carries comes in order, no list that it carries is empty, and a document with a
-- word of a text field has a value of the field.
use Rattle.std.specs.Prelude.{◌≡◌, ℕ, ℤ, ◌<◌, ◌^◌, true, List, map, Contains, FitsSigned}
use Rattle.std.specs.Int.{w64}
use Rattle.std.specs.Cmp.Lexicographic.{slice_cmp}
use Rattle.std.specs.List.{All}
use Rattle.std.specs.List.Sorted.{IsSorted, IsStrictlyIncreasing, IsStrictlySortedBy}
use Rattle.std.specs.Ordering.{int_cmp, nat_cmp}
use Rattle.segment.specs.Flat.{FlatDocument, has_some}
use Rattle.term_table.specs.Terms.{term_cmp}

-- by field, each field with something
pub record IsByField {X : Type 0} (entries : List (ℕ × List X)) : Type 0 where
  pub ascending : IsStrictlySortedBy nat_cmp (map (λ (entry : ℕ × List X). entry.0) entries)
  pub some : All (λ (entry : ℕ × List X). has_some entry ≡ true) entries

-- by term, each term with positions
pub record IsByTerm (words : List ((ℕ × List ℕ) × List ℕ)) : Type 0 where
  pub ascending : IsStrictlySortedBy term_cmp (map (λ (word : (ℕ × List ℕ) × List ℕ). word.0) words)
  pub some : All (λ (word : (ℕ × List ℕ) × List ℕ). has_some word ≡ true) words

pub record IsOrdered (flat : FlatDocument) : Type 0 where
  pub numbers : IsByField flat.numbers
  pub keywords : IsByField flat.keywords
  pub words : IsByTerm flat.words
  pub texts : IsStrictlySortedBy nat_cmp flat.texts
  pub numbers_rise : All (λ (entry : ℕ × List ℤ). IsSorted int_cmp entry.1) flat.numbers
  pub keywords_rise : All (λ (entry : ℕ × List (List ℕ)). IsSorted (slice_cmp nat_cmp) entry.1) flat.keywords
  pub positions_rise : All (λ (word : (ℕ × List ℕ) × List ℕ). IsStrictlyIncreasing word.1) flat.words
  pub valued : All (λ (word : (ℕ × List ℕ) × List ℕ). Contains flat.texts word.0.0) flat.words

-- what a document carries fits its types, as it does where it was made
pub record IsFit (flat : FlatDocument) : Type 0 where
  pub numbers : All (λ (entry : ℕ × List ℤ). All (FitsSigned w64) entry.1) flat.numbers
  pub positions : All (λ (word : (ℕ × List ℕ) × List ℕ). All (λ position. position < 2 ^ 32) word.1) flat.words
