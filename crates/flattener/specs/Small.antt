-- How much a document carries, at most: fewer than 2^32 values of a field and positions of a word, and terms of at most
-- 32,766 bytes.
use Rattle.std.specs.Prelude.{ℕ, ◌<◌, ◌≤◌, ◌^◌, ℤ, List, length}
use Rattle.std.specs.List.{All}
use Rattle.segment.specs.Flat.{FlatDocument}

pub record IsSmall (flat : FlatDocument) : Type 0 where
  pub numbers : All (λ (field : ℕ × List ℤ). length field.1 < 2 ^ 32) flat.numbers
  pub keywords : All (λ (field : ℕ × List (List ℕ)). (length field.1 < 2 ^ 32) × All (λ (bytes : List ℕ). length bytes ≤ 32_766) field.1) flat.keywords
  pub words : All (λ (word : (ℕ × List ℕ) × List ℕ). (length word.0.1 ≤ 32_766) × (length word.1 < 2 ^ 32)) flat.words
