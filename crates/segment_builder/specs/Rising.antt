-- Entries of one key, document after document.
use Rattle.std.specs.Prelude.{ℕ, ◌+◌, ◌<◌, ◌≤◌, List, [], ◌∷◌}

-- documents from `low` on and below `high`, each behind the one before it
abbrev pub AreRisingFrom : {X : Type 0} → ℕ → ℕ → List (ℕ × X) → Type 0
AreRisingFrom low high [] = Unit {0}
AreRisingFrom low high (entry ∷ entries) = (low ≤ entry.0) × (entry.0 < high) × AreRisingFrom (entry.0 + 1) high entries
