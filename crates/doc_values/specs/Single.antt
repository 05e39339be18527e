-- Rows of one value each.
use Rattle.std.specs.Prelude.{◌≡◌, ℕ, List, length}
use Rattle.std.specs.List.{All}

-- each document has one value alone
abbrev pub AreSingle : {X : Type 0} → List (ℕ × List X) → Type 0
AreSingle {X} rows = All (λ (row : ℕ × List X). length row.1 ≡ 1) rows
