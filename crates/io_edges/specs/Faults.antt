-- Counts of faults. Each object that stands for the outside counts the calls on it that failed, so that a caller's
-- promise can say: a fault is answered only where something outside did fail.
use Rattle.std.specs.Prelude.{◌≡◌, ℕ, ◌-◌, ◌^◌, ◌<◌, ◌⊎◌, Result, OnOk, OnErr}

-- the greatest count: a u64 that stays there
abbrev pub greatest_count : ℕ
greatest_count = 2 ^ 64 - 1

-- the count went up, or stood at its type's end and stays there
abbrev pub Rose : ℕ → ℕ → Type 0
Rose old new = (old < new) ⊎ ((old ≡ greatest_count) × (new ≡ greatest_count))

-- A call that succeeded left the count as it was, and one that failed raised it.
abbrev pub HasCause : {T E : Type 0} → ℕ → ℕ → Result T E → Type 0
HasCause old new result = OnOk result (new ≡ old) × OnErr result (Rose old new)
