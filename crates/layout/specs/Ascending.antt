-- Numbers of items, in order.
use Rattle.std.specs.Prelude.{ℕ, ◌+◌, ◌≤◌, List, [], ◌∷◌}

-- numbers that strictly ascend: the first is at least `from`, and each is below `end`
abbrev pub Ascend : ℕ → List ℕ → ℕ → Type 0
Ascend from [] end = from ≤ end
Ascend from (number ∷ numbers) end = (from ≤ number) × Ascend (number + 1) numbers end
