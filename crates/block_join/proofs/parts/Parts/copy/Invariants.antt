use Rattle.std.proofs.Common.{◌≡◌, ℕ, Option, None, drop, replicate}
use Rattle.block_join.specs.Sums.{AreParts, summed, summed_from}
use Rattle.block_join.proofs.parts.Parts.copy.Given as goal

abbrev pub invariant-parts : goal.invariant-parts
invariant-parts l =
    (summed_from (summed l.made) (drop l.part-index l.part-items) ≡ summed_from (replicate {A = Option ℕ} l.self.len None) l.part-items)
    × (l.part-items ≡ l.self.parts.items)
    × (l.made.len ≡ l.self.len)
    × AreParts l.made
