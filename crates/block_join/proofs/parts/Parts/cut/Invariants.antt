use Rattle.std.proofs.Common.{◌≡◌, ℕ, Option, None, drop, replicate}
use Rattle.block_join.specs.Sums.{AreParts, summed}
use Rattle.block_join.proofs.Totals.{cut_from}
use Rattle.block_join.proofs.parts.Parts.cut.Given as goal

abbrev pub invariant-parts : goal.invariant-parts
invariant-parts l =
    (cut_from l.within (summed l.made) (drop l.part-index l.part-items) ≡ cut_from l.within (replicate {A = Option ℕ} l.self.len None) l.part-items)
    × (l.part-items ≡ l.self.parts.items)
    × (l.made.len ≡ l.self.len)
    × AreParts l.made
