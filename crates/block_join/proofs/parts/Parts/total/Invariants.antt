use Rattle.std.proofs.Common.{◌≡◌, ◌≤◌, drop}
use Rattle.score_math.specs.declared.score.TheConstants.{SCORE_CAP}
use Rattle.block_join.proofs.Totals.{total_from}
use Rattle.block_join.proofs.parts.Parts.total.Given as goal

abbrev pub invariant-parts : goal.invariant-parts
invariant-parts l =
    (total_from l.total (drop l.part-index l.part-items) l.from l.end ≡ total_from 0 l.part-items l.from l.end)
    × (l.part-items ≡ l.self.parts.items)
    × (l.total ≤ SCORE_CAP)
