use Rattle.std.proofs.Common.{◌≡◌, ◌≤◌, None, IfSome, drop}
use Rattle.score_math.specs.declared.score.TheConstants.{SCORE_CAP}
use Rattle.block_join.proofs.Totals.{value_from}
use Rattle.block_join.proofs.parts.Parts.at.Given as goal

abbrev pub invariant-parts : goal.invariant-parts
invariant-parts l =
    (value_from l.sum (drop l.part-index l.part-items) l.doc ≡ value_from None l.part-items l.doc)
    × (l.part-items ≡ l.self.parts.items)
    × IfSome l.sum (λ score. score ≤ SCORE_CAP)
