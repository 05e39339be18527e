use Rattle.std.proofs.Common.{◌≡◌, length}
use Rattle.join_ordinals.proofs.Renumbering.{Numbering}
use Rattle.join_ordinals.proofs.numbers.numbered.Given as goal

abbrev pub invariant-firsts : goal.invariant-firsts
invariant-firsts l = Numbering l.ids l.numbers.items l.count × (length l.numbers.items ≡ l.first-index)
