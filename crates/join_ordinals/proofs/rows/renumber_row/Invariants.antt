use Rattle.std.proofs.Common.{◌≡◌, ◌++◌, drop, take, map}
use Rattle.join_ordinals.specs.Rows.{renumbered}
use Rattle.join_ordinals.proofs.rows.renumber_row.Given as goal

abbrev pub invariant-places : goal.invariant-places
invariant-places l = l.place-items ≡ map (renumbered l.numbers) (take l.place-index l.fn.row.items) ++ drop l.place-index l.fn.row.items
