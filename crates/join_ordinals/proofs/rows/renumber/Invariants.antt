use Rattle.std.proofs.Common.{◌≡◌, ◌++◌, drop, take, map}
use Rattle.join_ordinals.specs.Rows.{renumbered, rows_seen}
use Rattle.join_ordinals.proofs.rows.renumber.Given as goal

abbrev pub invariant-rows : goal.invariant-rows
invariant-rows l = rows_seen l.row-items ≡ map (map (renumbered l.numbers)) (take l.row-index (rows_seen l.fn.rows.items)) ++ drop l.row-index (rows_seen l.fn.rows.items)
