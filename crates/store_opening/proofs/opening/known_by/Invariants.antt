use Rattle.std.proofs.Common.{◌≡◌, ◌++◌, drop}
use Rattle.store_opening.specs.Shown.{known_rows}
use Rattle.store_opening.proofs.opening.known_by.Given as goal

abbrev pub invariant-entries : goal.invariant-entries
invariant-entries l = l.known.items ++ known_rows (drop l.index l.entries) (drop l.index l.rows) ≡ known_rows l.entries l.rows
