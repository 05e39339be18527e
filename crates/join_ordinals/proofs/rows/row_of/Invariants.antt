use Rattle.std.proofs.Common.{◌≡◌, length}
use Rattle.join_ordinals.specs.Rows.{IsRow, Keep, id_by}
use Rattle.join_ordinals.proofs.rows.row_of.Given as goal

abbrev pub invariant-roots : goal.invariant-roots
invariant-roots l = (length l.row.items ≡ l.root) × IsRow l.ids (id_by l.whose l.entry) l.row.items × Keep l.fn.ids l.ids
