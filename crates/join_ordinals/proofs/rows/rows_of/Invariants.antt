use Rattle.std.proofs.Common.{take}
use Rattle.join_ordinals.specs.Ordinals.{AreRows}
use Rattle.join_ordinals.specs.Rows.{Keep, id_by, rows_seen}
use Rattle.join_ordinals.proofs.rows.rows_of.Given as goal

abbrev pub invariant-entries : goal.invariant-entries
invariant-entries l = AreRows l.ids (id_by l.whose) (take l.entry-index l.entries) (rows_seen l.rows.items) × Keep l.fn.ids l.ids
