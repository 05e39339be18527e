use Rattle.std.proofs.Common.{take}
use Rattle.join_ordinals.specs.Ordinals.{AreRelations}
use Rattle.join_ordinals.specs.Rows.{rows_seen}
use Rattle.join_ordinals.proofs.rows.relations_of.Given as goal

abbrev pub invariant-entries : goal.invariant-entries
invariant-entries l = AreRelations (take l.entry-index l.entries) (rows_seen l.rows.items)
