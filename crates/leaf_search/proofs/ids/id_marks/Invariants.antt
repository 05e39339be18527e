use Rattle.std.proofs.Common.{take}
use Rattle.leaf_search.proofs.Named.{AreNamed}
use Rattle.leaf_search.proofs.ids.id_marks.Given as goal

abbrev pub invariant-listed : goal.invariant-listed
invariant-listed l = AreNamed l.segment (take l.id-index l.listed) l.set
