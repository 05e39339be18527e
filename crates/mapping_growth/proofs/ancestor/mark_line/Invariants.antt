use Rattle.std.proofs.Common.{map}
use Rattle.mapping_growth.specs.Kept.{relation_of}
use Rattle.mapping_growth.specs.Lines.{AllEnd, Ends}
use Rattle.mapping_growth.proofs.ancestor.mark_line.Given as goal

abbrev pub invariant-line : goal.invariant-line
invariant-line l = AllEnd (map relation_of l.relations) l.marks × Ends (map relation_of l.relations) l.at
