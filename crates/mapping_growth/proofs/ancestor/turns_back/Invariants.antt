use Rattle.std.proofs.Common.{ℕ, ◌<◌, Some, map}
use Rattle.mapping_growth.specs.Kept.{relation_of}
use Rattle.mapping_growth.specs.Lines.{AllEnd, Ends}
use Rattle.mapping_growth.proofs.ancestor.turns_back.Given as goal

-- the lines from all relations so far end
abbrev pub invariant-relations : goal.invariant-relations
invariant-relations l = AllEnd (map relation_of l.relations) l.marks.items × ((k : ℕ) → k < l.number → Ends (map relation_of l.relations) (Some k))
