use Rattle.std.proofs.Common.{take}
use Rattle.leaf_search.specs.Ids.{GainsDocuments}
use Rattle.leaf_search.proofs.ids.mark_roots.Given as goal

abbrev pub invariant-roots : goal.invariant-roots
invariant-roots l = GainsDocuments l.segment.scopes (take l.root-index l.roots) l.fn.set l.set
