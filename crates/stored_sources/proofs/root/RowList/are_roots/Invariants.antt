use Rattle.std.proofs.Common.{ℕ, ◌<◌, get_or}
use Rattle.stored_sources.specs.declared.root.Root.{Root}
use Rattle.stored_sources.specs.Stands.{IsRoot}
use Rattle.stored_sources.proofs.root.RowList.are_roots.Given as goal

abbrev pub invariant-roots : goal.invariant-roots
invariant-roots l = (k : ℕ) (d : Root) → k < l.root-index → IsRoot (get_or l.roots k d)
