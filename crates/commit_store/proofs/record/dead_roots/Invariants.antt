use Rattle.std.proofs.Common.{◌≡◌, ◌++◌, drop}
use Rattle.commit_store.specs.Saying.{dead_from, dead_of}
use Rattle.commit_store.proofs.record.dead_roots.Given as goal

abbrev pub invariant-roots : goal.invariant-roots
invariant-roots l = l.dead.items ++ dead_from l.root (drop l.root l.live.roots) ≡ dead_of l.live.roots
