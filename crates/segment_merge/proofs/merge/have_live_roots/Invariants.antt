use Rattle.std.proofs.Common.{◌≡◌, drop, length}
use Rattle.segment_merge.specs.Scoped.{roots_in}
use Rattle.segment_merge.proofs.merge.have_live_roots.Given as goal

abbrev pub invariant-parts : goal.invariant-parts
invariant-parts l = length (roots_in (drop l.part-index l.parts)) ≡ length (roots_in l.parts)
