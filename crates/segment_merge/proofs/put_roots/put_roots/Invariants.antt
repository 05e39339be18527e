use Rattle.std.proofs.Common.{◌≡◌, ◌++◌, drop}
use Rattle.stored_sources.specs.Text.{roots_text}
use Rattle.segment_merge.specs.Scoped.{roots_in}
use Rattle.segment_merge.proofs.put_roots.put_roots.Given as goal

abbrev pub invariant-parts : goal.invariant-parts
invariant-parts l = l.into.items ++ roots_text (roots_in (drop l.part-index l.parts)) ≡ l.fn.into.items ++ roots_text (roots_in l.parts)
