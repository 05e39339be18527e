use Rattle.std.proofs.Common.{◌≡◌, ◌++◌, drop, map}
use Rattle.stored_sources.specs.Text.{roots_text}
use Rattle.segment_builder.proofs.roots.put_roots.Given as goal

abbrev pub invariant-each : goal.invariant-each
invariant-each l = l.into.items ++ roots_text (map (λ block. block.root) (drop l.block-index l.blocks)) ≡ l.fn.into.items ++ roots_text (map (λ block. block.root) l.blocks)
