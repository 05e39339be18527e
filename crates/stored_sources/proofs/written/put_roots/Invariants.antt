use Rattle.std.proofs.Common.{◌≡◌, ◌++◌, take}
use Rattle.std.specs.List.{flat_map}
use Rattle.stored_sources.specs.Text.{root_text}
use Rattle.stored_sources.proofs.written.put_roots.Given as goal

abbrev pub invariant-roots : goal.invariant-roots
invariant-roots l = l.into.items ≡ l.fn.into.items ++ flat_map root_text (take l.root-index l.roots)
