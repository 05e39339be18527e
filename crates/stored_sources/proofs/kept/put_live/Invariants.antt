use Rattle.std.proofs.Common.{◌≡◌, ◌++◌, map, take}
use Rattle.stored_sources.specs.Text.{roots_text}
use Rattle.stored_sources.specs.Roots.{root_of}
use Rattle.stored_sources.specs.Kept.{roots_in}
use Rattle.stored_sources.proofs.kept.put_live.Given as goal

abbrev pub invariant-live : goal.invariant-live
invariant-live l = l.into.items ≡ l.fn.into.items ++ roots_text (map (root_of (roots_in l.places l.bytes)) (take l.root-index l.live))
