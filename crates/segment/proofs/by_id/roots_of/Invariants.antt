use Rattle.std.proofs.Common.{◌≡◌, map, take}
use Rattle.segment.proofs.by_id.roots_of.Given as goal

abbrev pub invariant-named : goal.invariant-named
invariant-named l = l.roots.items ≡ map (λ one. one.root) (take l.one-index l.named)
