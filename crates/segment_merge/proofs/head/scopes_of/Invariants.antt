use Rattle.std.proofs.Common.{◌≡◌, ◌+◌, ◌<◌, ◌^◌, ◌++◌, drop, length}
use Rattle.std.specs.List.{All}
use Rattle.segment_merge.specs.Numbering.{live_in}
use Rattle.segment_merge.specs.Scoped.{scopes_in}
use Rattle.segment_merge.proofs.head.scopes_of.Given as goal

abbrev pub invariant-parts : goal.invariant-parts
invariant-parts l =
    (l.scopes.items ++ scopes_in (drop l.part-index l.parts) ≡ scopes_in l.parts)
    × All (λ scope. scope + 1 < 2 ^ 32) l.scopes.items
    × (length l.scopes.items + live_in (drop l.part-index l.parts) ≡ live_in l.parts)
