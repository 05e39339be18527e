use Rattle.std.proofs.Common.{◌<◌, ◌-◌, ◌^◌, take, Contains}
use Rattle.std.specs.List.{All}
use Rattle.segment_builder.proofs.scopes.scope_count.Given as goal

abbrev pub invariant-scopes : goal.invariant-scopes
invariant-scopes l =
    All (λ scope. scope < l.count) (take l.scope-index l.scopes)
    × (0 < l.count → Contains l.scopes (l.count - 1))
    × (l.count < 2 ^ 32)
