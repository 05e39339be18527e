use Rattle.std.proofs.Common.{◌<◌, take}
use Rattle.std.specs.List.{All}
use Rattle.store_opening.proofs.dead.are_below.Given as goal

abbrev pub invariant-indexes : goal.invariant-indexes
invariant-indexes l = All (λ index. index < l.count) (take l.index-index l.indexes)
