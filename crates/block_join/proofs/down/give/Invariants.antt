use Rattle.std.proofs.Common.{◌≡◌, ◌-◌, take}
use Rattle.block_join.proofs.Filling.{Filling}
use Rattle.block_join.proofs.down.give.Given as goal

abbrev pub invariant-children : goal.invariant-children
invariant-children l = (l.inside.documents ≡ l.children) × (l.hits.len ≡ l.fn.hits.len) × Filling l.score (take l.end l.children) l.fn.hits.done l.hits.done l.start l.inside.from l.end

abbrev pub decreases-children : goal.decreases-children
decreases-children l = l.end - l.inside.from
