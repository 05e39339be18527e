use Rattle.std.proofs.Common.{◌≡◌, map, take}
use Rattle.composite_aggs.proofs.compare.owned_key.Given as goal

abbrev pub invariant-loop-value : goal.invariant-loop-value
invariant-loop-value l = l.values.items ≡ map (λ v. v.now) (take l.value-index l.key)
