use Rattle.std.proofs.Common.{◌≡◌, ℕ, ◌*◌, ◌<◌}
use Rattle.block_bits.specs.OneScope.{set_count}
use Rattle.block_bits.proofs.partition.are_apart.Given as goal

abbrev pub invariant-places : goal.invariant-places
invariant-places l = (doc : ℕ) → doc < 64 * l.place → doc < l.len → set_count l.sets doc ≡ 1
