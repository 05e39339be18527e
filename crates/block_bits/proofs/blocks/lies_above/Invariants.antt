use Rattle.std.proofs.Common.{◌≡◌, ◌<◌, length}
use Rattle.block_bits.specs.Scopes.{is_above}
use Rattle.block_bits.proofs.blocks.lies_above.Given as goal

abbrev pub invariant-scopes : goal.invariant-scopes
invariant-scopes l = record {
  within : l.inner < length l.parents;
  same : is_above l.parents l.upper l.lower ≡ is_above l.parents l.upper l.inner;
}

abbrev pub decreases-scopes : goal.decreases-scopes
decreases-scopes l = l.inner
