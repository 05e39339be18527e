use Rattle.std.proofs.Common.{ℕ, ◌<◌}
use Rattle.block_bits.specs.Seen.{IsEnclosed, scopes_seen}
use Rattle.block_bits.proofs.blocks.are_blocks.Given as goal

abbrev pub invariant-scopes : goal.invariant-scopes
invariant-scopes l = (scope : ℕ) → scope < l.scope → IsEnclosed l.parents (scopes_seen l.sets) scope
