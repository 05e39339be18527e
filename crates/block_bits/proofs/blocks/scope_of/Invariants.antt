use Rattle.std.proofs.Common.{◌≤◌}
use Rattle.block_bits.specs.Blocks.{scope_at}
use Rattle.block_bits.specs.Seen.{scopes_seen}
use Rattle.block_bits.proofs.blocks.scope_of.Given as goal

abbrev pub invariant-scopes : goal.invariant-scopes
invariant-scopes l = l.scope ≤ scope_at (scopes_seen l.sets) l.doc
