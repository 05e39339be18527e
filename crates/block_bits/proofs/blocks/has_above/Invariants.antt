use Rattle.block_bits.specs.Seen.{scopes_seen}
use Rattle.block_bits.proofs.Nested.{IsPassed}
use Rattle.block_bits.proofs.blocks.has_above.Given as goal

abbrev pub invariant-scopes : goal.invariant-scopes
invariant-scopes l = IsPassed l.parents (scopes_seen l.sets) l.scope l.from l.end l.inner

abbrev pub decreases-scopes : goal.decreases-scopes
decreases-scopes l = l.inner
