use Rattle.std.proofs.Common.{◌-◌, length}
use Rattle.block_bits.specs.Seen.{scopes_seen}
use Rattle.block_bits.proofs.Nested.{IsEnclosedBelow}
use Rattle.block_bits.proofs.blocks.is_enclosed.Given as goal

abbrev pub invariant-parents : goal.invariant-parents
invariant-parents l = IsEnclosedBelow l.parents (scopes_seen l.sets) l.scope l.outer l.from

abbrev pub decreases-parents : goal.decreases-parents
decreases-parents l = length (scopes_seen l.sets) - l.from
