use Rattle.std.proofs.Common.{sym}
use Rattle.std.proofs.lemmas.Bool.{false≢true}
use Rattle.block_bits.specs.Seen.{scopes_seen}
use Rattle.block_bits.proofs.Scoped.{bits_long, bits_from_partition, partition_from_bits, seen_small}
use Rattle.block_bits.proofs.partition.give_one_scope.Goals as goal

pub returns-then-count-sets-clause-scopes : goal.returns-then-count-sets-clause-scopes
returns-then-count-sets-clause-scopes c =
    (λ never. absurd (false≢true never), λ some. absurd (c.if-count-sets.true (sym (bits_long _ _ _ some.1))))

pub returns-clause-scopes : goal.returns-clause-scopes
returns-clause-scopes c = (
  λ yes. (scopes_seen c.args.sets.now, rw c.if-count-sets.false (bits_from_partition c.args.sets.now (c.is_partition.ensures.partition.0 yes))),
  λ some. c.is_partition.ensures.partition.1 (partition_from_bits c.args.sets.now some.0 (rw c.if-count-sets.false at some.1)),
)

pub returns-clause-numbered : goal.returns-clause-numbered
returns-clause-numbered c = λ yes. seen_small c.args.sets.now c.is_partition.ensures.numbered
