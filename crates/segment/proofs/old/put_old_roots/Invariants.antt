use Rattle.segment.specs.Renewals.{ArePut}
use Rattle.segment.proofs.old.put_old_roots.Given as goal

abbrev pub invariant-roots : goal.invariant-roots
invariant-roots l = ArePut l.bytes l.rest l.fn.into.items l.into.items l.counter
