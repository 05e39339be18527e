use Rattle.segment_parts.specs.Passes.{PassBefore}
use Rattle.segment_parts.specs.Agree.{IsStored}
use Rattle.segment.proofs.agree.are_stored.Given as goal

abbrev pub invariant-roots : goal.invariant-roots
invariant-roots l = PassBefore IsStored l.sources l.root
