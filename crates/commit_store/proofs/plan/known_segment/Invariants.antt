use Rattle.std.proofs.Common.{◌≡◌, drop}
use Rattle.commit_store.specs.Preparing.{known_as}
use Rattle.commit_store.proofs.plan.known_segment.Given as goal

abbrev pub invariant-loop-segment : goal.invariant-loop-segment
invariant-loop-segment l = known_as (drop l.segment-index l.known) l.id ≡ known_as l.known l.id
