use Rattle.segment.specs.Live.{IsLiveOver}
use Rattle.segment.proofs.Deaths.{AreDead}
use Rattle.segment.proofs.live_bits.LiveBits.over.Given as goal

abbrev pub invariant-dead : goal.invariant-dead
invariant-dead l = IsLiveOver l.segment l.live × AreDead l.live.roots l.dead l.root-index
