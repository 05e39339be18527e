use Rattle.std.proofs.Common.{All, take}
use Rattle.segment_merge.proofs.Placed.{Agrees, IsLive}
use Rattle.segment_merge.proofs.agreed.parts_agree.Given as goal

abbrev pub invariant-parts : goal.invariant-parts
invariant-parts l = All Agrees (take l.part-index l.parts) × All IsLive (take l.part-index l.parts)
