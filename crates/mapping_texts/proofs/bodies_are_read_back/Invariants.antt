use Rattle.mapping_texts.proofs.Texts.{AreSoundTo}
use Rattle.mapping_texts.proofs.bodies_are_read_back.Given as goal

abbrev pub invariant-bodies : goal.invariant-bodies
invariant-bodies l = AreSoundTo l.index l.mapping.bodies
