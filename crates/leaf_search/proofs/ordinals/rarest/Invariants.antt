use Rattle.std.proofs.Common.{◌<◌, length}
use Rattle.leaf_search.proofs.ordinals.rarest.Given as goal

abbrev pub invariant-ordinals : goal.invariant-ordinals
invariant-ordinals l = l.best < length l.ordinals
