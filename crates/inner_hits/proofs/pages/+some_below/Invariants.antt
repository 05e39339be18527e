use Rattle.std.proofs.Common.{length}
use Rattle.inner_hits.proofs.pages.+some_below.Given as goal

abbrev pub decreases-some_below : goal.decreases-some_below
decreases-some_below l = length l.definitions.now
