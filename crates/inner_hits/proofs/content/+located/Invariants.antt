use Rattle.std.proofs.Common.{◌+◌, ◌*◌}
use Rattle.inner_hits.proofs.content.+located.Given as goal

abbrev pub decreases-located : goal.decreases-located
decreases-located l = 2 * l.scope + 1

abbrev pub decreases-located_inside : goal.decreases-located_inside
decreases-located_inside l = 2 * l.scope
