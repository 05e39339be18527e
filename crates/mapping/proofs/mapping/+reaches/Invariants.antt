use Rattle.std.proofs.Common.{◌+◌, ◌*◌}
use Rattle.mapping.proofs.mapping.+reaches.Given as goal

abbrev pub decreases-reaches : goal.decreases-reaches
decreases-reaches l = 2 * l.left

abbrev pub decreases-climbs : goal.decreases-climbs
decreases-climbs l = 2 * l.left + 1
