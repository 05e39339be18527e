use Rattle.std.proofs.Common.{◌+◌, ◌*◌}
use Rattle.tree_json.specs.Value.{value_size, members_size, members_of}
use Rattle.tree_json.specs.View.{view}
use Rattle.flattener.proofs.gather.+alone.Given as goal

abbrev pub decreases-alone : goal.decreases-alone
decreases-alone l = 2 * value_size (view l.value.now)

abbrev pub decreases-alone_member : goal.decreases-alone_member
decreases-alone_member l = 2 * members_size (members_of l.within.now) + 1
