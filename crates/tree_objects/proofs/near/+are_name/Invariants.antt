use Rattle.std.proofs.Common.{length}
use Rattle.tree_objects.proofs.near.+are_name.Given as goal

abbrev pub decreases-are_name : goal.decreases-are_name
decreases-are_name l = length l.name.now
