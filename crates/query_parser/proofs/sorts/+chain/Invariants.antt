use Rattle.std.proofs.Common.{◌+◌, ◌*◌}
use Rattle.tree_json.specs.Value.{value_size, members_size, members_of}
use Rattle.tree_json.specs.View.{view}
use Rattle.query_parser.proofs.sorts.+chain.Given as goal

abbrev pub decreases-chain_at : goal.decreases-chain_at
decreases-chain_at l = 2 * value_size (view l.value.now)

abbrev pub decreases-chain_under : goal.decreases-chain_under
decreases-chain_under l = 2 * members_size (members_of l.nested.now) + 1
