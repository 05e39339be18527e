use Rattle.std.proofs.Common.{◌≡◌, ◌++◌, ◌+◌, ◌*◌, map, drop}
use Rattle.tree_json.specs.Value.{value_size, members_size, members_of}
use Rattle.tree_json.specs.View.{view, entries}
use Rattle.query_ast.specs.Agg.View.{agg_of}
use Rattle.query_parser.specs.Buckets.{buckets_among}
use Rattle.query_parser.proofs.buckets.+buckets.Given as goal

abbrev pub decreases-buckets_at : goal.decreases-buckets_at
decreases-buckets_at l = 4 * value_size (view l.value.now)

abbrev pub decreases-buckets_among : goal.decreases-buckets_among
decreases-buckets_among l = 4 * members_size (members_of (entries l.members.now)) + 3

abbrev pub decreases-bucket_at : goal.decreases-bucket_at
decreases-bucket_at l = 4 * value_size (view l.value.now)

abbrev pub decreases-buckets_under : goal.decreases-buckets_under
decreases-buckets_under l = 4 * members_size (members_of l.object.now) + 1

abbrev pub decreases-buckets_inside : goal.decreases-buckets_inside
decreases-buckets_inside l = 4 * members_size (members_of l.object.now) + 2

abbrev pub invariant-buckets_among-members : goal.invariant-buckets_among-members
invariant-buckets_among-members l =
    map agg_of l.found.items ++ buckets_among l.mapping l.scope (members_of (entries (drop l.name-index l.members)))
    ≡ buckets_among l.mapping l.scope (members_of (entries l.members))
