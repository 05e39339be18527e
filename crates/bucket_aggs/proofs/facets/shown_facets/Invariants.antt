use Rattle.std.proofs.Common.{◌≡◌, map, take}
use Rattle.query_ast.specs.Replies.View.{bucket_part}
use Rattle.bucket_aggs.specs.Counts.{facet_of}
use Rattle.bucket_aggs.proofs.facets.shown_facets.Given as goal

abbrev pub invariant-rows : goal.invariant-rows
invariant-rows l = map bucket_part l.buckets.items ≡ map (facet_of l.name l.ups) (take l.at l.rows)
