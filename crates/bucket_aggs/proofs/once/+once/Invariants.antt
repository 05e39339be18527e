use Rattle.std.proofs.Common.{◌+◌, ◌*◌, map}
use Rattle.query_ast.specs.Agg.View.{agg_of}
use Rattle.query_ast.specs.Definition.{definition_size, definitions_of, definitions_size}
use Rattle.bucket_aggs.proofs.once.+once.Given as goal

abbrev pub decreases-evaluate : goal.decreases-evaluate
decreases-evaluate l = 3 * definitions_size (definitions_of l.aggs.now) + 2

abbrev pub decreases-add_each : goal.decreases-add_each
decreases-add_each l = 3 * definitions_size (definitions_of (map agg_of l.aggs.now)) + 1

abbrev pub decreases-one : goal.decreases-one
decreases-one l = 3 * definition_size (agg_of l.def.now)
