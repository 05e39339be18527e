use Rattle.std.proofs.Common.{◌≡◌, map, ◌+◌, ◌*◌, drop}
use Rattle.query_ast.specs.Definition.{definition_size, definitions_of, definitions_size}
use Rattle.query_ast.specs.Agg.View.{agg_of}
use Rattle.query_ast.specs.Joins.{some_agg_joins}
use Rattle.query_ast.proofs.joins.+agg_joins.Given as goal

abbrev pub decreases-agg_joins : goal.decreases-agg_joins
decreases-agg_joins l = 2 * definition_size (agg_of l.def.now)

abbrev pub decreases-some_agg : goal.decreases-some_agg
decreases-some_agg l = 2 * definitions_size (definitions_of (map agg_of l.defs.now)) + 1

abbrev pub invariant-some_agg-defs : goal.invariant-some_agg-defs
invariant-some_agg-defs l =
    some_agg_joins (definitions_of (map agg_of (drop l.def-index l.defs))) ≡ some_agg_joins (definitions_of (map agg_of l.defs))
