use Rattle.std.proofs.Common.{◌≡◌, map, ◌+◌, ◌*◌, drop}
use Rattle.query_ast.specs.Definition.{definition_size, definitions_of, definitions_size}
use Rattle.query_ast.specs.Inner.View.{inner_of}
use Rattle.query_ast.specs.Joins.{some_inner_joins}
use Rattle.query_ast.proofs.joins.+inner_joins.Given as goal

abbrev pub decreases-inner_joins : goal.decreases-inner_joins
decreases-inner_joins l = 2 * definition_size (inner_of l.def.now)

abbrev pub decreases-some_inner : goal.decreases-some_inner
decreases-some_inner l = 2 * definitions_size (definitions_of (map inner_of l.defs.now)) + 1

abbrev pub invariant-some_inner-defs : goal.invariant-some_inner-defs
invariant-some_inner-defs l =
    some_inner_joins (definitions_of (map inner_of (drop l.def-index l.defs))) ≡ some_inner_joins (definitions_of (map inner_of l.defs))
