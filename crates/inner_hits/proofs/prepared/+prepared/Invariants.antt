use Rattle.std.proofs.Common.{◌+◌, ◌*◌, map}
use Rattle.query_ast.specs.Definition.{definition_size, definitions_of, definitions_size}
use Rattle.query_ast.specs.Inner.View.{inner_of}
use Rattle.inner_hits.proofs.prepared.+prepared.Given as goal

abbrev pub decreases-each : goal.decreases-each
decreases-each g l = 4 * definitions_size (definitions_of l.definitions.now) + 3

abbrev pub decreases-add_each : goal.decreases-add_each
decreases-add_each g l = 4 * definitions_size (definitions_of (map inner_of l.definitions.now)) + 2

abbrev pub decreases-one : goal.decreases-one
decreases-one g l = 4 * definition_size (inner_of l.def.now) + 1

abbrev pub decreases-joining : goal.decreases-joining
decreases-joining g l = 4 * definition_size (inner_of l.def.now)
