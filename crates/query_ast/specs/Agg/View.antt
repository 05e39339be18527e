-- The definition that an `AggDef` is.
use Rattle.query_ast.specs.Definition.{Definition, definition, definitions_of}
use Rattle.query_ast.specs.Agg.{Agg}
use Rattle.query_ast.specs.declared.agg.AggDef.{AggDef}

abbrev pub agg_of : AggDef → Definition Agg
agg_of def = definition (record { name = def.name; form = def.form }) (definitions_of def.inner)
