-- The definition that an `InnerDef` is.
use Rattle.query_ast.specs.Definition.{Definition, definition, definitions_of}
use Rattle.query_ast.specs.Inner.{Inner}
use Rattle.query_ast.specs.declared.inner.InnerDef.{InnerDef}

abbrev pub inner_of : InnerDef → Definition Inner
inner_of def =
    definition (record { name = def.name; over = def.over; query = def.query; from = def.from; size = def.size; sort = def.sort; source = def.source })
    (definitions_of def.owned)
