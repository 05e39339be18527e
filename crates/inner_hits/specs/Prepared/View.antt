-- What a `PreparedDef` is.
use Rattle.query_ast.specs.Definition.{Definition, definition, definitions_of}
use Rattle.inner_hits.specs.Answers.{Answer}
use Rattle.inner_hits.specs.declared.prepared.PreparedDef.{PreparedDef}

abbrev pub prepared_of : PreparedDef → Definition Answer
prepared_of p = definition (record { scores = p.hits; filters = p.filters.items; kin = p.kin.items }) (definitions_of p.owned)
