-- What an `Evaluated` is.
use Rattle.query_ast.specs.Definition.{Definition, definition, definitions_of}
use Rattle.bucket_aggs.specs.declared.once.Evaluated.{Evaluated}
use Rattle.bucket_aggs.specs.declared.once.Known.{Known}

abbrev pub evaluated_of : Evaluated → Definition Known
evaluated_of e = definition e.known (definitions_of e.inner)
