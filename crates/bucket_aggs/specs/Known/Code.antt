-- A code for what was evaluated.
use Rattle.std.specs.Coded.{Coded}
use Rattle.query_ast.specs.Definition.{Definition, definition_code}
use Rattle.bucket_aggs.specs.contracts.once.Known as known_row
use Rattle.bucket_aggs.specs.declared.once.Known.{Known}
use Rattle.bucket_aggs.specs.declared.once.Known.TheVariants.{Nothing}

abbrev pub evaluated_code : Coded (Definition Known)
evaluated_code = definition_code Nothing known_row.the_row.coded
