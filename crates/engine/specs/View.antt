-- The request that the lines handed to the engine are.
use Rattle.std.specs.Prelude.{true}
use Rattle.line_reader.specs.Request.{Request}
use Rattle.line_reader.specs.View.{first_line_of, source_line_of}
use Rattle.line_reader.specs.declared.line.FirstLine.{FirstLine}
use Rattle.line_reader.specs.declared.line.SourceLine.{SourceLine}

abbrev pub request_of : FirstLine → SourceLine → Request
request_of first second = record { first = first_line_of first; source = source_line_of second; ended = true }
