-- The line that a Rust value is.
use Rattle.line_reader.specs.Request.{ReadLine, in_full, too_long, SourceLine as SourceRead, not_taken, missing, given}
use Rattle.line_reader.specs.declared.line.FirstLine.{FirstLine}
use Rattle.line_reader.specs.declared.line.FirstLine.TheVariants as First
use Rattle.line_reader.specs.declared.line.SourceLine.{SourceLine}
use Rattle.line_reader.specs.declared.line.SourceLine.TheVariants as Second

abbrev pub first_line_of : FirstLine → ReadLine
first_line_of (First.Whole bytes) = in_full bytes.now
first_line_of First.TooLong = too_long

abbrev pub source_line_of : SourceLine → SourceRead
source_line_of Second.NotTaken = not_taken
source_line_of Second.Missing = missing
source_line_of (Second.Whole bytes) = given (in_full bytes.now)
source_line_of Second.TooLong = given too_long
