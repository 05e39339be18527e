-- The lines that the buffers of a reader hold.
use Rattle.std.specs.Prelude.{◌≡◌, ℕ, Bool, nat_lt, List, length, take, not, if◌then◌else◌}
use Rattle.line_reader.specs.Line.{longest_line}
use Rattle.line_reader.specs.Request.{ReadLine, in_full, too_long, SourceLine, not_taken, missing, given, Request}
use Rattle.line_reader.specs.declared.reader.SourceKind.{SourceKind}
use Rattle.line_reader.specs.declared.reader.SourceKind.TheVariants.{NotTaken, Missing, Read}

-- a line as far as it was read: how it begins, and whether it is too long
pub record LineState : Type 0 where
  pub kept : List ℕ
  pub long : Bool

-- the buffer has how a line begins, and knows whether the line is too long
pub record Holds (bytes : List ℕ) (line : LineState) : Type 0 where
  pub kept : line.kept ≡ take longest_line bytes
  pub long : line.long ≡ nat_lt longest_line (length bytes)

abbrev pub line_in : LineState → ReadLine
line_in line = if line.long then too_long else in_full line.kept

abbrev pub source_in : SourceKind → LineState → SourceLine
source_in NotTaken line = not_taken
source_in Missing line = missing
source_in Read line = given (line_in line)

-- the request in two buffers; `ended` says that the input has ended with it
abbrev pub request_in : SourceKind → LineState → LineState → Bool → Request
request_in kind first second ended = record { first = line_in first; source = source_in kind second; ended = not ended }
