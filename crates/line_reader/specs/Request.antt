-- Requests: a line, or an action line together with the line that has its source (Elasticsearch reference, bulk API).
use Rattle.std.specs.Prelude.{ℕ, nat_eq, Bool, false, ◌||◌, ◌&&◌, List, [], ◌∷◌, length, drop, codes, filter, not, if◌then◌else◌}
use Rattle.std.specs.List.{starts_with}
use Rattle.line_reader.specs.Line.{Line, lines_of, kept, is_long, is_blank, past_blanks}

-- a line as it was read: its bytes, or that it is too long
pub data ReadLine : Type 0 where
  in_full : List ℕ → ReadLine
  too_long : ReadLine

-- the source line of a request: it takes none; the input ended before it; or the line
pub data SourceLine : Type 0 where
  not_taken : SourceLine
  missing : SourceLine
  given : ReadLine → SourceLine

-- a request, and whether the last line that it asks for has its newline
pub record Request : Type 0 where
  pub first : ReadLine
  pub source : SourceLine
  pub ended : Bool

abbrev pub read_of : Line → ReadLine
read_of line = if is_long line then too_long else in_full line.bytes

-- whether bytes begin with a name and then, behind blanks, a colon
abbrev pub begins_with : List ℕ → List ℕ → Bool
begins_with name bytes = starts_with nat_eq bytes name && starts_with nat_eq (past_blanks (drop (length name) bytes)) (codes ":")

-- whether bytes begin with the name of a command that has a source line, spelled just so
abbrev pub names_action : List ℕ → Bool
names_action bytes = begins_with (codes "\"index\"") bytes || (begins_with (codes "\"create\"") bytes || begins_with (codes "\"update\"") bytes)

abbrev pub opens_action : List ℕ → Bool
opens_action bytes = starts_with nat_eq bytes (codes "{") && names_action (past_blanks (drop 1 bytes))

-- whether a line takes the next one as its source line: `{`, one of the three names and `:`, with blanks between
unfoldable pub takes_source : List ℕ → Bool
takes_source bytes = opens_action (past_blanks bytes)

abbrev pub alone : Line → Request
alone line = record { first = read_of line; source = not_taken; ended = line.ended }

abbrev pub with_source : Line → Line → Request
with_source line next = record { first = read_of line; source = given (read_of next); ended = next.ended }

abbrev pub without_source : Line → Request
without_source line = record { first = read_of line; source = missing; ended = false }

-- lines without blank ones, grouped into requests
abbrev mutual
  pub grouped : List Line → List Request
  grouped [] = []
  grouped (line ∷ lines) = if takes_source (kept line) then grouped_with line lines else alone line ∷ grouped lines

  pub grouped_with : Line → List Line → List Request
  grouped_with line [] = without_source line ∷ []
  grouped_with line (next ∷ lines) = with_source line next ∷ grouped lines

-- the requests of an input
unfoldable pub requests : List ℕ → List Request
requests bytes = grouped (filter (λ line. not (is_blank line)) (lines_of bytes))

-- those alone whose last line has its newline: the requests of an input that may go on
unfoldable pub whole_requests : List ℕ → List Request
whole_requests bytes = filter (λ (request : Request). request.ended) (requests bytes)
