-- What was read of a source and used of it.
use Rattle.std.specs.Prelude.{◌≡◌, ◌<◌, ◌==◌, ℕ, ◌+◌, Bool, false, not, IsTrue, List, [], ◌∷◌, ◌++◌, length, take, drop, filter, Option, Some, None, Result, Ok, Err, if◌then◌else◌}
use Rattle.std.specs.List.{list_any}
use Rattle.std.specs.Io.KnownBytes.{Consumes}
use Rattle.line_reader.specs.Line.{Line, newline, lines_of, is_blank}
use Rattle.line_reader.specs.Request.{Request, requests, whole_requests}
use Rattle.line_reader.specs.Seen.{InputState}
use Rattle.line_reader.specs.Held.{LineState, Holds, request_in}
use Rattle.line_reader.specs.declared.reader.SourceKind.{SourceKind}
use Rattle.line_reader.specs.declared.reader.SourceKind.TheVariants.{NotTaken, Missing, Read}
use Rattle.line_reader.specs.declared.stop.Stop.{Stop}
use Rattle.line_reader.specs.declared.stop.Stop.TheVariants.{End, Limit, Fault}

-- `gave` is all that the source gave: the bytes read, and past the limit one byte more
abbrev pub Stands : Option Stop → InputState → List ℕ → List ℕ → Type 0
Stands None input read gave = gave ≡ read
Stands (Some End) input read gave = (gave ≡ read) × IsTrue input.ended
Stands (Some Limit) input read gave = ((more : ℕ) × (gave ≡ read ++ more ∷ [])) × (input.unread ≡ []) × (input.allowance ≡ 0) × (input.ended ≡ false)
Stands (Some Fault) input read gave = (gave ≡ read) × (input.unread ≡ []) × (input.ended ≡ false)

-- What was read and used between two moments: the bytes used and those unread now are those that were unread before and
-- those read. Of the bytes used `Is` is said.
pub record Reads (stop : Option Stop) (old new : InputState) (left left' : Option (List ℕ)) (Is : List ℕ → Type 0) : Type 0 where
  pub used : List ℕ
  pub read : List ℕ
  pub gave : List ℕ
  pub consumed : Consumes left left' gave
  pub parts : old.unread ++ read ≡ used ++ new.unread
  pub allowance : new.allowance + length read ≡ old.allowance
  pub later : IsTrue old.ended → (read ≡ []) × IsTrue new.ended
  pub stands : Stands stop new read gave
  pub is : Is used

-- what may follow: nothing where the input has ended
abbrev pub MayFollow : Bool → List ℕ → Type 0
MayFollow ended after = IsTrue ended → after ≡ []

-- ## a line

abbrev pub has_newline : List ℕ → Bool
has_newline bytes = list_any (λ byte. byte == newline) bytes

-- the first newline stands at this place
pub record IsCutAt (at : ℕ) (bytes : List ℕ) : Type 0 where
  pub within : at < length bytes
  pub parts : bytes ≡ take at bytes ++ newline ∷ drop (at + 1) bytes
  pub plain : has_newline (take at bytes) ≡ false

-- how a line begins, which a buffer holds
pub record BeginsLine (line : LineState) (used : List ℕ) : Type 0 where
  pub plain : has_newline used ≡ false
  pub holds : Holds used line

-- a line with its newline, or where the input has ended one without
pub record IsLine (ended : Bool) (line : LineState) (used : List ℕ) : Type 0 where
  pub bytes : List ℕ
  pub begins : BeginsLine line bytes
  pub ends : used ≡ bytes ++ (if ended then [] else newline ∷ [])
  pub some : 0 < length used

abbrev pub LineOf : Option Stop → Bool → LineState → List ℕ → Type 0
LineOf None ended line used = IsLine ended line used
LineOf (Some End) ended line used = used ≡ []
LineOf (Some Limit) ended line used = has_newline used ≡ false
LineOf (Some Fault) ended line used = has_newline used ≡ false

-- ## a line that isn't blank

-- the lines of an input but for blank ones
abbrev pub filled_lines : List ℕ → List Line
filled_lines bytes = filter (λ line. not (is_blank line)) (lines_of bytes)

-- whatever may follow, the bytes are no line but blank ones
abbrev pub IsQuiet : Bool → List ℕ → Type 0
IsQuiet ended used = (after : List ℕ) → MayFollow ended after → filled_lines (used ++ after) ≡ filled_lines after

-- whatever may follow, the bytes are one line that isn't blank
pub record IsFilled (ended : Bool) (line : LineState) (used : List ℕ) : Type 0 where
  pub bytes : List ℕ
  pub filled : (after : List ℕ) → MayFollow ended after → filled_lines (used ++ after) ≡ record { bytes = bytes; ended = not ended } ∷ filled_lines after
  pub holds : Holds bytes line
  pub some : 0 < length used

-- no line among these has its newline
abbrev pub IsUnfinished : List ℕ → Type 0
IsUnfinished used = filter (λ (line : Line). line.ended) (filled_lines used) ≡ []

abbrev pub FilledOf : Option Stop → Bool → LineState → List ℕ → Type 0
FilledOf None ended line used = IsFilled ended line used
FilledOf (Some End) ended line used = filled_lines used ≡ []
FilledOf (Some Limit) ended line used = IsUnfinished used
FilledOf (Some Fault) ended line used = IsUnfinished used

-- ## a request

-- whatever may follow, the bytes are this request
pub record IsRequest (ended : Bool) (request : Request) (used : List ℕ) : Type 0 where
  pub asks : (after : List ℕ) → MayFollow ended after → requests (used ++ after) ≡ request ∷ requests after
  pub some : 0 < length used

abbrev pub RequestOf : Result SourceKind Stop → Bool → LineState → LineState → List ℕ → Type 0
RequestOf (Ok kind) ended first second used = IsRequest ended (request_in kind first second ended) used
RequestOf (Err End) ended first second used = requests used ≡ []
RequestOf (Err Limit) ended first second used = whole_requests used ≡ []
RequestOf (Err Fault) ended first second used = whole_requests used ≡ []

-- the line behind one that takes it as its source line: one that isn't blank, or none
abbrev pub SourceOf : Result SourceKind Stop → Bool → LineState → List ℕ → Type 0
SourceOf (Ok NotTaken) ended line used = ⊥
SourceOf (Ok Missing) ended line used = (filled_lines used ≡ []) × IsTrue ended
SourceOf (Ok Read) ended line used = IsFilled ended line used
SourceOf (Err End) ended line used = ⊥
SourceOf (Err Limit) ended line used = IsUnfinished used
SourceOf (Err Fault) ended line used = IsUnfinished used
