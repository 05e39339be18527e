-- What a reader has given since its session began: `start` are the bytes that the source had then, and `left` those that
-- it has now, where it tells them; `most` is how many bytes the session may read.
use Rattle.std.specs.Prelude.{◌≡◌, ◌<◌, ◌≤◌, ℕ, ◌+◌, ◌⊎◌, true, false, IsTrue, List, [], ◌∷◌, ◌++◌, length, Option, Some, None, Result, Ok, Err}
use Rattle.std.specs.List.{AllByRecursion}
use Rattle.std.specs.Io.KnownBytes.{Consumes, IsAtEnd}
use Rattle.io_edges.specs.Faults.{Rose}
use Rattle.line_reader.specs.Request.{Request, requests, whole_requests}
use Rattle.line_reader.specs.Seen.{InputState, longest_piece}
use Rattle.line_reader.specs.declared.stop.Stop.{Stop}
use Rattle.line_reader.specs.declared.stop.Stop.TheVariants.{End, Limit, Fault}

-- why reading stopped, where it did
abbrev pub stop_of : {T : Type 0} → Result T Stop → Option Stop
stop_of {T} (Ok x) = None
stop_of {T} (Err stop) = Some stop

-- The source was read to its end: these are the requests of what it gave.
pub record ReadsAll (most : ℕ) (start left : Option (List ℕ)) (given : List Request) : Type 0 where
  pub input : List ℕ
  pub read : Consumes start left input
  pub ended : IsAtEnd left
  pub within : length input ≤ most
  pub asked : requests input ≡ given

-- The source failed: these are the requests that had ended before.
pub record ReadsWhole (most : ℕ) (start left : Option (List ℕ)) (given : List Request) : Type 0 where
  pub input : List ℕ
  pub read : Consumes start left input
  pub within : length input ≤ most
  pub asked : whole_requests input ≡ given

-- The source gave one byte more than a session may have: these are the requests that ended within the limit.
pub record ReadsToLimit (most : ℕ) (start left : Option (List ℕ)) (given : List Request) : Type 0 where
  pub input : List ℕ
  pub more : ℕ
  pub read : Consumes start left (input ++ more ∷ [])
  pub within : length input ≡ most
  pub asked : whole_requests input ≡ given

-- `prefix` is the list or a prefix of it
abbrev pub IsPrefix : {X : Type 0} → List X → List X → Type 0
IsPrefix {X} prefix all = (rest : List X) × (all ≡ prefix ++ rest)

-- These are the first requests of what the source gave. They are those of the bytes `used`, and less than a piece was
-- read beyond these.
pub record ReadsFirst (most : ℕ) (start left : Option (List ℕ)) (given : List Request) : Type 0 where
  pub used : List ℕ
  pub beyond : List ℕ
  pub read : Consumes start left (used ++ beyond)
  pub within : length (used ++ beyond) ≤ most
  pub asked : requests used ≡ given
  pub near : length beyond < longest_piece
  pub first : IsPrefix given (whole_requests (used ++ beyond)) ⊎ (IsAtEnd left × (beyond ≡ []))

-- The reader has given these requests: they are those of the bytes `used`, which `read` begins with, whatever may follow.
pub record HasGiven (most : ℕ) (start left : Option (List ℕ)) (input : InputState) (given : List Request) : Type 0 where
  pub read : List ℕ
  pub used : List ℕ
  pub consumed : Consumes start left read
  pub parts : read ≡ used ++ input.unread
  pub allowance : input.allowance + length read ≡ most
  pub asks : (after : List ℕ) → (IsTrue input.ended → after ≡ []) → requests (used ++ after) ≡ given ++ requests after
  pub whole : input.ended ≡ false → AllByRecursion (λ (request : Request). request.ended ≡ true) given

-- After those given so far: the next request, or why there is none.
abbrev pub Gives : Option Stop → ℕ → Option (List ℕ) → Option (List ℕ) → InputState → List Request → Request → Type 0
Gives None most start left input given request =
    HasGiven most start left input (given ++ request ∷ []) × ReadsFirst most start left (given ++ request ∷ [])
Gives (Some End) most start left input given request = ReadsAll most start left given
Gives (Some Limit) most start left input given request = ReadsToLimit most start left given
Gives (Some Fault) most start left input given request = ReadsWhole most start left given

-- The source's count of faults rose where reading failed, and stayed where it didn't.
abbrev pub IsStopCaused : Option Stop → ℕ → ℕ → Type 0
IsStopCaused None old new = new ≡ old
IsStopCaused (Some End) old new = new ≡ old
IsStopCaused (Some Limit) old new = new ≡ old
IsStopCaused (Some Fault) old new = Rose old new
