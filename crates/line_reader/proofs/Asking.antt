-- Requests, found in bytes whose lines are known.
use Rattle.std.proofs.Common.{◌≡◌, ℕ, ◌<◌, nat_lt, Bool, true, false, not, IsTrue, cond, List, [], ◌∷◌, ◌++◌, length, take, filter, Option, Some, None, Result, Ok, Err, refl, sym, ap, ◌∙◌, append_assoc, arith, length-append}
use Rattle.std.proofs.lemmas.Bool.Decides.{nat_tests}
use Rattle.std.proofs.lemmas.List.{take_all, append-nil}
use Rattle.line_reader.specs.Line.{Line, longest_line, kept}
use Rattle.line_reader.specs.Request.{ReadLine, in_full, too_long, SourceLine, not_taken, missing, given, Request, takes_source, read_of, alone, with_source, grouped, grouped_with, requests, whole_requests}
use Rattle.line_reader.specs.Seen.{InputState, KnowsEnd}
use Rattle.line_reader.specs.Held.{LineState, Holds, line_in, request_in}
use Rattle.line_reader.specs.Reading.{Reads, MayFollow, filled_lines, IsFilled, IsUnfinished, FilledOf, IsRequest, RequestOf, SourceOf}
use Rattle.line_reader.specs.Given.{stop_of}
use Rattle.line_reader.specs.declared.reader.SourceKind.{SourceKind}
use Rattle.line_reader.specs.declared.reader.SourceKind.TheVariants.{NotTaken, Missing, Read}
use Rattle.line_reader.specs.declared.stop.Stop.{Stop}
use Rattle.line_reader.specs.declared.stop.Stop.TheVariants.{End, Limit, Fault}
use Rattle.line_reader.proofs.Progress.{reads_both, reads_as, reads_over}
use Rattle.line_reader.proofs.Filling.{line_at}

-- what a buffer holds is the line as it is read
full_kept : (most : ℕ) (bytes : List ℕ) → cond (nat_lt most (length bytes)) too_long (in_full bytes) ≡ cond (nat_lt most (length bytes)) too_long (in_full (take most bytes))
full_kept most bytes = by_length (nat_lt most (length bytes)) refl
  where
    by_length : (long : Bool) → nat_lt most (length bytes) ≡ long → cond long too_long (in_full bytes) ≡ cond long too_long (in_full (take most bytes))
    by_length true is = refl
    by_length false is = ap in_full (sym (take_all most bytes (grind (arith, nat_tests))))

read_in : (bytes : List ℕ) (ended : Bool) (line : LineState) → Holds bytes line → read_of (line_at ended bytes) ≡ line_in line
read_in bytes ended line holds =
    full_kept longest_line bytes ∙ sym (ap (λ long. cond long too_long (in_full line.kept)) holds.long ∙ ap (λ front. cond (nat_lt longest_line (length bytes)) too_long (in_full front)) holds.kept)

requests_filled : (bytes : List ℕ) → requests bytes ≡ grouped (filled_lines bytes)
unfolding requests
requests_filled bytes = refl

whole_is : (bytes : List ℕ) → whole_requests bytes ≡ filter (λ (request : Request). request.ended) (requests bytes)
unfolding whole_requests
whole_is bytes = refl

grouped_alone : (line : Line) (lines : List Line) → takes_source (kept line) ≡ false → grouped (line ∷ lines) ≡ alone line ∷ grouped lines
grouped_alone line lines none = rw none refl

grouped_taking : (line : Line) (lines : List Line) → takes_source (kept line) ≡ true → grouped (line ∷ lines) ≡ grouped_with line lines
grouped_taking line lines some = rw some refl

-- whether the kept front of a line takes a source, as the buffer shows it
taking : (bytes : List ℕ) (ended takes : Bool) (line : LineState) → Holds bytes line → takes_source line.kept ≡ takes → takes_source (kept (line_at ended bytes)) ≡ takes
taking bytes ended takes line holds is = ap takes_source (sym holds.kept) ∙ is

-- the request of these parts
abbrev pub asking : ReadLine → SourceLine → Bool → Request
asking first source ended = record { first = first; source = source; ended = ended }

some_used : (first second : List ℕ) → 0 < length first → 0 < length (first ++ second)
some_used first second some = omega (arith, length-append first second)

-- ## a request

pub asks_alone : (old new : InputState) (left left' : Option (List ℕ)) (first second : LineState) → Reads None old new left left' (FilledOf None new.ended first) → takes_source first.kept ≡ false →
    Reads None old new left left' (RequestOf (Ok NotTaken) new.ended first second)
asks_alone old new left left' first second reads none =
    reads_as None None old new left left' (IsFilled new.ended first) (RequestOf (Ok NotTaken) new.ended first second) reads reads.stands (record {
      asks = λ after may.
          requests_filled (reads.used ++ after)
          ∙ (ap grouped (reads.is.filled after may)
          ∙ (grouped_alone (line_at new.ended reads.is.bytes) (filled_lines after) (taking reads.is.bytes new.ended false first reads.is.holds none)
          ∙ (ap (λ (line : ReadLine). asking line not_taken (not new.ended) ∷ grouped (filled_lines after)) (read_in reads.is.bytes new.ended first reads.is.holds)
          ∙ ap (λ (rest : List Request). asking (line_in first) not_taken (not new.ended) ∷ rest) (sym (requests_filled after)))));
      some = reads.is.some;
    })

-- the bytes behind the first line may follow it
follows : (ended later : Bool) (then after : List ℕ) → (IsTrue ended → IsTrue later) → (IsTrue ended → then ≡ []) → MayFollow later after → MayFollow ended (then ++ after)
follows ended later then after stays none may was = ap (λ bytes. bytes ++ after) (none was) ∙ may (stays was)

-- the lines of a first line's bytes and others
both_filled : (ended later : Bool) (line : LineState) (used then after : List ℕ) → (is : IsFilled ended line used) → (IsTrue ended → IsTrue later) → (IsTrue ended → then ≡ []) → MayFollow later after →
    filled_lines ((used ++ then) ++ after) ≡ line_at ended is.bytes ∷ filled_lines (then ++ after)
both_filled ended later line used then after is stays none may =
    ap filled_lines (append_assoc used then after) ∙ is.filled (then ++ after) (follows ended later then after stays none may)

-- the requests of a first line that takes a source, and other lines
both_grouped : (ended : Bool) (line : LineState) (bytes : List ℕ) (used lines_bytes : List ℕ) (lines : List Line) → Holds bytes line → takes_source line.kept ≡ true →
    filled_lines used ≡ line_at ended bytes ∷ lines → requests used ≡ grouped_with (line_at ended bytes) lines
both_grouped ended line bytes used lines_bytes lines holds some is =
    requests_filled used ∙ (ap grouped is ∙ grouped_taking (line_at ended bytes) lines (taking bytes ended true line holds some))

asks_read : (ended later : Bool) (first second : LineState) (used then : List ℕ) → (one : IsFilled ended first used) → (two : IsFilled later second then) → takes_source first.kept ≡ true →
    (IsTrue ended → IsTrue later) → (IsTrue ended → then ≡ []) → IsRequest later (request_in Read first second later) (used ++ then)
asks_read ended later first second used then one two some stays none = record {
  asks = λ after may.
      both_grouped ended first one.bytes ((used ++ then) ++ after) [] (line_at later two.bytes ∷ filled_lines after) one.holds some
      (both_filled ended later first used then after one stays none may ∙ ap (λ (lines : List Line). line_at ended one.bytes ∷ lines) (two.filled after may))
      ∙ (ap (λ (line : ReadLine). asking line (given (read_of (line_at later two.bytes))) (not later) ∷ grouped (filled_lines after)) (read_in one.bytes ended first one.holds)
      ∙ (ap (λ (line : ReadLine). asking (line_in first) (given line) (not later) ∷ grouped (filled_lines after)) (read_in two.bytes later second two.holds)
      ∙ ap (λ (rest : List Request). asking (line_in first) (given (line_in second)) (not later) ∷ rest) (sym (requests_filled after))));
  some = some_used used then one.some;
}

asks_missing : (ended later : Bool) (first second : LineState) (used then : List ℕ) → (one : IsFilled ended first used) → filled_lines then ≡ [] → IsTrue later → takes_source first.kept ≡ true →
    (IsTrue ended → IsTrue later) → (IsTrue ended → then ≡ []) → IsRequest later (request_in Missing first second later) (used ++ then)
asks_missing ended later first second used then one quiet over some stays none = record {
  asks = λ after may.
      let nothing : after ≡ [] = may over in
      let last : filled_lines (then ++ after) ≡ [] = ap (λ (bytes : List ℕ). filled_lines (then ++ bytes)) nothing ∙ (ap filled_lines (append-nil then) ∙ quiet) in
      both_grouped ended first one.bytes ((used ++ then) ++ after) [] [] one.holds some
      (both_filled ended later first used then after one stays none may ∙ ap (λ (lines : List Line). line_at ended one.bytes ∷ lines) last)
      ∙ (ap (λ (line : ReadLine). asking line missing false ∷ []) (read_in one.bytes ended first one.holds)
      ∙ (ap (λ (was : Bool). asking (line_in first) missing (not was) ∷ []) (sym over)
      ∙ ap (λ (rest : List Request). asking (line_in first) missing (not later) ∷ rest) (sym (requests_filled after ∙ ap (λ (bytes : List ℕ). grouped (filled_lines bytes)) nothing))));
  some = some_used used then one.some;
}

-- ## what is no whole request yet

-- where no line of a list has ended, its first one has not and none of the others
none_ended : (line : Line) (lines : List Line) → filter (λ (it : Line). it.ended) (line ∷ lines) ≡ [] → (line.ended ≡ false) × (filter (λ (it : Line). it.ended) lines ≡ [])
none_ended line lines none = by_ended line.ended refl
  where
    by_ended : (ended : Bool) → line.ended ≡ ended → (line.ended ≡ false) × (filter (λ (it : Line). it.ended) lines ≡ [])
    by_ended true is =
        let kept_line : filter (λ (it : Line). it.ended) (line ∷ lines) ≡ line ∷ filter (λ (it : Line). it.ended) lines = rw is refl in
        let wrong : line ∷ filter (λ (it : Line). it.ended) lines ≡ [] = sym kept_line ∙ none in cc
    by_ended false is =
        let left : filter (λ (it : Line). it.ended) (line ∷ lines) ≡ filter (λ (it : Line). it.ended) lines = rw is refl in
        (is, sym left ∙ none)

-- a request that has not ended is no whole one
left_request : (request : Request) (more : List Request) → request.ended ≡ false → filter (λ (it : Request). it.ended) (request ∷ more) ≡ filter (λ (it : Request). it.ended) more
left_request request more open_still = rw open_still refl

-- the cases of a test, each with its equation
split : {A : Type 0} → (test : Bool) → (test ≡ true → A) → (test ≡ false → A) → A
split true is_so isn_t = is_so refl
split false is_so isn_t = isn_t refl

mutual
  unfinished_grouped : (lines : List Line) → filter (λ (it : Line). it.ended) lines ≡ [] → filter (λ (it : Request). it.ended) (grouped lines) ≡ []
  unfinished_grouped [] none = refl
  unfinished_grouped (line ∷ lines) none =
      split (takes_source (kept line))
      (λ is. ap (λ (all : List Request). filter (λ (it : Request). it.ended) all) (grouped_taking line lines is) ∙ unfinished_with line lines (none_ended line lines none).1)
      (λ is. ap (λ (all : List Request). filter (λ (it : Request). it.ended) all) (grouped_alone line lines is)
      ∙ (left_request (alone line) (grouped lines) (none_ended line lines none).0 ∙ unfinished_grouped lines (none_ended line lines none).1))

  unfinished_with : (line : Line) (lines : List Line) → filter (λ (it : Line). it.ended) lines ≡ [] → filter (λ (it : Request). it.ended) (grouped_with line lines) ≡ []
  unfinished_with line [] none = refl
  unfinished_with line (next ∷ lines) none = left_request (with_source line next) (grouped lines) (none_ended next lines none).0 ∙ unfinished_grouped lines (none_ended next lines none).1

unfinished_asks : (used : List ℕ) → IsUnfinished used → whole_requests used ≡ []
unfinished_asks used none = whole_is used ∙ (ap (λ (all : List Request). filter (λ (it : Request). it.ended) all) (requests_filled used) ∙ unfinished_grouped (filled_lines used) none)

unfinished_source : (ended : Bool) (first : LineState) (used then : List ℕ) → (one : IsFilled ended first used) → takes_source first.kept ≡ true → (IsTrue ended → then ≡ []) → IsUnfinished then →
    whole_requests (used ++ then) ≡ []
unfinished_source ended first used then one some none unfinished =
    whole_is (used ++ then) ∙ (ap (λ (all : List Request). filter (λ (it : Request). it.ended) all)
    (both_grouped ended first one.bytes (used ++ then) [] (filled_lines then) one.holds some (one.filled then none))
    ∙ unfinished_with (line_at ended one.bytes) (filled_lines then) unfinished)

-- ## by what came of reading

pub asks_stopped : (stop : Stop) (old new : InputState) (left left' : Option (List ℕ)) (first second : LineState) → Reads (Some stop) old new left left' (FilledOf (Some stop) new.ended first) →
    Reads (Some stop) old new left left' (RequestOf (Err stop) new.ended first second)
asks_stopped End old new left left' first second reads =
    reads_as (Some End) (Some End) old new left left' (FilledOf (Some End) new.ended first) (RequestOf (Err End) new.ended first second) reads reads.stands (requests_filled reads.used ∙ ap grouped reads.is)
asks_stopped Limit old new left left' first second reads =
    reads_as (Some Limit) (Some Limit) old new left left' (FilledOf (Some Limit) new.ended first) (RequestOf (Err Limit) new.ended first second) reads reads.stands (unfinished_asks reads.used reads.is)
asks_stopped Fault old new left left' first second reads =
    reads_as (Some Fault) (Some Fault) old new left left' (FilledOf (Some Fault) new.ended first) (RequestOf (Err Fault) new.ended first second) reads reads.stands (unfinished_asks reads.used reads.is)

-- behind a first line that takes a source
pub asks_source : (result : Result SourceKind Stop) (old mid new : InputState) (left left' left'' : Option (List ℕ)) (first second : LineState) →
    Reads None old mid left left' (FilledOf None mid.ended first) → takes_source first.kept ≡ true → KnowsEnd mid left' →
    Reads (stop_of result) mid new left' left'' (SourceOf result new.ended second) → Reads (stop_of result) old new left left'' (RequestOf result new.ended first second)
asks_source (Ok NotTaken) old mid new left left' left'' first second one some known two = absurd two.is
asks_source (Ok Missing) old mid new left left' left'' first second one some known two =
    reads_both None old mid new left left' left'' (IsFilled mid.ended first) (SourceOf (Ok Missing) new.ended second) (RequestOf (Ok Missing) new.ended first second) one two
    (asks_missing mid.ended new.ended first second one.used two.used one.is two.is.0 two.is.1 some (λ was. (two.later was).1) (reads_over None mid new left' left'' (SourceOf (Ok Missing) new.ended second) two known))
asks_source (Ok Read) old mid new left left' left'' first second one some known two =
    reads_both None old mid new left left' left'' (IsFilled mid.ended first) (SourceOf (Ok Read) new.ended second) (RequestOf (Ok Read) new.ended first second) one two
    (asks_read mid.ended new.ended first second one.used two.used one.is two.is some (λ was. (two.later was).1) (reads_over None mid new left' left'' (SourceOf (Ok Read) new.ended second) two known))
asks_source (Err End) old mid new left left' left'' first second one some known two = absurd two.is
asks_source (Err Limit) old mid new left left' left'' first second one some known two =
    reads_both (Some Limit) old mid new left left' left'' (IsFilled mid.ended first) (SourceOf (Err Limit) new.ended second) (RequestOf (Err Limit) new.ended first second) one two
    (unfinished_source mid.ended first one.used two.used one.is some (reads_over (Some Limit) mid new left' left'' (SourceOf (Err Limit) new.ended second) two known) two.is)
asks_source (Err Fault) old mid new left left' left'' first second one some known two =
    reads_both (Some Fault) old mid new left left' left'' (IsFilled mid.ended first) (SourceOf (Err Fault) new.ended second) (RequestOf (Err Fault) new.ended first second) one two
    (unfinished_source mid.ended first one.used two.used one.is some (reads_over (Some Fault) mid new left' left'' (SourceOf (Err Fault) new.ended second) two known) two.is)
