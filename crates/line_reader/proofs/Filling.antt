-- Lines that aren't blank, found in bytes that are read line by line.
use Rattle.std.proofs.Common.{◌≡◌, ℕ, ◌+◌, ◌<◌, nat_lt, Bool, true, false, not, IsTrue, ◌&&◌, List, [], ◌∷◌, ◌++◌, length, take, filter, Option, Some, None, refl, sym, ap, subst, ◌∙◌, append_assoc, arith, length-append}
use Rattle.std.proofs.lemmas.Grind.{common_steps}
use Rattle.std.proofs.lemmas.Bool.Decides.{nat_tests}
use Rattle.std.proofs.lemmas.List.{append-nil}
use Rattle.std.specs.List.{list_all}
use Rattle.line_reader.specs.Line.{Line, newline, longest_line, lines_of, is_blank, is_blank_byte}
use Rattle.line_reader.specs.Seen.{InputState, KnowsEnd}
use Rattle.line_reader.specs.Held.{LineState, Holds}
use Rattle.line_reader.specs.Reading.{Reads, IsLine, LineOf, MayFollow, has_newline, filled_lines, IsQuiet, IsUnfinished, FilledOf}
use Rattle.line_reader.specs.declared.stop.Stop.{Stop}
use Rattle.line_reader.specs.declared.stop.Stop.TheVariants.{End, Limit, Fault}
use Rattle.line_reader.proofs.Cuts.{lines_at, lines_last}
use Rattle.line_reader.proofs.Progress.{reads_none, reads_both, reads_over}

-- a line, and whether the input has ended with it
abbrev pub line_at : Bool → List ℕ → Line
line_at ended bytes = record { bytes = bytes; ended = not ended }

-- a front is blank exactly where all is, where nothing is left out
blank_front : (most : ℕ) (bytes : List ℕ) → (not (nat_lt most (length bytes)) && list_all is_blank_byte (take most bytes)) ≡ (not (nat_lt most (length bytes)) && list_all is_blank_byte bytes)
blank_front most bytes = grind (arith, common_steps, nat_tests)

blank_kept : (bytes : List ℕ) (line : LineState) (ended : Bool) → Holds bytes line → (not line.long && list_all is_blank_byte line.kept) ≡ is_blank (line_at ended bytes)
blank_kept bytes line ended holds =
    ap (λ long. not long && list_all is_blank_byte line.kept) holds.long
    ∙ (ap (λ front. not (nat_lt longest_line (length bytes)) && list_all is_blank_byte front) holds.kept ∙ blank_front longest_line bytes)

-- one line in front of others
kept_in_front : (line : Line) (lines : List Line) → is_blank line ≡ false → filter (λ (it : Line). not (is_blank it)) (line ∷ lines) ≡ line ∷ filter (λ (it : Line). not (is_blank it)) lines
kept_in_front line lines loud = rw loud refl

left_out : (line : Line) (lines : List Line) → is_blank line ≡ true → filter (λ (it : Line). not (is_blank it)) (line ∷ lines) ≡ filter (λ (it : Line). not (is_blank it)) lines
left_out line lines blank = rw blank refl

-- whatever may follow a line, it is the first
line_cut : (ended : Bool) (line : LineState) (used after : List ℕ) → (is : IsLine ended line used) → MayFollow ended after → lines_of (used ++ after) ≡ line_at ended is.bytes ∷ lines_of after
line_cut false line used after is may =
    ap (λ (bytes : List ℕ). lines_of (bytes ++ after)) is.ends ∙ (ap lines_of (append_assoc is.bytes (newline ∷ []) after) ∙ lines_at is.bytes after is.begins.plain)
line_cut true line used after is may =
    let whole : used ≡ is.bytes = is.ends ∙ append-nil is.bytes in
    let none : after ≡ [] = may refl in
    rw none (ap lines_of (append-nil used ∙ whole) ∙ lines_last is.bytes is.begins.plain (subst (λ (bytes : List ℕ). 0 < length bytes) whole is.some))

-- the same of lines that aren't blank
cut_loud : (ended : Bool) (line : LineState) (used after : List ℕ) → (is : IsLine ended line used) → MayFollow ended after → is_blank (line_at ended is.bytes) ≡ false →
    filled_lines (used ++ after) ≡ line_at ended is.bytes ∷ filled_lines after
cut_loud ended line used after is may loud =
    ap (λ (lines : List Line). filter (λ (it : Line). not (is_blank it)) lines) (line_cut ended line used after is may) ∙ kept_in_front (line_at ended is.bytes) (lines_of after) loud

cut_blank : (ended : Bool) (line : LineState) (used after : List ℕ) → (is : IsLine ended line used) → MayFollow ended after → is_blank (line_at ended is.bytes) ≡ true →
    filled_lines (used ++ after) ≡ filled_lines after
cut_blank ended line used after is may blank =
    ap (λ (lines : List Line). filter (λ (it : Line). not (is_blank it)) lines) (line_cut ended line used after is may) ∙ left_out (line_at ended is.bytes) (lines_of after) blank

-- a part of a line is no line that has ended
part_unfinished : (bytes : List ℕ) → has_newline bytes ≡ false → IsUnfinished bytes
part_unfinished [] plain = refl
part_unfinished (b ∷ bs) plain =
    by_blank (is_blank (line_at true (b ∷ bs))) refl
  where
    by_blank : (blank : Bool) → is_blank (line_at true (b ∷ bs)) ≡ blank → IsUnfinished (b ∷ bs)
    by_blank true is =
        ap (λ (lines : List Line). filter (λ (line : Line). line.ended) (filter (λ (it : Line). not (is_blank it)) lines)) (lines_last (b ∷ bs) plain (omega arith))
        ∙ ap (λ (lines : List Line). filter (λ (line : Line). line.ended) lines) (left_out (line_at true (b ∷ bs)) [] is)
    by_blank false is =
        ap (λ (lines : List Line). filter (λ (line : Line). line.ended) (filter (λ (it : Line). not (is_blank it)) lines)) (lines_last (b ∷ bs) plain (omega arith))
        ∙ ap (λ (lines : List Line). filter (λ (line : Line). line.ended) lines) (kept_in_front (line_at true (b ∷ bs)) [] is)

-- ## the loop over blank lines

pub skips_none : (input : InputState) (left : Option (List ℕ)) → Reads None input input left left (IsQuiet input.ended)
skips_none input left = reads_none input left (IsQuiet input.ended) (λ after may. refl)

-- lines that the input has ended with are the last ones used
goes_quiet : (ended later : Bool) (quiet used after : List ℕ) → IsQuiet ended quiet → (IsTrue ended → IsTrue later) → (IsTrue ended → used ≡ []) → MayFollow later after →
    filled_lines ((quiet ++ used) ++ after) ≡ filled_lines (used ++ after)
goes_quiet ended later quiet used after is stays none may =
    ap filled_lines (append_assoc quiet used after)
    ∙ is (used ++ after) (λ was. ap (λ (bytes : List ℕ). bytes ++ after) (none was) ∙ may (stays was))

-- one blank line more
pub skips_more : (old mid new : InputState) (left left' left'' : Option (List ℕ)) (line : LineState) → Reads None old mid left left' (IsQuiet mid.ended) → KnowsEnd mid left' →
    (read : Reads None mid new left' left'' (LineOf None new.ended line)) → (not line.long && list_all is_blank_byte line.kept) ≡ true →
    Reads None old new left left'' (IsQuiet new.ended)
skips_more old mid new left left' left'' line skips known read blank =
    let all_blank : is_blank (line_at new.ended read.is.bytes) ≡ true = sym (blank_kept read.is.bytes line new.ended read.is.begins.holds) ∙ blank in
    reads_both None old mid new left left' left'' (IsQuiet mid.ended) (LineOf None new.ended line) (IsQuiet new.ended) skips read
    (λ after may. goes_quiet mid.ended new.ended skips.used read.used after skips.is (λ was. (read.later was).1) (reads_over None mid new left' left'' (LineOf None new.ended line) read known) may
    ∙ cut_blank new.ended line read.used after read.is may all_blank)

-- a line that isn't blank
pub skips_line : (old mid new : InputState) (left left' left'' : Option (List ℕ)) (line : LineState) → Reads None old mid left left' (IsQuiet mid.ended) → KnowsEnd mid left' →
    (read : Reads None mid new left' left'' (LineOf None new.ended line)) → (not line.long && list_all is_blank_byte line.kept) ≡ false →
    Reads None old new left left'' (FilledOf None new.ended line)
skips_line old mid new left left' left'' line skips known read loud =
    let not_blank : is_blank (line_at new.ended read.is.bytes) ≡ false = sym (blank_kept read.is.bytes line new.ended read.is.begins.holds) ∙ loud in
    let long : length (skips.used ++ read.used) ≡ length skips.used + length read.used = length-append skips.used read.used in
    let some : 0 < length read.used = read.is.some in
    reads_both None old mid new left left' left'' (IsQuiet mid.ended) (LineOf None new.ended line) (FilledOf None new.ended line) skips read (record {
      bytes = read.is.bytes;
      filled = λ after may. goes_quiet mid.ended new.ended skips.used read.used after skips.is (λ was. (read.later was).1) (reads_over None mid new left' left'' (LineOf None new.ended line) read known) may
          ∙ cut_loud new.ended line read.used after read.is may not_blank;
      holds = read.is.begins.holds;
      some = omega (arith, long, some);
    })

-- no line more
quiet_then : (ended : Bool) (quiet used : List ℕ) → IsQuiet ended quiet → (IsTrue ended → used ≡ []) → filled_lines (quiet ++ used) ≡ filled_lines used
quiet_then ended quiet used is none = is used none

skips_stop : (stop : Stop) (ended : Bool) (old mid new : InputState) (left left' left'' : Option (List ℕ)) (line : LineState) → (skips : Reads None old mid left left' (IsQuiet mid.ended)) →
    (read : Reads (Some stop) mid new left' left'' (LineOf (Some stop) ended line)) → filled_lines (skips.used ++ read.used) ≡ filled_lines read.used → FilledOf (Some stop) ended line (skips.used ++ read.used)
skips_stop End ended old mid new left left' left'' line skips read same = same ∙ ap filled_lines read.is
skips_stop Limit ended old mid new left left' left'' line skips read same = ap (λ (lines : List Line). filter (λ (it : Line). it.ended) lines) same ∙ part_unfinished read.used read.is
skips_stop Fault ended old mid new left left' left'' line skips read same = ap (λ (lines : List Line). filter (λ (it : Line). it.ended) lines) same ∙ part_unfinished read.used read.is

pub skips_stopped : (stop : Stop) (old mid new : InputState) (left left' left'' : Option (List ℕ)) (line : LineState) → Reads None old mid left left' (IsQuiet mid.ended) → KnowsEnd mid left' →
    Reads (Some stop) mid new left' left'' (LineOf (Some stop) new.ended line) → Reads (Some stop) old new left left'' (FilledOf (Some stop) new.ended line)
skips_stopped stop old mid new left left' left'' line skips known read =
    reads_both (Some stop) old mid new left left' left'' (IsQuiet mid.ended) (LineOf (Some stop) new.ended line) (FilledOf (Some stop) new.ended line) skips read
    (skips_stop stop new.ended old mid new left left' left'' line skips read
    (quiet_then mid.ended skips.used read.used skips.is (reads_over (Some stop) mid new left' left'' (LineOf (Some stop) new.ended line) read known)))
