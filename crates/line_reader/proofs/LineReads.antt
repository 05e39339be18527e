-- How a line is read, piece by piece.
use Rattle.std.proofs.Common.{◌≡◌, ℕ, ◌+◌, ◌<◌, nat_lt, Bool, true, false, ◌||◌, zero, suc, List, [], ◌∷◌, ◌++◌, length, take, drop, Option, None, Some, Result, Ok, Err, OnOk, IfErr, if◌then◌else◌, refl, sym, ap, subst, lit<, ◌∙◌, append_assoc, arith, length-append, length-take}
use Rattle.std.proofs.lemmas.Grind.{common_steps}
use Rattle.std.proofs.lemmas.List.{append-nil}
use Rattle.line_reader.specs.Given.{stop_of, IsStopCaused}
use Rattle.line_reader.specs.Line.{newline, longest_line}
use Rattle.line_reader.specs.Seen.{InputState, KnowsEnd, longest_piece}
use Rattle.line_reader.specs.Held.{LineState, Holds}
use Rattle.line_reader.specs.Reading.{Reads, Stands, IsCutAt, BeginsLine, IsLine, LineOf, has_newline}
use Rattle.line_reader.specs.declared.stop.Stop.{Stop}
use Rattle.line_reader.specs.declared.stop.Stop.TheVariants.{End, Limit, Fault}
use Rattle.line_reader.proofs.Progress.{reads_none, reads_piece, reads_both, reads_as}
use Rattle.line_reader.proofs.Fronts.{kept_again, long_again}

-- the line after a piece more
pub record Adds (piece : List ℕ) (old new : LineState) : Type 0 where
  pub kept : new.kept ≡ take longest_line (old.kept ++ piece)
  pub long : new.long ≡ (old.long || nat_lt longest_line (length (old.kept ++ piece)))

holds_more : (bytes piece : List ℕ) (old new : LineState) → Holds bytes old → Adds piece old new → Holds (bytes ++ piece) new
holds_more bytes piece old new holds adds = record {
  kept = adds.kept ∙ (ap (λ front. take longest_line (front ++ piece)) holds.kept ∙ kept_again longest_line bytes piece);
  long = adds.long ∙ (ap (λ was. was || nat_lt longest_line (length (old.kept ++ piece))) holds.long
      ∙ (ap (λ front. nat_lt longest_line (length bytes) || nat_lt longest_line (length (front ++ piece))) holds.kept ∙ long_again longest_line bytes piece));
}

plain_more : (bytes piece : List ℕ) → has_newline bytes ≡ false → has_newline piece ≡ false → has_newline (bytes ++ piece) ≡ false
plain_more [] piece one two = two
plain_more (b ∷ bs) piece one two = grind (arith, common_steps, plain_more bs piece)

begin_more : (bytes piece : List ℕ) (old new : LineState) → BeginsLine old bytes → has_newline piece ≡ false → Adds piece old new → BeginsLine new (bytes ++ piece)
begin_more bytes piece old new front plain adds = record {
  plain = plain_more bytes piece front.plain plain;
  holds = holds_more bytes piece old new front.holds adds;
}

pub line_begun : (input : InputState) (left : Option (List ℕ)) (line : LineState) → line ≡ record { kept = []; long = false } → Reads None input input left left (BeginsLine line)
line_begun input left line empty = reads_none input left (BeginsLine line) (record {
  plain = refl;
  holds = record { kept = ap (λ (it : LineState). it.kept) empty; long = ap (λ (it : LineState). it.long) empty };
})

-- an input in which a byte is unread has not ended
going_on : (input : InputState) (left : Option (List ℕ)) (at : ℕ) → KnowsEnd input left → IsCutAt at input.unread → input.ended ≡ false
going_on input left at known cut = by_end input.ended refl
  where
    by_end : (ended : Bool) → input.ended ≡ ended → input.ended ≡ false
    by_end false is = is
    by_end true is =
        let within : at < length input.unread = cut.within in
        let none : length input.unread ≡ 0 = ap length (known is).0 in
        absurd (omega (arith, within, none))

-- the newline was found
pub line_ends : (old mid new : InputState) (left left' : Option (List ℕ)) (was line : LineState) (at : ℕ) → Reads None old mid left left' (BeginsLine was) → KnowsEnd mid left' →
    IsCutAt at mid.unread → Adds (take at mid.unread) was line → new ≡ record { unread = drop (at + 1) mid.unread; allowance = mid.allowance; ended = mid.ended } →
    Reads None old new left left' (LineOf None new.ended line)
line_ends old mid new left left' was line at reads known cut adds skipped =
    let going : new.ended ≡ false = ap (λ (input : InputState). input.ended) skipped ∙ going_on mid left' at known cut in
    let piece : List ℕ = take at mid.unread ++ newline ∷ [] in
    let rest : mid.unread ≡ piece ++ new.unread = cut.parts ∙ (sym (append_assoc (take at mid.unread) (newline ∷ []) (drop (at + 1) mid.unread))
    ∙ ap (λ (bytes : List ℕ). piece ++ bytes) (sym (ap (λ (input : InputState). input.unread) skipped))) in
    let one_more : Reads None mid new left' left' (λ used. used ≡ piece) =
    reads_piece mid new left' piece (λ used. used ≡ piece) rest (ap (λ (input : InputState). input.allowance) skipped) (ap (λ (input : InputState). input.ended) skipped) refl in
    let long : length (reads.used ++ piece) ≡ length reads.used + length piece = length-append reads.used piece in
    let end : length piece ≡ length (take at mid.unread) + 1 = length-append (take at mid.unread) (newline ∷ []) in
    reads_both None old mid new left left' left' (BeginsLine was) (λ used. used ≡ piece) (IsLine new.ended line) reads one_more
    (subst (λ (used : List ℕ). IsLine new.ended line used) (ap (λ (bytes : List ℕ). reads.used ++ bytes) (sym one_more.is)) (record {
      bytes = reads.used ++ take at mid.unread;
      begins = begin_more reads.used (take at mid.unread) was line reads.is cut.plain adds;
      ends = sym (append_assoc reads.used (take at mid.unread) (newline ∷ []))
          ∙ ap (λ (ended : Bool). (reads.used ++ take at mid.unread) ++ (if ended then [] else newline ∷ [])) (sym going);
      some = omega (arith, long, end);
    }))

-- all that was unread is used
pub line_goes_on : (old mid new : InputState) (left left' : Option (List ℕ)) (was line : LineState) (seen added : List ℕ) → Reads None old mid left left' (BeginsLine was) →
    seen ≡ mid.unread → has_newline seen ≡ false → added ≡ mid.unread → Adds added was line →
    new ≡ record { unread = []; allowance = mid.allowance; ended = mid.ended } → Reads None old new left left' (BeginsLine line)
line_goes_on old mid new left left' was line seen added reads looked plain all adds skipped =
    let rest : mid.unread ≡ mid.unread ++ new.unread = sym (append-nil mid.unread) ∙ ap (λ bytes. mid.unread ++ bytes) (sym (ap (λ (input : InputState). input.unread) skipped)) in
    let one_more : Reads None mid new left' left' (λ used. used ≡ mid.unread) =
    reads_piece mid new left' mid.unread (λ used. used ≡ mid.unread) rest (ap (λ (input : InputState). input.allowance) skipped) (ap (λ (input : InputState). input.ended) skipped) refl in
    reads_both None old mid new left left' left' (BeginsLine was) (λ used. used ≡ mid.unread) (BeginsLine line) reads one_more
    (subst (λ (used : List ℕ). BeginsLine line used) (ap (λ (bytes : List ℕ). reads.used ++ bytes) (sym one_more.is))
    (begin_more reads.used mid.unread was line reads.is (subst (λ (them : List ℕ). has_newline them ≡ false) looked plain) (subst (λ (them : List ℕ). Adds them was line) all adds)))

-- more was read, or reading stopped
pub line_filled : (stop : Option Stop) (old mid new : InputState) (left left' left'' : Option (List ℕ)) (line : LineState) → Reads None old mid left left' (BeginsLine line) →
    Reads stop mid new left' left'' (λ used. used ≡ []) → Reads stop old new left left'' (BeginsLine line)
line_filled stop old mid new left left' left'' line reads filled =
    reads_both stop old mid new left left' left'' (BeginsLine line) (λ used. used ≡ []) (BeginsLine line) reads filled
    (subst (BeginsLine line) (sym (ap (λ (them : List ℕ). reads.used ++ them) filled.is ∙ append-nil reads.used)) reads.is)

-- nothing is kept of nothing alone
none_kept : (most : ℕ) (bytes : List ℕ) → 0 < most → length (take most bytes) ≡ 0 → bytes ≡ []
none_kept zero bytes some none = absurd (omega arith)
none_kept (suc most) [] some none = refl
none_kept (suc most) (b ∷ bs) some none = absurd (omega arith)

some_kept : (most : ℕ) (bytes : List ℕ) → 0 < length (take most bytes) → 0 < length bytes
some_kept most bytes some = omega (arith, length-take most bytes)

-- reading stopped with nothing of a line
pub line_missing : (stop : Stop) (old new : InputState) (left left' : Option (List ℕ)) (line : LineState) → Reads (Some stop) old new left left' (BeginsLine line) → length line.kept ≡ 0 →
    Reads (Some stop) old new left left' (LineOf (Some stop) new.ended line)
line_missing End old new left left' line reads empty =
    reads_as (Some End) (Some End) old new left left' (BeginsLine line) (λ used. used ≡ []) reads reads.stands
    (none_kept longest_line reads.used (lit< tt) (sym (ap length reads.is.holds.kept) ∙ empty))
line_missing Limit old new left left' line reads empty =
    reads_as (Some Limit) (Some Limit) old new left left' (BeginsLine line) (λ used. has_newline used ≡ false) reads reads.stands reads.is.plain
line_missing Fault old new left left' line reads empty =
    reads_as (Some Fault) (Some Fault) old new left left' (BeginsLine line) (λ used. has_newline used ≡ false) reads reads.stands reads.is.plain

-- the input has ended the last line
line_last : (old new : InputState) (left left' : Option (List ℕ)) (line : LineState) → Reads (Some End) old new left left' (BeginsLine line) → 0 < length line.kept →
    Reads None old new left left' (LineOf None new.ended line)
line_last old new left left' line reads some =
    let over : new.ended ≡ true = reads.stands.1 in
    reads_as (Some End) None old new left left' (BeginsLine line) (IsLine new.ended line) reads reads.stands.0 (record {
      bytes = reads.used;
      begins = reads.is;
      ends = sym (append-nil reads.used) ∙ ap (λ (ended : Bool). reads.used ++ (if ended then [] else newline ∷ [])) (sym over);
      some = some_kept longest_line reads.used (subst (λ (kept : List ℕ). 0 < length kept) reads.is.holds.kept some);
    })

line_stopped : (stop : Stop) (old new : InputState) (left left' : Option (List ℕ)) (line : LineState) → ¬ (stop ≡ End) → Reads (Some stop) old new left left' (BeginsLine line) →
    Reads (Some stop) old new left left' (LineOf (Some stop) new.ended line)
line_stopped End old new left left' line other reads = absurd (other refl)
line_stopped Limit old new left left' line other reads =
    reads_as (Some Limit) (Some Limit) old new left left' (BeginsLine line) (λ used. has_newline used ≡ false) reads reads.stands reads.is.plain
line_stopped Fault old new left left' line other reads =
    reads_as (Some Fault) (Some Fault) old new left left' (BeginsLine line) (λ used. has_newline used ≡ false) reads reads.stands reads.is.plain

-- reading stopped with a part of a line: at the end of the input it is the last line
pub line_ended : (result : Result (Unit {0}) Stop) (stop : Stop) (old new : InputState) (left left' : Option (List ℕ)) (line : LineState) →
    OnOk result (stop ≡ End) → IfErr result (λ why. (why ≡ stop) × ¬ (stop ≡ End)) → 0 < length line.kept →
    Reads (Some stop) old new left left' (BeginsLine line) → Reads (stop_of result) old new left left' (LineOf (stop_of result) new.ended line)
line_ended (Ok x) stop old new left left' line ended other some reads =
    line_last old new left left' line (subst (λ (why : Stop). Reads (Some why) old new left left' (BeginsLine line)) ended reads) some
line_ended (Err why) stop old new left left' line ended other some reads =
    subst (λ (it : Stop). Reads (Some it) old new left left' (LineOf (Some it) new.ended line)) (sym other.0) (line_stopped stop old new left left' line other.1 reads)

pub caused_so : (result : Result (Unit {0}) Stop) (stop : Stop) (old mid new : ℕ) → OnOk result (stop ≡ End) → IfErr result (λ why. (why ≡ stop) × ¬ (stop ≡ End)) → mid ≡ old →
    IsStopCaused (Some stop) mid new → IsStopCaused (stop_of result) old new
caused_so (Ok x) stop old mid new ended other same cause = subst (λ (why : Stop). IsStopCaused (Some why) mid new) ended cause ∙ same
caused_so (Err why) stop old mid new ended other same cause =
    subst (λ (it : Stop). IsStopCaused (Some it) old new) (sym other.0) (subst (λ (was : ℕ). IsStopCaused (Some stop) was new) same cause)

-- at the end nothing is unread
pub near_end : (result : Result (Unit {0}) Stop) (stop : Stop) (old new : InputState) (left left' : Option (List ℕ)) (line : LineState) → OnOk result (stop ≡ End) → KnowsEnd new left' →
    Reads (Some stop) old new left left' (BeginsLine line) → OnOk result (length new.unread < longest_piece)
near_end (Ok x) stop old new left left' line ended known reads =
    let none : length new.unread ≡ 0 = ap length (known (subst (λ (why : Stop). Stands (Some why) new reads.read reads.gave) ended reads.stands).1).0 in
    omega (arith, none)
near_end (Err why) stop old new left left' line ended known reads = tt
