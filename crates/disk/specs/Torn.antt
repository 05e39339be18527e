-- Laws of torn writes and of cuts over bytes: what stands apart from the range stands on, what a done write leaves is one of
-- the things that a torn one may leave, and so on. They serve proofs.
use Rattle.std.proofs.Common.{◌≡◌, ℕ, ◌+◌, ◌-◌, ◌<◌, ◌≤◌, min, max, List, [], ◌∷◌, ◌++◌, length, get_or, take, drop, replicate, refl, sym, ◌∙◌, ap, append_assoc, arith, length-append, length-drop}
use Rattle.std.proofs.lemmas.List.{take-take, drop-take, drop-drop, take_min, take_at, drop_at, take_all, take-append-drop, length-take, length-replicate, drop_more}
use Rattle.disk.specs.Memory.{written}
use Rattle.disk.specs.Stops.{Torn, Cut}

-- ---- bytes that stand at an offset

-- bytes that stand in a file lie inside it
pub bytes_inside : (place : ℕ) (bytes file : List ℕ) → 0 < length bytes → take (length bytes) (drop place file) ≡ bytes
    → place + length bytes ≤ length file
bytes_inside place bytes file some stands =
    omega (arith, ap length stands, length-take (length bytes) (drop place file), length-drop place file)

-- files that agree up to an offset have the same bytes before it
pub same_before : (place count end : ℕ) (old new : List ℕ) → place + count ≤ end → take end new ≡ take end old
    → take count (drop place new) ≡ take count (drop place old)
same_before place count end old new within same =
    sym (drop-take place count new)
    ∙ ap (drop place) (sym (take-take (place + count) end new within) ∙ ap (take (place + count)) same ∙ take-take (place + count) end old within)
    ∙ drop-take place count old

-- files that agree from an offset on agree behind it
pub same_behind : (from place : ℕ) (old new : List ℕ) → from ≤ place → drop from new ≡ drop from old → drop place new ≡ drop place old
same_behind from place old new within same =
    let there : from + (place - from) ≡ place = omega arith in
    ap (λ (n : ℕ). drop n new) (sym there)
    ∙ sym (drop-drop (place - from) from new)
    ∙ ap (drop (place - from)) same
    ∙ drop-drop (place - from) from old
    ∙ ap (λ (n : ℕ). drop n old) there

-- ---- a torn write

-- before the range all is as it was
pub torn_front : (at n len : ℕ) (old new : List ℕ) → Torn at n old new → len ≤ at → len ≤ length old → take len new ≡ take len old
torn_front at n len old new torn before inside =
    sym (take-take len (min at (length old)) new (omega arith)) ∙ ap (take len) torn.before ∙ take-take len at old before

-- behind the range all is as it was
pub torn_back : (at n place : ℕ) (old new : List ℕ) → Torn at n old new → at + n ≤ place → drop place new ≡ drop place old
torn_back at n place old new torn behind = same_behind (at + n) place old new behind torn.after

-- bytes that stand before the range stand on
pub torn_keeps_before : (at n place : ℕ) (bytes old new : List ℕ) → Torn at n old new → place + length bytes ≤ at
    → take (length bytes) (drop place old) ≡ bytes → take (length bytes) (drop place new) ≡ bytes
torn_keeps_before at n place [] old new torn apart stands = refl
torn_keeps_before at n place (byte ∷ bytes) old new torn apart stands =
    let inside : place + length (byte ∷ bytes) ≤ length old = bytes_inside place (byte ∷ bytes) old (omega arith) stands in
    same_before place (length (byte ∷ bytes)) (place + length (byte ∷ bytes)) old new (omega arith)
    (torn_front at n (place + length (byte ∷ bytes)) old new torn apart inside)
    ∙ stands

-- bytes that stand behind the range stand on
pub torn_keeps_behind : (at n place : ℕ) (bytes old new : List ℕ) → Torn at n old new → at + n ≤ place
    → take (length bytes) (drop place old) ≡ bytes → take (length bytes) (drop place new) ≡ bytes
torn_keeps_behind at n place bytes old new torn apart stands =
    ap (take (length bytes)) (torn_back at n place old new torn apart) ∙ stands

-- a write may leave the file as it was
pub torn_same : (at n : ℕ) (file : List ℕ) → Torn at n file file
torn_same at n file = record { before = take_min at file; after = refl; no_shorter = omega arith; no_longer = omega arith }

pub torn_trans : (at n : ℕ) (old mid new : List ℕ) → Torn at n old mid → Torn at n mid new → Torn at n old new
torn_trans at n old mid new first then = record {
  before =
      sym (take-take (min at (length old)) (min at (length mid)) new (omega (arith, first.no_shorter)))
      ∙ ap (take (min at (length old))) then.before
      ∙ take-take (min at (length old)) at mid (omega arith)
      ∙ first.before;
  after = then.after ∙ first.after;
  no_shorter = omega (arith, first.no_shorter, then.no_shorter);
  no_longer = omega (arith, first.no_longer, then.no_longer);
}

-- ---- a write that was done

-- the file before a write's range: what stands there, and zeros behind its end
abbrev pub lengthened : ℕ → List ℕ → List ℕ
lengthened at file = take at file ++ replicate (at - length file) 0

pub length-lengthened : (at : ℕ) (file : List ℕ) → length (lengthened at file) ≡ at
length-lengthened at file =
    omega (arith, length-append (take at file) (replicate (at - length file) 0), length-take at file, length-replicate {A = ℕ} (at - length file) 0)

pub written_is : (at : ℕ) (bytes file : List ℕ) → 0 < length bytes
    → written at bytes file ≡ lengthened at file ++ (bytes ++ drop (at + length bytes) file)
written_is at [] file some = absurd (omega arith)
written_is at (byte ∷ bytes) file some =
    sym (append_assoc (take at file) (replicate (at - length file) 0) ((byte ∷ bytes) ++ drop (at + length (byte ∷ bytes)) file))

pub length-written : (at : ℕ) (bytes file : List ℕ) → 0 < length bytes → length (written at bytes file) ≡ max (length file) (at + length bytes)
length-written at bytes file some =
    omega (
      arith,
      ap length (written_is at bytes file some),
      length-append (lengthened at file) (bytes ++ drop (at + length bytes) file),
      length-lengthened at file,
      length-append bytes (drop (at + length bytes) file),
      length-drop (at + length bytes) file,
    )

-- the bytes that were written stand there
pub stands_written : (at : ℕ) (bytes file : List ℕ) → take (length bytes) (drop at (written at bytes file)) ≡ bytes
stands_written at [] file = refl
stands_written at (byte ∷ bytes) file =
    ap (λ (it : List ℕ). take (length (byte ∷ bytes)) (drop at it)) (written_is at (byte ∷ bytes) file (omega arith))
    ∙ ap (take (length (byte ∷ bytes)))
    (drop_at (lengthened at file) ((byte ∷ bytes) ++ drop (at + length (byte ∷ bytes)) file) at (length-lengthened at file))
    ∙ take_at (byte ∷ bytes) (drop (at + length (byte ∷ bytes)) file) (length (byte ∷ bytes)) refl

back_of_written : (at : ℕ) (bytes file : List ℕ) → 0 < length bytes → drop (at + length bytes) (written at bytes file) ≡ drop (at + length bytes) file
back_of_written at bytes file some =
    let front : length (lengthened at file ++ bytes) ≡ at + length bytes = omega (arith, length-append (lengthened at file) bytes, length-lengthened at file) in
    ap (drop (at + length bytes))
    (written_is at bytes file some ∙ sym (append_assoc (lengthened at file) bytes (drop (at + length bytes) file)))
    ∙ drop_at (lengthened at file ++ bytes) (drop (at + length bytes) file) (at + length bytes) front

-- what a done write leaves is one of the things that a torn one may leave
pub torn_written : (at : ℕ) (bytes file : List ℕ) → Torn at (length bytes) file (written at bytes file)
torn_written at [] file = torn_same at 0 file
torn_written at (byte ∷ bytes) file =
    let long : length (written at (byte ∷ bytes) file) ≡ max (length file) (at + length (byte ∷ bytes)) = length-written at (byte ∷ bytes) file (omega arith) in
    record {
      before =
          take_at (take at file) (replicate (at - length file) 0 ++ ((byte ∷ bytes) ++ drop (at + length (byte ∷ bytes)) file))
          (min at (length file)) (length-take at file);
      after = back_of_written at (byte ∷ bytes) file (omega arith);
      no_shorter = omega (arith, long);
      no_longer = omega (arith, long);
    }

-- torn and then done
pub torn_again : (at : ℕ) (bytes old new : List ℕ) → Torn at (length bytes) old new → Torn at (length bytes) old (written at bytes new)
torn_again at bytes old new torn = torn_trans at (length bytes) old new (written at bytes new) torn (torn_written at bytes new)

-- a write of what stands there changes nothing
pub written_same : (at : ℕ) (bytes file : List ℕ) → take (length bytes) (drop at file) ≡ bytes → written at bytes file ≡ file
written_same at [] file stands = refl
written_same at (byte ∷ bytes) file stands =
    let n : ℕ = length (byte ∷ bytes) in
    let inside : at + length (byte ∷ bytes) ≤ length file = bytes_inside at (byte ∷ bytes) file (omega arith) stands in
    let none : at - length file ≡ 0 = omega arith in
    ap (λ (gap : ℕ). take at file ++ (replicate gap 0 ++ ((byte ∷ bytes) ++ drop (at + length (byte ∷ bytes)) file))) none
    ∙ ap (λ (it : List ℕ). take at file ++ it)
    (ap (λ (it : List ℕ). it ++ drop (at + length (byte ∷ bytes)) file) (sym stands)
    ∙ ap (λ (it : List ℕ). take (length (byte ∷ bytes)) (drop at file) ++ it) (sym (drop-drop (length (byte ∷ bytes)) at file))
    ∙ take-append-drop (length (byte ∷ bytes)) (drop at file))
    ∙ take-append-drop at file

-- where the range of a torn write came to hold the bytes that were to be written, the write is done
pub torn_done : (at : ℕ) (bytes old new : List ℕ) → 0 < length bytes → Torn at (length bytes) old new → at ≤ length old
    → take (length bytes) (drop at new) ≡ bytes → new ≡ written at bytes old
torn_done at [] old new some torn inside stands = absurd (omega arith)
torn_done at (byte ∷ bytes) old new some torn inside stands =
    let none : at - length old ≡ 0 = omega arith in
    sym (take-append-drop at new)
    ∙ ap (λ (it : List ℕ). it ++ drop at new) (torn_front at (length (byte ∷ bytes)) at old new torn (omega arith) inside)
    ∙ ap (λ (it : List ℕ). take at old ++ it)
    (sym (take-append-drop (length (byte ∷ bytes)) (drop at new))
    ∙ ap (λ (it : List ℕ). it ++ drop (length (byte ∷ bytes)) (drop at new)) stands
    ∙ ap (λ (it : List ℕ). (byte ∷ bytes) ++ it) (drop-drop (length (byte ∷ bytes)) at new ∙ torn.after))
    ∙ ap (λ (gap : ℕ). take at old ++ (replicate gap 0 ++ ((byte ∷ bytes) ++ drop (at + length (byte ∷ bytes)) old))) (sym none)

-- a torn byte that reads as this one is the file with this one put there
pub torn_byte : (at byte : ℕ) (old new : List ℕ) → Torn at 1 old new → at < length old → get_or new at 0 ≡ byte
    → new ≡ written at (byte ∷ []) old
torn_byte at byte old new torn inside reads =
    torn_done at (byte ∷ []) old new (omega arith) torn (omega arith)
    (ap (take 1) (drop_more new at 0 (omega (arith, torn.no_shorter))) ∙ ap (λ (it : ℕ). it ∷ []) reads)

-- ---- a cut

-- a cut may leave the file as it was
pub cut_same : (len : ℕ) (file : List ℕ) → Cut len file file
cut_same len file = record { front = refl; no_shorter = omega arith; no_longer = omega arith }

-- what a done cut leaves is one of the things that a torn one may leave
pub cut_done : (len : ℕ) (file : List ℕ) → Cut len file (take len file)
cut_done len file = record {
  front = take-take len len file (omega arith);
  no_shorter = omega (arith, length-take len file);
  no_longer = omega (arith, length-take len file);
}

-- bytes that stand before the new end stand on
pub cut_keeps : (len place : ℕ) (bytes old new : List ℕ) → Cut len old new → place + length bytes ≤ len
    → take (length bytes) (drop place old) ≡ bytes → take (length bytes) (drop place new) ≡ bytes
cut_keeps len place bytes old new cut before stands = same_before place (length bytes) len old new before cut.front ∙ stands

-- a cut to a length that isn't below the file's leaves it as it was
pub cut_none : (len : ℕ) (old new : List ℕ) → Cut len old new → length old ≤ len → new ≡ old
cut_none len old new cut long =
    sym (take_all len new (omega (arith, cut.no_longer))) ∙ cut.front ∙ take_all len old long
