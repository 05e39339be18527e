-- What the first bytes of a file say is what the file says.
use Rattle.std.proofs.Common.{◌≡◌, ℕ, ◌+◌, ◌==◌, ◌≤◌, min, Bool, true, false, not, List, [], ◌∷◌, length, take, drop, Option, None, Some, refl, sym, ◌∙◌, ap, arith, subst}
use Rattle.std.specs.Int.{from_le_bytes, w64}
use Rattle.std.proofs.lemmas.Bool.{false≢true}
use Rattle.std.proofs.lemmas.List.{take-take, get_or-take, length-take}
use Rattle.disk.specs.Stops.{LenOf}
use Rattle.disk.specs.Torn.{same_before}
use Rattle.store_text.specs.Header.{header_size, slot_at, gate_at, open_byte, is_open, generation_in}
use Rattle.store_text.specs.Read.{IsSlot}
use Rattle.store_text.specs.declared.header.Side.{Side}
use Rattle.store_text.specs.declared.header.Side.TheVariants.{A, B}
use Rattle.store_text.specs.declared.header.Slot.{Slot}
use Rattle.store_text.specs.declared.header.Header.{Header}
use Rattle.commit_images.specs.Standing.{gate_inside}
use Rattle.store_opening.specs.Looking.{IsRead}
use Rattle.store_opening.specs.Beginning.{IsBeginning}

-- ---- bytes and slots

front_is : (n at count : ℕ) (file : List ℕ) → at + count ≤ n → take count (drop at (take n file)) ≡ take count (drop at file)
front_is n at count file within = same_before at count n file (take n file) within (take-take n n file (omega arith))

slot_inside : (side : Side) → slot_at side + 24 ≤ header_size
slot_inside A = omega arith
slot_inside B = omega arith

front_open : (n : ℕ) (side : Side) (file : List ℕ) → header_size ≤ n → is_open side (take n file) ≡ is_open side file
front_open n side file long =
    ap (λ (byte : ℕ). byte == open_byte) (get_or-take n file (gate_at side) 0 (omega (arith, gate_inside side, long)))

front_generation : (n : ℕ) (side : Side) (file : List ℕ) → header_size ≤ n → generation_in side (take n file) ≡ generation_in side file
unfolding generation_in
front_generation n side file long =
    ap (from_le_bytes w64) (front_is n (slot_at side) 8 file (omega (arith, slot_inside side, long)))

front_slot : (n : ℕ) (side : Side) (own : Slot) (file : List ℕ) → header_size ≤ n → IsSlot side own (take n file) → IsSlot side own file
front_slot n side own file long is = record {
  gate = is.gate ∙ front_open n side file long;
  generation = is.generation ∙ front_generation n side file long;
  stands = sym (front_is n (slot_at side) 24 file (omega (arith, slot_inside side, long))) ∙ is.stands;
}

-- ---- the beginning

nil_is : (xs : List ℕ) → length xs ≡ 0 → xs ≡ []
nil_is [] none = refl
nil_is (x ∷ xs) none = absurd (omega (arith, none))

begins_at : (n : ℕ) (file : List ℕ) (found : Option Header) → n ≡ min (length file) header_size → IsBeginning (take n file) found → IsBeginning file found
begins_at n file None all is = nil_is file (omega (arith, ap length is, length-take n file, all))
begins_at n file (Some header) all is =
    let long : header_size ≤ n = omega (arith, is.long, length-take n file) in
    record {
      long = omega (arith, is.long, length-take n file);
      magic_stands = sym (front_is n 0 8 file (omega (arith, long))) ∙ is.magic_stands;
      says = record { a = front_slot n A header.a file long is.says.a; b = front_slot n B header.b file long is.says.b };
    }

-- the first bytes of a file, all of it or as many as a header has
pub begins : (file front : List ℕ) (found : Option Header) → length front ≡ min (length file) header_size → take (length front) file ≡ front
    → IsBeginning front found → IsBeginning file found
begins file front found all whole is = begins_at (length front) file found all (subst (λ (it : List ℕ). IsBeginning it found) (sym whole) is)

-- what was read of the first bytes
pub begins_read : (file front : List ℕ) (found : Option Header) (whole : Bool) → not whole ≡ false → length front ≡ min (length file) header_size
    → IsRead file 0 front whole → IsBeginning front found → IsBeginning file found
begins_read file front found true ok all read is = begins file front found all read is
begins_read file front found false ok all read is = absurd (false≢true (sym ok))

pub len_known : (content : Option (List ℕ)) (file : List ℕ) (len : ℕ) → content ≡ Some file → LenOf content len → len ≡ length file
len_known content file len known of_it = subst (λ (it : Option (List ℕ)). LenOf it len) known of_it
