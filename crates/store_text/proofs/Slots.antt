-- A slot that was read stands in the file.
use Rattle.std.proofs.Common.{◌≡◌, ℕ, ◌+◌, ◌-◌, ◌≤◌, List, ◌++◌, length, get_or, take, drop, replicate, inl, inr, sym, ap, ◌∙◌, arith, length-take}
use Rattle.std.proofs.Math.Seq.{take-add}
use Rattle.std.proofs.lemmas.Bool.{cases_lt}
use Rattle.std.proofs.lemmas.List.{drop-drop, length-drop, get_or-append_right, get_or-drop, get_or-replicate, get_or_past, length-replicate}
use Rattle.std.proofs.lemmas.Nat.{le_bytes_8}
use Rattle.byte_fields.specs.Fields.{spelled_u64}
use Rattle.part_text.specs.Front.{first_u64}
use Rattle.part_text.specs.Reads.{IsBytes, IsBytes-drop, IsBytes-take}
use Rattle.store_text.specs.Header.{header_size, slot_at, is_open, generation_in}
use Rattle.store_text.specs.Read.{IsSlot}
use Rattle.store_text.specs.declared.header.Side.{Side}
use Rattle.store_text.specs.declared.header.Side.TheVariants.{A, B}
use Rattle.store_text.specs.declared.header.Slot.{Slot}

-- the number that eight bytes are is spelled by them
spelled_here : (xs : List ℕ) (n : ℕ) → IsBytes xs → 8 ≤ length xs → n ≡ first_u64 xs → spelled_u64 n ≡ take 8 xs
unfolding first_u64
spelled_here xs n fits long is = le_bytes_8 (take 8 xs) n (omega (arith, length-take 8 xs, long)) (IsBytes-take 8 xs fits) is

three_parts : (xs : List ℕ) → take 24 xs ≡ take 8 xs ++ (take 8 (drop 8 xs) ++ take 8 (drop 16 xs))
three_parts xs = take-add 8 16 xs ∙ ap (λ more. take 8 xs ++ more) (take-add 8 8 (drop 8 xs) ∙ ap (λ last. take 8 (drop 8 xs) ++ take 8 last) (drop-drop 8 8 xs))

inside : (side : Side) → slot_at side + 24 ≤ header_size
inside A = omega arith
inside B = omega arith

pub slot_read : (side : Side) (file : List ℕ) (own : Slot) → IsBytes file → header_size ≤ length file → own.is_open ≡ is_open side file → own.generation ≡ first_u64 (drop (slot_at side) file) → own.at ≡ first_u64 (drop 8 (drop (slot_at side) file)) → own.len ≡ first_u64 (drop 16 (drop (slot_at side) file)) → IsSlot side own file
unfolding first_u64 generation_in
slot_read side file own fits long gate generation at len =
    let xs = drop (slot_at side) file in
    let bytes : IsBytes xs = IsBytes-drop (slot_at side) file fits in
    let enough : 24 ≤ length xs = omega (arith, length-drop (slot_at side) file, long, inside side) in
    let one : spelled_u64 own.generation ≡ take 8 xs = spelled_here xs own.generation bytes (omega (arith, enough)) generation in
    let two : spelled_u64 own.at ≡ take 8 (drop 8 xs) = spelled_here (drop 8 xs) own.at (IsBytes-drop 8 xs bytes) (omega (arith, enough, length-drop 8 xs)) at in
    let three : spelled_u64 own.len ≡ take 8 (drop 16 xs) = spelled_here (drop 16 xs) own.len (IsBytes-drop 16 xs bytes) (omega (arith, enough, length-drop 16 xs)) len in
    record {
      gate = gate;
      generation = generation;
      stands = three_parts xs ∙ ap (λ front. front ++ (take 8 (drop 8 xs) ++ take 8 (drop 16 xs))) (sym one) ∙ ap (λ middle. spelled_u64 own.generation ++ (middle ++ take 8 (drop 16 xs))) (sym two) ∙ ap (λ last. spelled_u64 own.generation ++ (spelled_u64 own.at ++ last)) (sym three);
    }

zero_at : (n i : ℕ) → ◌≡◌ {A = ℕ} (get_or {A = ℕ} (replicate {A = ℕ} n 0) i 0) 0
zero_at n i = elim (cases_lt i n) [
  | inl below ↦ get_or-replicate {A = ℕ} n i 0 0 below
  | inr past ↦ get_or_past {X = ℕ} (replicate {A = ℕ} n 0) i 0 (omega (arith, past, length-replicate {A = ℕ} n 0))
]

-- zeros behind the first eight bytes
pub new_zeros : (front xs : List ℕ) (n : ℕ) → length front ≡ 8 → xs ≡ replicate n 0 → (place : ℕ) → 8 ≤ place → get_or (front ++ drop 8 xs) place 0 ≡ 0
new_zeros front xs n long is place behind =
    get_or-append_right front (drop 8 xs) 8 place 0 long behind ∙ get_or-drop 8 xs (place - 8) 0 ∙ ap (λ (list : List ℕ). get_or list (8 + (place - 8)) 0) is ∙ zero_at n (8 + (place - 8))
