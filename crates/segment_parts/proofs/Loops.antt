-- Fields of columns, one after the other.
use Rattle.std.proofs.Common.{◌≡◌, ◌∙◌, ℕ, ◌+◌, ◌-◌, ◌<◌, List, length, get_or, ap, sym, arith, inl, inr}
use Rattle.std.proofs.lemmas.Bool.{cases_lt}
use Rattle.std.proofs.lemmas.List.{length-map, get_or-map}
use Rattle.segment_parts.specs.Fields.{fields}

pub length-fields : {X : Type 0} (columns : List (ℕ × X)) → length (fields columns) ≡ length columns
length-fields {X} columns = let first : ℕ × X → ℕ = λ column. column.0 in length-map columns first

-- the field of the column at a place
pub fields_at : {X : Type 0} (columns : List (ℕ × X)) (at : ℕ) (d : ℕ × X) → at < length columns → get_or (fields columns) at 0 ≡ (get_or columns at d).0
fields_at {X} columns at d inside = let first : ℕ × X → ℕ = λ one. one.0 in get_or-map first columns at d 0 inside

-- one more field above the one before it
pub rising_more : (numbers : List ℕ) (at : ℕ) → 0 < at → ((k : ℕ) → k + 1 < at → get_or numbers k 0 < get_or numbers (k + 1) 0) → get_or numbers (at - 1) 0 < get_or numbers at 0 → (k : ℕ) → k + 1 < at + 1 → get_or numbers k 0 < get_or numbers (k + 1) 0
rising_more numbers at some before more k below =
    elim (cases_lt (k + 1) at) [
      | inl earlier ↦ before k earlier
      | inr from ↦
          let here : get_or numbers (at - 1) 0 ≡ get_or numbers k 0 = ap (λ i. get_or numbers i 0) (omega (arith, from, below, some)) in
          let next : get_or numbers at 0 ≡ get_or numbers (k + 1) 0 = ap (λ i. get_or numbers i 0) (omega (arith, from, below)) in
          omega (arith, here, next, more)
    ]

-- a field that was read of the column at a place
pub field_is : {X : Type 0} (columns : List (ℕ × X)) (at : ℕ) (own : ℕ × X) (field : ℕ) → at < length columns → own ≡ get_or columns at own → field ≡ own.0 → get_or (fields columns) at 0 ≡ field
field_is {X} columns at own field inside is same = let first : ℕ × X → ℕ = λ one. one.0 in fields_at columns at own inside ∙ sym (ap first is) ∙ sym same
