-- Entries in place: their documents, and a search among them.
use Rattle.std.proofs.Common.{◌≡◌, ℕ, zero, suc, ◌+◌, ◌-◌, ◌<◌, ◌≤◌, List, [], length, get_or, map, sym, ap, ◌∙◌, arith, inl, inr, Contains, le_of_eq}
use Rattle.std.specs.List.Sorted.{IsStrictlyIncreasing}
use Rattle.std.proofs.lemmas.Bool.{cases_lt}
use Rattle.std.proofs.lemmas.List.{length-map, get_or-map, same_lists, get_or_default}
use Rattle.std.proofs.lemmas.Map.Keys.{sorted_from_strictly_increasing, below_from_sorted}
use Rattle.part_text.specs.Front.{first_u32}
use Rattle.part_text.specs.Places.{row, rows_of}
use Rattle.part_text.specs.Placed.{length-rows_of, get_or-rows_of}
use Rattle.doc_values.specs.Values.{documents}
use Rattle.doc_values.specs.Kept.{entry_of, column_rows, documents_in}

pub length-documents_in : (places bytes : List ℕ) → length (documents_in places bytes) ≡ length places - 1
unfolding documents_in
length-documents_in places bytes = length-map (rows_of places bytes) first_u32 ∙ length-rows_of places bytes

pub get_or-documents_in : (places bytes : List ℕ) (at d : ℕ) → at + 1 < length places → get_or (documents_in places bytes) at d ≡ first_u32 (row places bytes at)
unfolding documents_in
get_or-documents_in places bytes at d below =
    get_or-map first_u32 (rows_of places bytes) at [] d (omega (arith, length-rows_of places bytes))
    ∙ ap first_u32 (get_or-rows_of places bytes at [] below)

pub length-column_rows : {X : Type 0} (front : List ℕ → X) (places bytes : List ℕ) → length (column_rows front places bytes) ≡ length places - 1
unfolding column_rows
length-column_rows front places bytes = length-map (rows_of places bytes) (entry_of front) ∙ length-rows_of places bytes

pub get_or-column_rows : {X : Type 0} (front : List ℕ → X) (places bytes : List ℕ) (at : ℕ) (d : ℕ × List X) → at + 1 < length places → get_or (column_rows front places bytes) at d ≡ entry_of front (row places bytes at)
unfolding column_rows
get_or-column_rows front places bytes at d below =
    get_or-map (entry_of front) (rows_of places bytes) at [] d (omega (arith, length-rows_of places bytes))
    ∙ ap (entry_of front) (get_or-rows_of places bytes at [] below)

pub documents-column_rows : {X : Type 0} (front : List ℕ → X) (places bytes : List ℕ) → documents (column_rows front places bytes) ≡ documents_in places bytes
documents-column_rows {X} front places bytes =
    let rows = column_rows front places bytes in
    let first : ℕ × List X → ℕ = λ row. row.0 in
    let long : length (map first rows) ≡ length places - 1 = length-map rows first ∙ length-column_rows front places bytes in
    same_lists (map first rows) (documents_in places bytes) (long ∙ sym (length-documents_in places bytes))
    (λ k d below.
    let inside : k + 1 < length places = omega (arith, below, long) in
    get_or-map first rows k (d, []) d (omega (arith, below, length-map rows first))
    ∙ ap first (get_or-column_rows front places bytes k (d, []) inside)
    ∙ sym (get_or-documents_in places bytes k d inside))

-- ---- the search

pub all_below : (docs : List ℕ) (middle doc : ℕ) → IsStrictlyIncreasing docs → middle < length docs → get_or docs middle 0 < doc → (k : ℕ) → k < middle + 1 → get_or docs k 0 < doc
all_below docs middle doc ascend inside here k below = elim (cases_lt k middle) [
  | inl earlier ↦
      let less : get_or docs k 0 < get_or docs middle 0 = below_from_sorted docs k middle 0 (sorted_from_strictly_increasing docs ascend) earlier inside in
      omega (arith, less)
  | inr from ↦ let same : get_or docs k 0 ≡ get_or docs middle 0 = ap (λ i. get_or docs i 0) (omega (arith, from, below)) in omega (arith, same)
]

pub all_above : (docs : List ℕ) (middle doc : ℕ) → IsStrictlyIncreasing docs → doc < get_or docs middle 0 → (k : ℕ) → middle ≤ k → k < length docs → doc < get_or docs k 0
all_above docs middle doc ascend here k from inside = elim (cases_lt middle k) [
  | inl later ↦
      let less : get_or docs middle 0 < get_or docs k 0 = below_from_sorted docs middle k 0 (sorted_from_strictly_increasing docs ascend) later inside in
      omega (arith, less)
  | inr to ↦ let same : get_or docs k 0 ≡ get_or docs middle 0 = ap (λ i. get_or docs i 0) (omega (arith, from, to)) in omega (arith, same)
]

pub found_nowhere : (docs : List ℕ) (doc low high : ℕ) → high ≤ low → ((k : ℕ) → k < low → get_or docs k 0 < doc) → ((k : ℕ) → high ≤ k → k < length docs → doc < get_or docs k 0) → Contains docs doc → ⊥
found_nowhere docs doc low high met before after there =
    let here : get_or docs there.0 0 ≡ doc = get_or_default docs there.0 0 doc there.1 ∙ there.2 in
    elim (cases_lt there.0 low) [
      | inl earlier ↦ let less : get_or docs there.0 0 < doc = before there.0 earlier in absurd (omega (arith, less, here))
      | inr from ↦ let more : doc < get_or docs there.0 0 = after there.0 (omega arith) there.1 in absurd (omega (arith, more, here))
    ]

-- ---- documents ascend by one at least

ascend_by : (docs : List ℕ) (at more : ℕ) → IsStrictlyIncreasing docs → at + more < length docs → get_or docs at 0 + more ≤ get_or docs (at + more) 0
ascend_by docs at zero ascend inside = let same : at + 0 ≡ at = omega arith in le_of_eq (ap (λ n. n) (let e : get_or docs at 0 + 0 ≡ get_or docs at 0 = omega arith in e ∙ sym (ap (λ k. get_or docs k 0) same)))
ascend_by docs at (suc more) ascend inside =
    let next : at + suc more ≡ (at + more) + 1 = omega arith in
    let before = ascend_by docs at more ascend (omega (arith, inside)) in
    let rises : get_or docs (at + more) 0 < get_or docs ((at + more) + 1) 0 = ascend (at + more) (omega (arith, inside)) in
    let here : get_or docs (at + suc more) 0 ≡ get_or docs ((at + more) + 1) 0 = ap (λ k. get_or docs k 0) next in
    omega (arith, before, rises, here)

pub ascend_to : (docs : List ℕ) (one other : ℕ) → IsStrictlyIncreasing docs → one ≤ other → other < length docs → get_or docs one 0 + (other - one) ≤ get_or docs other 0
ascend_to docs one other ascend order inside =
    let same : one + (other - one) ≡ other = omega arith in
    let all = ascend_by docs one (other - one) ascend (omega (arith, inside)) in
    let here : get_or docs (one + (other - one)) 0 ≡ get_or docs other 0 = ap (λ k. get_or docs k 0) same in
    omega (arith, all, here)

-- an entry that stands further behind another than its document may be has a document past it
pub past_window : (docs : List ℕ) (at doc k : ℕ) → IsStrictlyIncreasing docs → doc - get_or docs at 0 < k - at → k < length docs → doc < get_or docs k 0
past_window docs at doc k ascend far inside =
    omega (arith, ascend_to docs at k ascend (omega (arith, far)) inside, far)

-- and one further before
pub before_window : (docs : List ℕ) (at doc k : ℕ) → IsStrictlyIncreasing docs → get_or docs at 0 - doc < at - k → at < length docs → get_or docs k 0 < doc
before_window docs at doc k ascend far inside =
    omega (arith, ascend_to docs k at ascend (omega (arith, far)) inside, far)
