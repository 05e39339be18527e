-- A walk, by its u64 in hand.
use Rattle.std.proofs.Common.{◌≡◌, ℕ, ◌+◌, ◌-◌, ◌*◌, ◌/◌, ◌<◌, ◌≤◌, Bool, false, not, List, length, take, Option, Some, None, IfSome, sym, ap, ◌∙◌, inl, inr, arith, eqb, ltb}
use Rattle.std.proofs.lemmas.Bool.{cases_lt, lt-ltb, le-ltb, ne_eqb, true≢false}
use Rattle.std.proofs.lemmas.Nat.{le-div, div_below}
use Rattle.block_bits.specs.Flags.{flags, is_marked}
use Rattle.block_bits.specs.Places.{next_place}
use Rattle.block_bits.specs.Walks.{Walking, IsAnswered}
use Rattle.block_bits.proofs.Marks.{length-flags}
use Rattle.block_bits.proofs.Search.{first_is_next, reaches_end, none_up_to, next_of-found, next_of-past}

pub walk_long : (words : List ℕ) (len from : ℕ) (walk : Walking) → record { documents = flags words len; from = from } ≡ walk → len ≡ length walk.documents
walk_long words len from walk e = sym (length-flags words len) ∙ ap (λ (it : Walking). length it.documents) e

pub walk_flags : (words : List ℕ) (len from : ℕ) (walk : Walking) → record { documents = flags words len; from = from } ≡ walk → flags words len ≡ walk.documents
walk_flags words len from walk e = ap (λ (it : Walking). it.documents) e

pub walk_from : (words : List ℕ) (len from : ℕ) (walk : Walking) → record { documents = flags words len; from = from } ≡ walk → from ≡ walk.from
walk_from words len from walk e = ap (λ (it : Walking). it.from) e

pub answer_reaches : (words : List ℕ) (from place word end : ℕ) → IsAnswered words from place word end None → end ≤ 64 * (place + 1)
answer_reaches words from place word end it = reaches_end place word ((end - 1) / 64) end it.none it.up_to (omega (arith, it.some))

pub answer_is : (words : List ℕ) (len from place word end : ℕ) (value : List Bool) (result : Option ℕ) → flags words len ≡ value → end ≤ length value → IsAnswered words from place word end result
    → result ≡ next_place is_marked from (take end value)
answer_is words len from place word end value None view short it =
    sym (next_of-past words len from end end value view short (omega arith) (none_up_to words from place word end it.searched it.none (answer_reaches words from place word end it)))
answer_is words len from place word end value (Some at) view short it =
    sym (next_of-found words len from end at value view short it.first.1 (first_is_next words from place word at it.searched it.first.0))

pub answer_within : (words : List ℕ) (from place word end : ℕ) (result : Option ℕ) → IsAnswered words from place word end result → IfSome result (λ at. (from ≤ at) × (at < end))
answer_within words from place word end None it = tt
answer_within words from place word end (Some at) it = ((first_is_next words from place word at it.searched it.first.0).later, it.first.1)

-- a number has no bit past some exactly where it is below their power of two
pub no_quotient : (w p : ℕ) → 0 < p → eqb (w / p) 0 ≡ ltb w p
no_quotient w p some = elim (cases_lt w p) [
  | inl below ↦
      let less : w / p < 1 = div_below w p 1 some (omega arith) in
      let none : w / p ≡ 0 = omega (arith, less) in
      ap (λ q. eqb q 0) none ∙ sym (lt-ltb w p below)
  | inr on ↦
      let whole : 1 ≤ w / p = le-div 1 w p some (omega arith) in
      ne_eqb (w / p) 0 (λ e. omega (arith, e, whole)) ∙ sym (le-ltb w p on)
]

pub below_from : (w p : ℕ) → not (ltb w p) ≡ false → w < p
below_from w p e = elim (cases_lt w p) [
  | inl below ↦ below
  | inr on ↦ absurd (true≢false (sym (ap not (le-ltb w p on)) ∙ e))
]
