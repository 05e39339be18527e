-- The sets that hold a document, counted; and the bits of a word that say so.
use Rattle.std.proofs.Common.{◌≡◌, ℕ, zero, suc, ◌+◌, ◌-◌, ◌*◌, ◌^◌, ◌<◌, ◌≤◌, Bool, false, cond, List, [], ◌∷◌, length, get_or, take, min, refl, sym, ap, ◌∙◌, inl, inr, arith, eqb, ltb, bit_and, bit_or}
use Rattle.std.specs.Int.{bit_at}
use Rattle.std.specs.List.{All}
use Rattle.std.proofs.lemmas.List.{get_or_past}
use Rattle.std.proofs.lemmas.List.Sums.{sum_by-append, sum_by_more, sum_by-take-le}
use Rattle.std.proofs.lemmas.List.Elements.{All-head, All-tail}
use Rattle.std.proofs.lemmas.Nat.Bits.{bit_at_and, bit_at_or, bit_at-lt, bit_at-zero, same_from_bits_below, bit_at_ones, bit_at_ones_above}
use Rattle.std.proofs.lemmas.Nat.{and_le_l}
use Rattle.std.proofs.lemmas.Bool.{cases_lt, lt-ltb, le-ltb}
use Rattle.block_bits.specs.OneScope.{has_document, set_count, HasOneIn}

pub set_count-nil : (doc : ℕ) → set_count [] doc ≡ 0
unfolding set_count
set_count-nil doc = refl

pub set_count-cons : (flags : List Bool) (sets : List (List Bool)) (doc : ℕ) → set_count (flags ∷ sets) doc ≡ cond (get_or flags doc false) 1 0 + set_count sets doc
unfolding set_count
set_count-cons flags sets doc = sum_by-append (λ one. cond (has_document doc one) 1 0) (flags ∷ []) sets ∙ omega arith

-- one set more
pub set_count-more : (sets : List (List Bool)) (i doc : ℕ) (d : List Bool) → i < length sets → set_count (take (i + 1) sets) doc ≡ set_count (take i sets) doc + cond (get_or (get_or sets i d) doc false) 1 0
unfolding set_count
set_count-more sets i doc d h = sum_by_more (λ flags. cond (has_document doc flags) 1 0) sets i d h

-- some of the sets have no more
pub set_count-take : (sets : List (List Bool)) (i doc : ℕ) → set_count (take i sets) doc ≤ set_count sets doc
unfolding set_count
set_count-take sets i doc = sum_by-take-le (λ flags. cond (has_document doc flags) 1 0) sets i

-- past the last document no set has one
pub set_count-past : (sets : List (List Bool)) (len doc : ℕ) → All (λ flags. length flags ≡ len) sets → len ≤ doc → set_count sets doc ≡ 0
set_count-past [] len doc lengths past = set_count-nil doc
set_count-past (flags ∷ sets) len doc lengths past =
    set_count-cons flags sets doc
    ∙ ap (λ flag. cond flag 1 0 + set_count sets doc) (get_or_past flags doc false (omega (arith, All-head (λ one. length one ≡ len) flags sets lengths)))
    ∙ omega (arith, set_count-past sets len doc (All-tail (λ one. length one ≡ len) flags sets lengths) past)

pub bit_is_flag : (bit : ℕ) (flag : Bool) → bit < 2 → eqb bit 1 ≡ flag → bit ≡ cond flag 1 0
bit_is_flag zero flag h e = ap (λ (b : Bool). cond b 1 0) e
bit_is_flag (suc zero) flag h e = ap (λ (b : Bool). cond b 1 0) e
bit_is_flag (suc (suc bit)) flag h e = absurd (omega arith)

-- `word` is word `place` of the set at index `i`, and a bit of `seen` is the number of sets before with its document
pub record IsSeen (sets : List (List Bool)) (len place i seen word : ℕ) (flags : List Bool) : Type 0 where
  pub lengths : All (λ one. length one ≡ len) sets
  pub inside : i < length sets
  pub read : flags ≡ get_or sets i flags
  pub word_is : (bit : ℕ) → bit < 64 → eqb (bit_at word bit) 1 ≡ get_or flags (64 * place + bit) false
  pub counted : (bit : ℕ) → bit < 64 → bit_at seen bit ≡ set_count (take i sets) (64 * place + bit)

word_bit : (sets : List (List Bool)) (len place i seen word : ℕ) (flags : List Bool) → IsSeen sets len place i seen word flags → (bit : ℕ) → bit < 64
    → set_count (take (i + 1) sets) (64 * place + bit) ≡ bit_at seen bit + bit_at word bit
word_bit sets len place i seen word flags it bit h =
    set_count-more sets i (64 * place + bit) flags it.inside
    ∙ omega (
      arith,
      it.counted bit h,
      bit_is_flag (bit_at word bit) (get_or flags (64 * place + bit) false) (bit_at-lt word bit) (it.word_is bit h),
      ap {B = ℕ} (λ (one : List Bool). cond (get_or one (64 * place + bit) false) 1 0) it.read,
    )

pub seen_more : (sets : List (List Bool)) (len place i seen word : ℕ) (flags : List Bool) → IsSeen sets len place i seen word flags → bit_and seen word ≡ 0
    → (bit : ℕ) → bit < 64 → bit_at (bit_or seen word) bit ≡ set_count (take (i + 1) sets) (64 * place + bit)
seen_more sets len place i seen word flags it apart bit h =
    let none : min (bit_at seen bit) (bit_at word bit) ≡ 0 = sym (bit_at_and seen word bit) ∙ ap (λ n. bit_at n bit) apart ∙ bit_at-zero bit in
    bit_at_or seen word bit ∙ omega arith ∙ sym (word_bit sets len place i seen word flags it bit h)

-- sets that share a document don't have each in one set
pub shared : (sets : List (List Bool)) (len place i seen word : ℕ) (flags : List Bool) → IsSeen sets len place i seen word flags → seen < 2 ^ 64 → HasOneIn sets len place → bit_and seen word ≡ 0
shared sets len place i seen word flags it fits one =
    same_from_bits_below 64 (bit_and seen word) 0 (omega (arith, and_le_l seen word)) (omega arith)
    (λ bit h.
    let doc = 64 * place + bit in
    let most : set_count sets doc ≤ 1 = elim (cases_lt doc len) [
      | inl inside ↦ omega (arith, one doc (omega arith) (omega arith) inside)
      | inr past ↦ omega (arith, set_count-past sets len doc it.lengths past)
    ]
    in bit_at_and seen word bit ∙ omega (arith, word_bit sets len place i seen word flags it bit h, set_count-take sets (i + 1) doc) ∙ sym (bit_at-zero bit))

-- at the end: `seen` is the full word exactly where each document of the word is in one set
pub record IsWholeSeen (sets : List (List Bool)) (len place seen full : ℕ) : Type 0 where
  pub lengths : All (λ one. length one ≡ len) sets
  pub fits : seen < 2 ^ 64
  pub full_fits : full < 2 ^ 64
  pub full_is : (bit : ℕ) → bit < 64 → bit_at full bit ≡ cond (ltb bit (len - 64 * place)) 1 0
  pub counted : (bit : ℕ) → bit < 64 → bit_at seen bit ≡ set_count sets (64 * place + bit)

pub one_from_full : (sets : List (List Bool)) (len place seen full : ℕ) → IsWholeSeen sets len place seen full → seen ≡ full → HasOneIn sets len place
one_from_full sets len place seen full it same doc low high inside =
    let bit = doc - 64 * place in
    let here : 64 * place + bit ≡ doc = omega arith in
    ap (set_count sets) (sym here) ∙ sym (it.counted bit (omega arith)) ∙ ap (λ n. bit_at n bit) same ∙ it.full_is bit (omega arith)
    ∙ ap (λ (b : Bool). cond b 1 0) (lt-ltb bit (len - 64 * place) (omega arith))

pub full_from_one : (sets : List (List Bool)) (len place seen full : ℕ) → IsWholeSeen sets len place seen full → HasOneIn sets len place → seen ≡ full
full_from_one sets len place seen full it one =
    same_from_bits_below 64 seen full it.fits it.full_fits
    (λ bit h.
    let doc = 64 * place + bit in
    elim (cases_lt doc len) [
      | inl inside ↦
          it.counted bit h ∙ one doc (omega arith) (omega arith) inside
          ∙ sym (it.full_is bit h ∙ ap (λ (b : Bool). cond b 1 0) (lt-ltb bit (len - 64 * place) (omega arith)))
      | inr past ↦
          it.counted bit h ∙ set_count-past sets len doc it.lengths past
          ∙ sym (it.full_is bit h ∙ ap (λ (b : Bool). cond b 1 0) (le-ltb bit (len - 64 * place) (omega arith)))
    ])

-- ---- the full word

pub full-some : (count bit : ℕ) → bit_at (2 ^ count - 1) bit ≡ cond (ltb bit count) 1 0
full-some count bit = elim (cases_lt bit count) [
  | inl inside ↦ bit_at_ones count bit inside ∙ sym (ap (λ (b : Bool). cond b 1 0) (lt-ltb bit count inside))
  | inr past ↦ bit_at_ones_above count bit past ∙ sym (ap (λ (b : Bool). cond b 1 0) (le-ltb bit count past))
]

pub full-all : (count bit : ℕ) → 64 ≤ count → bit < 64 → bit_at (2 ^ 64 - 1) bit ≡ cond (ltb bit count) 1 0
full-all count bit many h = bit_at_ones 64 bit h ∙ sym (ap (λ (b : Bool). cond b 1 0) (lt-ltb bit count (omega arith)))

-- ---- word after word

pub one_more_word : (sets : List (List Bool)) (len place : ℕ) → ((doc : ℕ) → doc < 64 * place → doc < len → set_count sets doc ≡ 1) → HasOneIn sets len place
    → (doc : ℕ) → doc < 64 * (place + 1) → doc < len → set_count sets doc ≡ 1
one_more_word sets len place so_far here doc below inside = elim (cases_lt doc (64 * place)) [
  | inl earlier ↦ so_far doc earlier inside
  | inr on ↦ here doc on below inside
]
