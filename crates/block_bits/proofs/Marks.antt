-- Flags by their words: one bit of one word each.
use Rattle.std.proofs.Common.{◌≡◌, ◌≢◌, ℕ, ◌+◌, ◌*◌, ◌/◌, ◌%◌, ◌^◌, ◌<◌, Bool, true, false, List, length, get_or, set, replicate, refl, sym, ap, ◌∙◌, inl, inr, arith, eqb, bit_and, bit_or}
use Rattle.std.specs.Int.{bit_at, w64, bit_not}
use Rattle.std.proofs.lemmas.List.{same_lists, get_or_read, get_or_past, get_or-set_same, get_or-set_other, length-set, length-replicate, get_or-replicate, get_or_default}
use Rattle.std.proofs.lemmas.List.FromFn.{length-map-range_with_len, get_or-map-range_with_len}
use Rattle.std.proofs.lemmas.Nat.Bits.{shr_and_one, bit_at-zero, bit_at_set_same, bit_at_set_other, bit_at_clear_same, bit_at_clear_other}
use Rattle.std.proofs.lemmas.Bool.{cases_eq, cases_lt}
use Rattle.block_bits.specs.Flags.{is_set, flags, IsTight}

pub length-flags : (words : List ℕ) (len : ℕ) → length (flags words len) ≡ len
unfolding flags
length-flags words len = length-map-range_with_len (is_set words) 0 len

pub get_or-flags : (words : List ℕ) (len at : ℕ) (d : Bool) → at < len → get_or (flags words len) at d ≡ is_set words at
unfolding flags
get_or-flags words len at d h = get_or-map-range_with_len (is_set words) 0 len at at d h (omega arith)

-- the test of the bit that a document is
pub is_set-read : (words : List ℕ) (at word : ℕ) → at / 64 < length words → word ≡ get_or words (at / 64) word → eqb (bit_and (word / 2 ^ (at % 64)) 1) 1 ≡ is_set words at
unfolding is_set
is_set-read words at word h e =
    rw (shr_and_one word (at % 64))
    (ap (λ w. eqb (bit_at w (at % 64)) 1) (e ∙ get_or_default words (at / 64) word 0 h))

-- a word changed at one bit: the document of that bit has the new flag, and every other its old one
pub record IsChangedAt (old new place : ℕ) (flag : Bool) : Type 0 where
  pub here : eqb (bit_at new place) 1 ≡ flag
  pub others : (other : ℕ) → other < 64 → other ≢ place → bit_at new other ≡ bit_at old other

pub is_set-changed : (words : List ℕ) (at new : ℕ) (flag : Bool) → at / 64 < length words → IsChangedAt (get_or words (at / 64) 0) new (at % 64) flag
    → (is_set (set words (at / 64) new) at ≡ flag) × ((other : ℕ) → other ≢ at → is_set (set words (at / 64) new) other ≡ is_set words other)
unfolding is_set
is_set-changed words at new flag h changed = (
  ap (λ w. eqb (bit_at w (at % 64)) 1) (get_or-set_same words (at / 64) new 0 h) ∙ changed.here,
  λ other apart. elim (cases_eq (other / 64) (at / 64)) [
    | inl same ↦
        let place_apart : other % 64 ≢ at % 64 = λ e. apart (omega arith) in
        ap (λ w. eqb (bit_at w (other % 64)) 1) (ap (λ k. get_or (set words (at / 64) new) k 0) same ∙ get_or-set_same words (at / 64) new 0 h)
        ∙ ap (λ b. eqb b 1) (changed.others (other % 64) (omega arith) place_apart)
        ∙ ap (λ k. eqb (bit_at (get_or words k 0) (other % 64)) 1) (sym same)
    | inr differ ↦ ap (λ w. eqb (bit_at w (other % 64)) 1) (get_or-set_other words (at / 64) (other / 64) new 0 differ)
  ],
)

-- and so have the flags
pub flags-changed : (words : List ℕ) (len at new : ℕ) (flag : Bool) → at < len → at / 64 < length words → IsChangedAt (get_or words (at / 64) 0) new (at % 64) flag
    → flags (set words (at / 64) new) len ≡ set (flags words len) at flag
flags-changed words len at new flag short h changed =
    let spread = is_set-changed words at new flag h changed in
    let old_long = length-flags words len in
    let new_long = length-flags (set words (at / 64) new) len in
    same_lists _ _ (new_long ∙ sym (length-set (flags words len) at flag ∙ old_long))
    (λ k d below.
    let in_new : k < len = omega (arith, new_long) in
    get_or-flags (set words (at / 64) new) len k d in_new ∙
    elim (cases_eq k at) [
      | inl same ↦ ap (is_set (set words (at / 64) new)) same ∙ spread.0 ∙ sym (ap (λ j. get_or (set (flags words len) at flag) j d) same ∙ get_or-set_same (flags words len) at flag d (omega (arith, old_long)))
      | inr differ ↦ spread.1 k differ ∙ sym (get_or-set_other (flags words len) at k flag d differ ∙ get_or-flags words len k d in_new)
    ])

pub IsTight-changed : (words : List ℕ) (len at new : ℕ) (flag : Bool) → at < len → at / 64 < length words → IsChangedAt (get_or words (at / 64) 0) new (at % 64) flag
    → IsTight words len → IsTight (set words (at / 64) new) len
IsTight-changed words len at new flag short h changed tight = record {
  small = tight.small;
  long = length-set words (at / 64) new ∙ tight.long;
  clear = λ k past. (is_set-changed words at new flag h changed).1 k (λ e. omega arith) ∙ tight.clear k past;
}

-- the words that `set` and `clear` write
pub IsChangedAt-set : (words : List ℕ) (at word : ℕ) → at / 64 < length words → word ≡ get_or words (at / 64) word
    → IsChangedAt (get_or words (at / 64) 0) (bit_or word (1 * 2 ^ (at % 64) % 2 ^ 64)) (at % 64) true
IsChangedAt-set words at word h e =
    let read = e ∙ get_or_default words (at / 64) word 0 h in
    record {
      here = ap (λ b. eqb b 1) (bit_at_set_same w64 word (at % 64) (omega arith));
      others = λ other within apart. bit_at_set_other w64 word (at % 64) (omega arith) other apart ∙ ap (λ w. bit_at w other) read;
    }

pub IsChangedAt-clear : (words : List ℕ) (at word : ℕ) → at / 64 < length words → word ≡ get_or words (at / 64) word
    → IsChangedAt (get_or words (at / 64) 0) (bit_and word (bit_not w64 (1 * 2 ^ (at % 64) % 2 ^ 64))) (at % 64) false
IsChangedAt-clear words at word h e =
    let read = e ∙ get_or_default words (at / 64) word 0 h in
    record {
      here = ap (λ b. eqb b 1) (bit_at_clear_same w64 word (at % 64) (omega arith));
      others = λ other within apart. bit_at_clear_other w64 word (at % 64) (omega arith) other within apart ∙ ap (λ w. bit_at w other) read;
    }

-- ---- a word written

-- a document of word `place` goes by the word that was written there, and every other is as it was
pub is_set-written : (words : List ℕ) (place new at : ℕ) → place < length words → at / 64 ≡ place → is_set (set words place new) at ≡ eqb (bit_at new (at % 64)) 1
unfolding is_set
is_set-written words place new at h here =
    ap (λ word. eqb (bit_at word (at % 64)) 1) (ap (λ k. get_or (set words place new) k 0) here ∙ get_or-set_same words place new 0 h)

pub is_set-kept : (words : List ℕ) (place new at : ℕ) → at / 64 ≢ place → is_set (set words place new) at ≡ is_set words at
unfolding is_set
is_set-kept words place new at apart =
    ap (λ word. eqb (bit_at word (at % 64)) 1) (get_or-set_other words place (at / 64) new 0 apart)

-- ---- a set of `value`, by its words

pub len_is : (words : List ℕ) (len : ℕ) (value : List Bool) → flags words len ≡ value → len ≡ length value
len_is words len value e = sym (length-flags words len) ∙ ap length e

-- each document has a word
pub word_is_there : (words : List ℕ) (len at : ℕ) (value : List Bool) → flags words len ≡ value → IsTight words len → at < length value → at / 64 < length words
word_is_there words len at value e tight h = omega (arith, tight.long, len_is words len value e)

pub flag-read : (words : List ℕ) (len at word : ℕ) (value : List Bool) → flags words len ≡ value → IsTight words len → at < length value → word ≡ get_or words (at / 64) word
    → eqb (bit_and (word / 2 ^ (at % 64)) 1) 1 ≡ get_or value at false
flag-read words len at word value e tight h read =
    is_set-read words at word (word_is_there words len at value e tight h) read
    ∙ sym (get_or-flags words len at false (omega (arith, len_is words len value e)))
    ∙ ap (λ marks. get_or marks at false) e

pub value-changed : (words : List ℕ) (len at new : ℕ) (flag : Bool) (value : List Bool) → flags words len ≡ value → IsTight words len → at < length value
    → IsChangedAt (get_or words (at / 64) 0) new (at % 64) flag → flags (set words (at / 64) new) len ≡ set value at flag
value-changed words len at new flag value e tight h changed =
    flags-changed words len at new flag (omega (arith, len_is words len value e)) (word_is_there words len at value e tight h) changed
    ∙ ap (λ marks. set marks at flag) e

pub tight-changed : (words : List ℕ) (len at new : ℕ) (flag : Bool) (value : List Bool) → flags words len ≡ value → IsTight words len → at < length value
    → IsChangedAt (get_or words (at / 64) 0) new (at % 64) flag → IsTight (set words (at / 64) new) len
tight-changed words len at new flag value e tight h changed =
    IsTight-changed words len at new flag (omega (arith, len_is words len value e)) (word_is_there words len at value e tight h) changed tight

-- ---- the empty set

is_set-zeros : (n at : ℕ) → is_set (replicate n 0) at ≡ false
unfolding is_set
is_set-zeros n at =
    let zero_word : get_or (replicate n 0) (at / 64) 0 ≡ 0 = elim (cases_lt (at / 64) n) [
      | inl inside ↦ get_or-replicate n (at / 64) 0 0 inside
      | inr past ↦ get_or_past (replicate n 0) (at / 64) 0 (omega (arith, length-replicate {A = ℕ} n 0))
    ]
    in ap (λ w. eqb (bit_at w (at % 64)) 1) zero_word ∙ ap (λ b. eqb b 1) (bit_at-zero (at % 64))

pub flags-zeros : (n len : ℕ) → flags (replicate n 0) len ≡ replicate len false
flags-zeros n len =
    let long = length-flags (replicate n 0) len in
    same_lists _ _ (long ∙ sym (length-replicate len false))
    (λ k d below.
    let inside : k < len = omega (arith, long) in
    get_or-flags (replicate n 0) len k d inside ∙ is_set-zeros n k ∙ sym (get_or-replicate len k false d inside))

pub IsTight-zeros : (n len : ℕ) → len < 2 ^ 32 → n ≡ (len + 63) / 64 → IsTight (replicate n 0) len
IsTight-zeros n len small e = record { small = small; long = length-replicate n 0 ∙ e; clear = λ k past. is_set-zeros n k }

-- ---- a whole word

-- document `64 * place + i` is bit i of word `place`
pub is_set-bit : (words : List ℕ) (place i : ℕ) → i < 64 → is_set words (64 * place + i) ≡ eqb (bit_at (get_or words place 0) i) 1
unfolding is_set
is_set-bit words place i h =
    let whole : (64 * place + i) / 64 ≡ place = omega arith in
    let rest : (64 * place + i) % 64 ≡ i = omega arith in
    rw (whole, rest) refl

pub word-read : (words : List ℕ) (len place i word : ℕ) (value : List Bool) → flags words len ≡ value → IsTight words len → place < length words → word ≡ get_or words place word → i < 64
    → eqb (bit_at word i) 1 ≡ get_or value (64 * place + i) false
word-read words len place i word value view tight there read h =
    let at = 64 * place + i in
    let shown : is_set words at ≡ get_or value at false = elim (cases_lt at len) [
      | inl inside ↦ sym (get_or-flags words len at false inside) ∙ ap (λ marks. get_or marks at false) view
      | inr past ↦ tight.clear at past ∙ sym (get_or_past value at false (omega (arith, len_is words len value view)))
    ]
    in ap (λ w. eqb (bit_at w i) 1) (get_or_read words place word there read 0) ∙ sym (is_set-bit words place i h) ∙ shown
