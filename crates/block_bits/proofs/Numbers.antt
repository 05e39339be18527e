-- A set's u64s as a function of its flags, and back.
use Rattle.std.proofs.Common.{◌≡◌, ℕ, zero, suc, ◌+◌, ◌*◌, ◌/◌, ◌%◌, ◌^◌, ◌<◌, ◌≤◌, Bool, true, false, cond, List, [], ◌∷◌, length, get_or, take, drop, refl, sym, ap, ◌∙◌, inl, inr, arith, eqb}
use Rattle.std.specs.Int.{bit_at}
use Rattle.std.proofs.lemmas.List.{same_lists, get_or-take, get_or-drop, get_or_past, get_or_default, length-take, length-drop}
use Rattle.std.proofs.lemmas.List.FromFn.{length-map-range_with_len, get_or-map-range_with_len, fill_by_all}
use Rattle.std.proofs.lemmas.Nat.{pow_pos}
use Rattle.std.proofs.lemmas.Nat.Bits.{bit_at-lt, bit_at-zero, bit_at_lowest, bit_at-suc, bit_at_above, same_from_bits_below}
use Rattle.std.proofs.lemmas.Bool.{cases_lt}
use Rattle.block_bits.specs.Flags.{is_set, flags, IsTight}
use Rattle.block_bits.specs.Words.{bits_number, word_at, words_of}
use Rattle.block_bits.proofs.Marks.{len_is, word-read}
use Rattle.block_bits.proofs.Combined.{is_set-past}
use Rattle.block_bits.proofs.OneEach.{bit_is_flag}

-- ---- the number of some flags

one_or_none : (flag : Bool) → cond flag 1 0 ≤ 1
one_or_none true = omega arith
one_or_none false = omega arith

pub bits_number-lt : (marks : List Bool) (n : ℕ) → length marks ≤ n → bits_number marks < 2 ^ n
bits_number-lt [] n h = pow_pos n
bits_number-lt (flag ∷ marks) zero h = absurd (omega arith)
bits_number-lt (flag ∷ marks) (suc n) h = omega (arith, one_or_none flag, bits_number-lt marks n (omega arith))

lowest : (flag : Bool) (n : ℕ) → eqb ((cond flag 1 0 + 2 * n) % 2) 1 ≡ flag
lowest true n = let e : (1 + 2 * n) % 2 ≡ 1 = omega arith in ap (λ b. eqb b 1) e
lowest false n = let e : (0 + 2 * n) % 2 ≡ 0 = omega arith in ap (λ b. eqb b 1) e

half : (flag : Bool) (n : ℕ) → (cond flag 1 0 + 2 * n) / 2 ≡ n
half true n = omega arith
half false n = omega arith

pub bit_at-bits_number : (marks : List Bool) (i : ℕ) → eqb (bit_at (bits_number marks) i) 1 ≡ get_or marks i false
bit_at-bits_number [] i = ap (λ b. eqb b 1) (bit_at-zero i) ∙ sym (get_or_past [] i false (omega arith))
bit_at-bits_number (flag ∷ marks) zero = ap (λ b. eqb b 1) (bit_at_lowest (bits_number (flag ∷ marks))) ∙ lowest flag (bits_number marks)
bit_at-bits_number (flag ∷ marks) (suc i) =
    ap (λ b. eqb b 1) (bit_at-suc (bits_number (flag ∷ marks)) i ∙ ap (λ n. bit_at n i) (half flag (bits_number marks)))
    ∙ bit_at-bits_number marks i

-- ---- the u64s

same_bit : (a b : ℕ) → a < 2 → b < 2 → eqb a 1 ≡ eqb b 1 → a ≡ b
same_bit a b h k e = bit_is_flag a (eqb b 1) h e ∙ sym (bit_is_flag b (eqb b 1) k refl)

bit_at-word_at : (marks : List Bool) (place i : ℕ) → i < 64 → eqb (bit_at (word_at marks place) i) 1 ≡ get_or marks (64 * place + i) false
bit_at-word_at marks place i h =
    bit_at-bits_number (take 64 (drop (64 * place) marks)) i
    ∙ get_or-take 64 (drop (64 * place) marks) i false h
    ∙ get_or-drop (64 * place) marks i false

word_is : (words : List ℕ) (len place : ℕ) (value : List Bool) → flags words len ≡ value → IsTight words len → place < length words → get_or words place 0 < 2 ^ 64
    → get_or words place 0 ≡ word_at value place
word_is words len place value view tight there fits =
    let own = get_or words place 0 in
    same_from_bits_below 64 own (word_at value place) fits
    (bits_number-lt (take 64 (drop (64 * place) value)) 64 (omega (arith, length-take 64 (drop (64 * place) value))))
    (λ i h.
    same_bit (bit_at own i) (bit_at (word_at value place) i) (bit_at-lt own i) (bit_at-lt (word_at value place) i)
    (word-read words len place i own value view tight there (get_or_default words place 0 own there) h ∙ sym (bit_at-word_at value place i h)))

pub words_are : (words : List ℕ) (len : ℕ) (value : List Bool) → flags words len ≡ value → IsTight words len → ((k : ℕ) → k < length words → get_or words k 0 < 2 ^ 64)
    → words ≡ words_of value
unfolding words_of
words_are words len value view tight fit =
    fill_by_all (word_at value) words ((length value + 63) / 64) 0 (tight.long ∙ ap (λ n. (n + 63) / 64) (len_is words len value view))
    (λ k below.
    let there : k < length words = omega (arith, below, tight.long, len_is words len value view) in
    word_is words len k value view tight there (fit k there))

pub length-words_of : (marks : List Bool) → length (words_of marks) ≡ (length marks + 63) / 64
unfolding words_of
length-words_of marks = length-map-range_with_len (word_at marks) 0 ((length marks + 63) / 64)

get_or-words_of : (marks : List Bool) (place : ℕ) → place < (length marks + 63) / 64 → get_or (words_of marks) place 0 ≡ word_at marks place
unfolding words_of
get_or-words_of marks place h = get_or-map-range_with_len (word_at marks) 0 ((length marks + 63) / 64) place place 0 h (omega arith)

flag_of_words : (marks : List Bool) (k : ℕ) → k < length marks → get_or marks k false ≡ eqb (bit_at (get_or (words_of marks) (k / 64) 0) (k % 64)) 1
flag_of_words marks k h =
    let here : 64 * (k / 64) + k % 64 ≡ k = omega arith in
    sym (ap (λ w. eqb (bit_at w (k % 64)) 1) (get_or-words_of marks (k / 64) (omega arith))
    ∙ bit_at-word_at marks (k / 64) (k % 64) (omega arith)
    ∙ ap (λ j. get_or marks j false) here)

pub one_set : (marks others : List Bool) → length marks ≡ length others → words_of marks ≡ words_of others → marks ≡ others
one_set marks others long same =
    same_lists marks others long
    (λ k d below.
    let under : k < length others = omega (arith, below, long) in
    get_or_default marks k d false below
    ∙ flag_of_words marks k below
    ∙ ap (λ words. eqb (bit_at (get_or words (k / 64) 0) (k % 64)) 1) same
    ∙ sym (flag_of_words others k under)
    ∙ get_or_default others k false d under)

-- ---- which u64s are those of a set

pub tight_from : (words : List ℕ) (len : ℕ) → len < 2 ^ 32 → length words ≡ (len + 63) / 64 → get_or words (len / 64) 0 < 2 ^ (len % 64) → IsTight words len
unfolding is_set
tight_from words len small long short = record {
  small = small;
  long = long;
  clear = λ at past. elim (cases_lt (at / 64) (length words)) [
    | inr beyond ↦ is_set-past words at beyond
    | inl inside ↦
        let here : at / 64 ≡ len / 64 = omega (arith, inside, long, past) in
        ap (λ k. eqb (bit_at (get_or words k 0) (at % 64)) 1) here
        ∙ ap (λ b. eqb b 1) (bit_at_above (get_or words (len / 64) 0) (len % 64) (at % 64) short (omega (arith, here, past)))
  ];
}

-- the last u64 of a set has no bit past the last document
pub last_word : (marks : List Bool) → get_or (words_of marks) (length marks / 64) 0 < 2 ^ (length marks % 64)
last_word marks = elim (cases_lt (length marks / 64) ((length marks + 63) / 64)) [
  | inl inside ↦
      let place = length marks / 64 in
      let cut = take 64 (drop (64 * place) marks) in
      rw (get_or-words_of marks place inside)
      (bits_number-lt cut (length marks % 64) (omega (arith, length-take 64 (drop (64 * place) marks), length-drop (64 * place) marks)))
  | inr past ↦ rw (get_or_past (words_of marks) (length marks / 64) 0 (omega (arith, past, length-words_of marks))) (pow_pos (length marks % 64))
]
