-- The search for a set bit, word by word.
use Rattle.std.proofs.Common.{◌≡◌, ◌≢◌, ℕ, zero, suc, refl, ◌+◌, ◌-◌, ◌*◌, ◌/◌, ◌%◌, ◌^◌, ◌<◌, ◌≤◌, Bool, true, false, List, length, get_or, take, Some, None, min, sym, ap, subst, ◌∙◌, inl, inr, arith, eqb, bit_and, bit_or}
use Rattle.std.specs.Int.{bit_at, w64, bit_not, trailing_zeros, leading_zeros}
use Rattle.std.proofs.lemmas.List.{get_or-take, get_or_past, length-take}
use Rattle.std.proofs.lemmas.Nat.{and_le_l, le_or_l, le_or_r, leading_top, shr_below, le-div, pow_pos}
use Rattle.std.proofs.lemmas.Nat.Bits.{bit_at_and, bit_at-zero, bit_at-lt, ones_shl, ones_shr, bit_at_mask_inside, bit_at_mask_below, bit_at_ones, bit_at_ones_above, bit_at-trailing_zeros, bit_at_above, bit_at_clear_same, bit_at_clear_other}
use Rattle.std.proofs.lemmas.Bool.{cases_eq, cases_lt}
use Rattle.block_bits.specs.Flags.{is_marked, is_set, flags}
use Rattle.block_bits.specs.Places.{next_place, previous_place}
use Rattle.block_bits.specs.Walks.{IsSearched, IsFirstIn, HasNoneBefore}
use Rattle.block_bits.proofs.Marks.{get_or-flags, len_is, is_set-bit}
use Rattle.block_bits.proofs.Places.{next_place-first, next_place-none, previous_place-last, previous_place-none}

-- a fact of each bit of a word is one of each of its documents
by_bit : (P : ℕ → Type 0) (place : ℕ) → ((i : ℕ) → i < 64 → P (64 * place + i)) → (k : ℕ) → 64 * place ≤ k → k < 64 * (place + 1) → P k
by_bit P place each k low high =
    let here : 64 * place + (k - 64 * place) ≡ k = omega arith in
    subst P here (each (k - 64 * place) (omega arith))

-- ---- upwards

pub search_begins : (words : List ℕ) (from word : ℕ) → word < 2 ^ 64 → word ≡ get_or words (from / 64) 0 → IsSearched words from (from / 64) (bit_and word ((2 ^ 64 - 1) * 2 ^ (from % 64) % 2 ^ 64))
search_begins words from word fits read =
    let low_part = from % 64 in
    let small : low_part ≤ 64 = omega arith in
    rw (ones_shl 64 low_part small)
    record {
      low = omega arith;
      fits = omega (arith, and_le_l word (2 ^ 64 - 2 ^ low_part));
      bits = λ i h later.
          bit_at_and word (2 ^ 64 - 2 ^ low_part) i
          ∙ ap (λ b. min (bit_at word i) b) (bit_at_mask_inside low_part 64 i (omega arith) h)
          ∙ omega (arith, bit_at-lt word i)
          ∙ ap (λ w. bit_at w i) read;
      under = λ i h earlier.
          bit_at_and word (2 ^ 64 - 2 ^ low_part) i
          ∙ ap (λ b. min (bit_at word i) b) (bit_at_mask_below low_part 64 i (omega arith))
          ∙ omega arith;
      before = λ k later earlier. absurd (omega arith);
    }

pub search_past : (words : List ℕ) (from : ℕ) → length words ≤ from / 64 → IsSearched words from (from / 64) 0
search_past words from past = record {
  low = omega arith;
  fits = omega arith;
  bits = λ i h later. ap (λ w. bit_at w i) (sym (get_or_past words (from / 64) 0 past));
  under = λ i h earlier. bit_at-zero i;
  before = λ k later earlier. absurd (omega arith);
}

-- a word of none: its documents from `from` on are not set
pub none_in_word : (words : List ℕ) (from place : ℕ) → IsSearched words from place 0 → (k : ℕ) → from ≤ k → k < 64 * (place + 1) → is_set words k ≡ false
none_in_word words from place searched k later within = elim (cases_lt k (64 * place)) [
  | inl earlier ↦ searched.before k later earlier
  | inr here ↦
      by_bit (λ at. from ≤ at → is_set words at ≡ false) place
      (λ i h from_on. is_set-bit words place i h ∙ ap (λ b. eqb b 1) (sym (searched.bits i h from_on) ∙ bit_at-zero i))
      k here within later
]

pub search_goes_on : (words : List ℕ) (from place word : ℕ) → word < 2 ^ 64 → word ≡ get_or words (place + 1) 0 → IsSearched words from place 0 → IsSearched words from (place + 1) word
search_goes_on words from place word fits read searched = record {
  low = omega (arith, searched.low);
  fits = fits;
  bits = λ i h later. ap (λ w. bit_at w i) read;
  under = λ i h earlier. absurd (omega (arith, searched.low));
  before = none_in_word words from place searched;
}

-- ---- words of no document

pub none_more : (words : List ℕ) (first place all : ℕ) → (all ≡ 0 → (k : ℕ) → first ≤ k → k < first + place → get_or words k 0 ≡ 0)
    → bit_or all (get_or words (first + place) 0) ≡ 0 → (k : ℕ) → first ≤ k → k < first + (place + 1) → get_or words k 0 ≡ 0
none_more words first place all so_far none k low high = elim (cases_eq k (first + place)) [
  | inl here ↦
      let last : get_or words (first + place) 0 ≡ 0 = omega (arith, none, le_or_r all (get_or words (first + place) 0)) in
      ap (λ j. get_or words j 0) here ∙ last
  | inr apart ↦ so_far (omega (arith, none, le_or_l all (get_or words (first + place) 0))) k low (omega (arith, high, apart))
]

pub none_further : (words : List ℕ) (at far : ℕ) → ((k : ℕ) → at < k → k ≤ far → get_or words k 0 ≡ 0) → ((k : ℕ) → far + 1 ≤ k → k < far + 1 + 8 → get_or words k 0 ≡ 0)
    → (k : ℕ) → at < k → k ≤ far + 8 → get_or words k 0 ≡ 0
none_further words at far so_far run k low high = elim (cases_lt far k) [
  | inl behind ↦ run k (omega (arith, behind)) (omega (arith, high))
  | inr before ↦ so_far k low before
]

is_set-none : (words : List ℕ) (at : ℕ) → get_or words (at / 64) 0 ≡ 0 → is_set words at ≡ false
unfolding is_set
is_set-none words at none = ap (λ w. eqb (bit_at w (at % 64)) 1) none ∙ ap (λ b. eqb b 1) (bit_at-zero (at % 64))

-- the search goes on behind them
pub search_passes : (words : List ℕ) (from place far : ℕ) → place ≤ far → ((k : ℕ) → place < k → k ≤ far → get_or words k 0 ≡ 0) → IsSearched words from place 0 → IsSearched words from far 0
search_passes words from place far behind none searched = record {
  low = omega (arith, searched.low);
  fits = searched.fits;
  bits = λ i h later. elim (cases_lt place far) [
    | inl past ↦ ap (λ w. bit_at w i) (sym (none far past (omega arith)))
    | inr same ↦
        let here : place ≡ far = omega (arith, same) in
        searched.bits i h (omega (arith, later, here)) ∙ ap (λ j. bit_at (get_or words j 0) i) here
  ];
  under = λ i h earlier. bit_at-zero i;
  before = λ k later within. elim (cases_lt k (64 * (place + 1))) [
    | inl here ↦ none_in_word words from place searched k later here
    | inr past ↦ is_set-none words k (none (k / 64) (omega (arith, past)) (omega (arith, within)))
  ];
}

-- the least document at or after `from` that is set
pub record IsNext (words : List ℕ) (from at : ℕ) : Type 0 where
  pub later : from ≤ at
  pub here : is_set words at ≡ true
  pub before : (k : ℕ) → from ≤ k → k < at → is_set words k ≡ false

-- the lowest document of the word
pub first_in_word : (place word at : ℕ) → 0 < word → word < 2 ^ 64 → at ≡ 64 * place + trailing_zeros w64 word → IsFirstIn place word at
first_in_word place word at some fits is =
    let lowest = bit_at-trailing_zeros w64 word some fits in
    let i = trailing_zeros w64 word in
    let here : 64 * place + i - 64 * place ≡ i = omega arith in
    rw is record {
      low = omega arith;
      high = omega (arith, lowest.0);
      here = rw here lowest.1;
      before = λ j earlier. lowest.2 j (omega arith);
    }

pub first_is_next : (words : List ℕ) (from place word at : ℕ) → IsSearched words from place word → IsFirstIn place word at → IsNext words from at
first_is_next words from place word at searched first =
    let i = at - 64 * place in
    let inside : i < 64 = omega (arith, first.low, first.high) in
    let is : 64 * place + i ≡ at = omega (arith, first.low) in
    let later : from ≤ at = elim (cases_lt at from) [
      | inl earlier ↦ absurd (let under : bit_at word i ≡ 0 = searched.under i inside (omega (arith, earlier, is)) in omega (arith, under, first.here))
      | inr on ↦ on
    ]
    in record {
      later = later;
      here = ap (is_set words) (sym is) ∙ is_set-bit words place i inside ∙ ap (λ b. eqb b 1) (sym (searched.bits i inside (omega (arith, later, is))) ∙ first.here);
      before = λ k from_on below. elim (cases_lt k (64 * place)) [
        | inl earlier ↦ searched.before k from_on earlier
        | inr on ↦
            by_bit (λ doc. from ≤ doc → doc < at → is_set words doc ≡ false) place
            (λ j h on_from under. is_set-bit words place j h ∙ ap (λ b. eqb b 1) (sym (searched.bits j h on_from) ∙ first.before j under))
            k on (omega (arith, below, first.high)) from_on below
      ];
    }

-- ---- a word without a document before `end`

pub none_in_0 : (place end : ℕ) → HasNoneBefore place 0 end
none_in_0 place end = record { none = λ i h earlier. bit_at-zero i; reaches = λ never. absurd (omega arith) }

pub none_before_first : (place word at end : ℕ) → IsFirstIn place word at → end ≤ at → HasNoneBefore place word end
none_before_first place word at end first past = record {
  none = λ i h earlier. first.before i (omega arith);
  reaches = λ some. omega (arith, first.high);
}

-- how far the documents are known, by the last word that was to be looked at
pub reaches_end : (place word last end : ℕ) → HasNoneBefore place word end → (word ≡ 0 → last ≤ place) → end ≤ 64 * (last + 1) → end ≤ 64 * (place + 1)
reaches_end place zero last end none up_to within = omega (arith, up_to refl)
reaches_end place (suc word) last end none up_to within = none.reaches (omega arith)

pub none_up_to : (words : List ℕ) (from place word end : ℕ) → IsSearched words from place word → HasNoneBefore place word end → end ≤ 64 * (place + 1)
    → (k : ℕ) → from ≤ k → k < end → is_set words k ≡ false
none_up_to words from place word end searched none reaches k later within = elim (cases_lt k (64 * place)) [
  | inl earlier ↦ searched.before k later earlier
  | inr on ↦
      by_bit (λ doc. from ≤ doc → doc < end → is_set words doc ≡ false) place
      (λ i h on_from before. is_set-bit words place i h ∙ ap (λ b. eqb b 1) (sym (searched.bits i h on_from) ∙ none.none i h before))
      k on (omega arith) later within
]

-- ---- a walk goes on

-- behind the document that it gave
pub walk_taken : (words : List ℕ) (from place word at : ℕ) → IsSearched words from place word → IsFirstIn place word at
    → IsSearched words (at + 1) place (bit_and word (bit_not w64 (1 * 2 ^ (at % 64) % 2 ^ 64)))
walk_taken words from place word at searched first =
    let next = first_is_next words from place word at searched first in
    let here : at % 64 ≡ at - 64 * place = omega (arith, first.low, first.high) in
    record {
      low = omega (arith, first.high);
      fits = omega (arith, searched.fits, and_le_l word (bit_not w64 (1 * 2 ^ (at % 64) % 2 ^ 64)));
      bits = λ i h later.
          let apart : i ≢ at % 64 = λ e. omega (arith, e, here, first.low) in
          bit_at_clear_other w64 word (at % 64) (omega arith) i h apart ∙ searched.bits i h (omega (arith, later, next.later));
      under = λ i h earlier. elim (cases_eq i (at % 64)) [
        | inl same ↦ rw same (bit_at_clear_same w64 word (at % 64) (omega arith))
        | inr apart ↦ bit_at_clear_other w64 word (at % 64) (omega arith) i h apart ∙ first.before i (omega (arith, apart, here, first.low))
      ];
      before = λ k past earlier. absurd (omega (arith, first.low));
    }

-- at `end`, where there is none before
pub walk_passed : (words : List ℕ) (from place word end : ℕ) → IsSearched words from place word → HasNoneBefore place word end → from ≤ end → end ≤ 64 * (place + 1)
    → IsSearched words end place word
walk_passed words from place word end searched none later reaches = record {
  low = reaches;
  fits = searched.fits;
  bits = λ i h on. searched.bits i h (omega arith);
  under = λ i h earlier. none.none i h earlier;
  before = λ k on earlier. searched.before k (omega arith) earlier;
}

-- the flags of a set of `value`, cut at `end`
cut_flag : (words : List ℕ) (len end k : ℕ) (value : List Bool) → flags words len ≡ value → end ≤ length value → k < end → get_or (take end value) k false ≡ is_set words k
cut_flag words len end k value view short h =
    get_or-take end value k false h ∙ sym (ap (λ marks. get_or marks k false) view) ∙ get_or-flags words len k false (omega (arith, len_is words len value view))

pub next_of-found : (words : List ℕ) (len from end at : ℕ) (value : List Bool) → flags words len ≡ value → end ≤ length value → at < end → IsNext words from at → next_place is_marked from (take end value) ≡ Some at
next_of-found words len from end at value view short inside next =
    next_place-first is_marked from at (take end value) false next.later (omega (arith, length-take end value))
    (λ k later before. cut_flag words len end k value view short (omega arith) ∙ next.before k later before)
    (cut_flag words len end at value view short inside ∙ next.here)

pub next_of-past : (words : List ℕ) (len from end at : ℕ) (value : List Bool) → flags words len ≡ value → end ≤ length value → end ≤ at → ((k : ℕ) → from ≤ k → k < at → is_set words k ≡ false) → next_place is_marked from (take end value) ≡ None
next_of-past words len from end at value view short past before =
    next_place-none is_marked from (take end value) false
    (λ k later h. let inside : k < end = omega (arith, length-take end value) in cut_flag words len end k value view short inside ∙ before k later (omega arith))

-- ---- downwards

-- `word` has the documents of word `place` that are at or before `last`, and none in between is set
pub record IsSearchedDown (words : List ℕ) (last place word : ℕ) : Type 0 where
  pub high : place ≤ last / 64
  pub fits : word < 2 ^ 64
  pub bits : (i : ℕ) → i < 64 → 64 * place + i ≤ last → bit_at word i ≡ bit_at (get_or words place 0) i
  pub over : (i : ℕ) → i < 64 → last < 64 * place + i → bit_at word i ≡ 0
  pub after : (k : ℕ) → 64 * (place + 1) ≤ k → k ≤ last → is_set words k ≡ false

pub search_down_begins : (words : List ℕ) (last word : ℕ) → word < 2 ^ 64 → word ≡ get_or words (last / 64) 0 → IsSearchedDown words last (last / 64) (bit_and word ((2 ^ 64 - 1) / 2 ^ (63 - last % 64)))
search_down_begins words last word fits read =
    let top : 64 - (63 - last % 64) ≡ last % 64 + 1 = omega arith in
    let mask : (2 ^ 64 - 1) / 2 ^ (63 - last % 64) ≡ 2 ^ (last % 64 + 1) - 1 =
    ones_shr 64 (63 - last % 64) (omega arith) ∙ ap (λ n. 2 ^ n - 1) top
    in rw mask
    record {
      high = omega arith;
      fits = omega (arith, and_le_l word (2 ^ (last % 64 + 1) - 1));
      bits = λ i h earlier.
          bit_at_and word (2 ^ (last % 64 + 1) - 1) i
          ∙ ap (λ b. min (bit_at word i) b) (bit_at_ones (last % 64 + 1) i (omega arith))
          ∙ omega (arith, bit_at-lt word i)
          ∙ ap (λ w. bit_at w i) read;
      over = λ i h later.
          bit_at_and word (2 ^ (last % 64 + 1) - 1) i
          ∙ ap (λ b. min (bit_at word i) b) (bit_at_ones_above (last % 64 + 1) i (omega arith))
          ∙ omega arith;
      after = λ k later earlier. absurd (omega arith);
    }

-- a word of none: its documents up to `last` are not set
pub none_in_word_down : (words : List ℕ) (last place : ℕ) → IsSearchedDown words last place 0 → (k : ℕ) → 64 * place ≤ k → k ≤ last → is_set words k ≡ false
none_in_word_down words last place searched k later within = elim (cases_lt k (64 * (place + 1))) [
  | inl here ↦
      by_bit (λ at. at ≤ last → is_set words at ≡ false) place
      (λ i h up_to. is_set-bit words place i h ∙ ap (λ b. eqb b 1) (sym (searched.bits i h up_to) ∙ bit_at-zero i))
      k later here within
  | inr past ↦ searched.after k past within
]

pub search_down_goes_on : (words : List ℕ) (last place word : ℕ) → 0 < place → word < 2 ^ 64 → word ≡ get_or words (place - 1) 0 → IsSearchedDown words last place 0 → IsSearchedDown words last (place - 1) word
search_down_goes_on words last place word some fits read searched = record {
  high = omega (arith, searched.high);
  fits = fits;
  bits = λ i h earlier. ap (λ w. bit_at w i) read;
  over = λ i h later. absurd (omega (arith, searched.high));
  after = λ k later earlier. none_in_word_down words last place searched k (omega arith) earlier;
}

-- the greatest document at or before `last` that is set
pub record IsPrevious (words : List ℕ) (last at : ℕ) : Type 0 where
  pub earlier : at ≤ last
  pub here : is_set words at ≡ true
  pub after : (k : ℕ) → at < k → k ≤ last → is_set words k ≡ false

-- the highest 1 of a word: its place is 63 less the leading zeros
pub record IsHighest (word place : ℕ) : Type 0 where
  pub within : place < 64
  pub one : bit_at word place ≡ 1
  pub above : (i : ℕ) → place < i → bit_at word i ≡ 0

pub highest : (word place : ℕ) → 0 < word → word < 2 ^ 64 → place ≡ 63 - leading_zeros w64 word → IsHighest word place
highest word place some fits is =
    let top = leading_top 64 word some fits in
    let here : place ≡ top.0 = omega (arith, top.1) in
    let half : word / 2 ^ top.0 < 2 ^ 1 = shr_below word 1 top.0 (let e : 1 + top.0 ≡ suc top.0 = omega arith in rw e top.3) in
    let whole : 1 ≤ word / 2 ^ top.0 = le-div 1 word (2 ^ top.0) (pow_pos top.0) (omega (arith, top.2)) in
    rw here record {
      within = omega (arith, top.1);
      one = omega (arith, half, whole);
      above = λ i h. bit_at_above word (suc top.0) i top.3 (omega arith);
    }

pub search_down_finds : (words : List ℕ) (last place word i at : ℕ) → IsHighest word i → IsSearchedDown words last place word → at ≡ 64 * place + i → IsPrevious words last at
search_down_finds words last place word i at highest searched is =
    let earlier : 64 * place + i ≤ last = elim (cases_lt last (64 * place + i)) [
      | inl later ↦ absurd (omega (arith, searched.over i highest.within later, highest.one))
      | inr up_to ↦ up_to
    ]
    in rw is record {
      earlier = earlier;
      here = is_set-bit words place i highest.within ∙ ap (λ b. eqb b 1) (sym (searched.bits i highest.within earlier) ∙ highest.one);
      after = λ k past up_to. elim (cases_lt k (64 * (place + 1))) [
        | inl here ↦
            by_bit (λ at. at ≤ last → 64 * place + i < at → is_set words at ≡ false) place
            (λ j h within above. is_set-bit words place j h ∙ ap (λ b. eqb b 1) (sym (searched.bits j h within) ∙ highest.above j (omega arith)))
            k (omega arith) here up_to past
        | inr beyond ↦ searched.after k beyond up_to
      ];
    }

flag_is : (words : List ℕ) (len k : ℕ) (value : List Bool) → flags words len ≡ value → k < length value → get_or value k false ≡ is_set words k
flag_is words len k value view h =
    sym (ap (λ marks. get_or marks k false) view) ∙ get_or-flags words len k false (omega (arith, len_is words len value view))

pub previous_of-found : (words : List ℕ) (len below last at : ℕ) (value : List Bool) → flags words len ≡ value → last + 1 ≡ min below len → IsPrevious words last at → previous_place is_marked below value ≡ Some at
previous_of-found words len below last at value view end previous =
    let long = len_is words len value view in
    previous_place-last is_marked below at value false (omega (arith, previous.earlier)) (omega (arith, previous.earlier))
    (flag_is words len at value view (omega (arith, previous.earlier)) ∙ previous.here)
    (λ k past before within. flag_is words len k value view within ∙ previous.after k past (omega arith))

pub previous_of-none : (words : List ℕ) (len below last : ℕ) (value : List Bool) → flags words len ≡ value → last + 1 ≡ min below len → ((k : ℕ) → k ≤ last → is_set words k ≡ false) → previous_place is_marked below value ≡ None
previous_of-none words len below last value view end none =
    let long = len_is words len value view in
    previous_place-none is_marked below value false (λ k before within. flag_is words len k value view within ∙ none k (omega arith))

pub previous_of-nothing : (words : List ℕ) (len below : ℕ) (value : List Bool) → flags words len ≡ value → min below len ≡ 0 → previous_place is_marked below value ≡ None
previous_of-nothing words len below value view end =
    previous_place-none is_marked below value false (λ k before within. absurd (omega (arith, len_is words len value view)))
