-- Sets written by whole words: all documents, and a range of them taken out.
use Rattle.std.proofs.Common.{◌≡◌, inl, inr, ℕ, zero, suc, ◌+◌, ◌-◌, ◌*◌, ◌/◌, ◌%◌, ◌^◌, ◌<◌, ◌≤◌, Bool, true, false, cond, ◌&&◌, not, List, [], ◌∷◌, ◌++◌, length, get_or, set, take, drop, replicate, min, eqb, ltb, bit_and, refl, sym, ap, ap₂, ◌∙◌, arith, length-append, length-drop}
use Rattle.std.specs.Int.{bit_at, w64, bit_not}
use Rattle.std.proofs.lemmas.List.{same_lists, length-set, length-replicate, get_or-replicate, get_or-take, get_or-drop, get_or_append_left, get_or-append_right, get_or_read, get_or_past}
use Rattle.std.proofs.lemmas.Nat.Bits.{bit_at-zero, bit_at_and, bit_at_not, bit_at-lt}
use Rattle.std.proofs.lemmas.Bool.{cases_eq, cases_lt, lt-ltb, le-ltb}
use Rattle.std.proofs.lemmas.Bool.Decides.{nat_tests}
use Rattle.block_bits.specs.Flags.{is_set, flags, is_between, cleared, IsTight}
use Rattle.block_bits.proofs.Marks.{length-flags, get_or-flags, len_is, is_set-written, is_set-kept}
use Rattle.block_bits.proofs.Combined.{Follows-and_not}

-- ---- the flags cleared from `from` up to `end`

length-before : (from : ℕ) (xs : List Bool) → from ≤ length xs → length (take from xs) ≡ from
length-before zero xs h = refl
length-before (suc from) [] h = absurd (omega arith)
length-before (suc from) (x ∷ xs) h = omega (arith, length-before from xs (omega arith))

pub length-cleared : (from end : ℕ) (xs : List Bool) → from ≤ end → end ≤ length xs → length (cleared from end xs) ≡ length xs
length-cleared from end xs h w =
    omega (arith, h, w, length-append (take from xs) (replicate (end - from) false ++ drop end xs), length-append (replicate (end - from) false) (drop end xs), length-replicate (end - from) false, length-before from xs (omega (arith, h, w)), length-drop end xs)

pub cleared-before : (from end : ℕ) (xs : List Bool) (k : ℕ) (d : Bool) → from ≤ end → end ≤ length xs → k < from → get_or (cleared from end xs) k d ≡ get_or xs k d
cleared-before from end xs k d h w early =
    get_or_append_left (take from xs) (replicate (end - from) false ++ drop end xs) d k (omega (arith, early, length-before from xs (omega (arith, h, w))))
    ∙ get_or-take from xs k d early

pub cleared-inside : (from end : ℕ) (xs : List Bool) (k : ℕ) (d : Bool) → from ≤ end → end ≤ length xs → from ≤ k → k < end → get_or (cleared from end xs) k d ≡ false
cleared-inside from end xs k d h w late early =
    get_or-append_right (take from xs) (replicate (end - from) false ++ drop end xs) from k d (length-before from xs (omega (arith, h, w))) late
    ∙ get_or_append_left (replicate (end - from) false) (drop end xs) d (k - from) (omega (arith, early, late, length-replicate (end - from) false))
    ∙ get_or-replicate (end - from) (k - from) false d (omega (arith, early, late))

pub cleared-after : (from end : ℕ) (xs : List Bool) (k : ℕ) (d : Bool) → from ≤ end → end ≤ length xs → end ≤ k → get_or (cleared from end xs) k d ≡ get_or xs k d
cleared-after from end xs k d h w late =
    get_or-append_right (take from xs) (replicate (end - from) false ++ drop end xs) from k d (length-before from xs (omega (arith, h, w))) (omega (arith, h, late))
    ∙ get_or-append_right (replicate (end - from) false) (drop end xs) (end - from) (k - from) d (length-replicate (end - from) false) (omega (arith, h, late))
    ∙ get_or-drop end xs (k - from - (end - from)) d
    ∙ ap (λ i. get_or xs i d) (let e : end + (k - from - (end - from)) ≡ k = omega (arith, h, late) in e)

-- ---- words by their documents

pub flags_are : (words : List ℕ) (len : ℕ) (value : List Bool) → length value ≡ len → ((k : ℕ) (d : Bool) → k < len → is_set words k ≡ get_or value k d) → flags words len ≡ value
flags_are words len value long each =
    same_lists _ _ (length-flags words len ∙ sym long)
    (λ k d below.
    let inside : k < len = omega (arith, below, length-flags words len) in
    get_or-flags words len k d inside ∙ each k d inside)

pub is_set-in : (words : List ℕ) (place word at : ℕ) → place < length words → at / 64 ≡ place → word ≡ get_or words place word → is_set words at ≡ eqb (bit_at word (at % 64)) 1
unfolding is_set
is_set-in words place word at h here read =
    ap (λ w. eqb (bit_at w (at % 64)) 1) (ap (λ k. get_or words k 0) here ∙ sym (get_or_read words place word h read 0))

-- ---- all documents

-- the first words are full, each of its documents
pub record AreFull (words : List ℕ) (len : ℕ) : Type 0 where
  pub bits : (place i : ℕ) → place < length words → i < 64 → bit_at (get_or words place 0) i ≡ cond (ltb i (len - place * 64)) 1 0

pub full_none : (len : ℕ) → AreFull [] len
full_none len = record { bits = λ place i h. absurd (omega arith) }

pub full_more : (words : List ℕ) (len word : ℕ) → AreFull words len → ((i : ℕ) → i < 64 → bit_at word i ≡ cond (ltb i (len - length words * 64)) 1 0) → AreFull (words ++ word ∷ []) len
full_more words len word so_far is = record {
  bits = λ place i h below. elim (cases_lt place (length words)) [
    | inl early ↦ ap (λ one. bit_at one i) (get_or_append_left words (word ∷ []) 0 place early) ∙ so_far.bits place i early below
    | inr late ↦
        let last : place ≡ length words = omega (arith, late, h, length-append words (word ∷ [])) in
        ap (λ one. bit_at one i) (get_or-append_right words (word ∷ []) (length words) place 0 refl late ∙ ap (λ k. get_or (word ∷ []) k 0) (let e : place - length words ≡ 0 = omega (arith, last) in e))
        ∙ is i below
        ∙ ap (λ k. cond (ltb i (len - k * 64)) 1 0) (sym last)
  ];
}

flag_of : (i n bit : ℕ) → bit ≡ cond (ltb i n) 1 0 → eqb bit 1 ≡ ltb i n
flag_of i n bit e = ap (λ b. eqb b 1) e ∙ grind (arith, nat_tests)

pub is_set-full : (words : List ℕ) (len at : ℕ) → AreFull words len → at / 64 < length words → is_set words at ≡ ltb (at % 64) (len - (at / 64) * 64)
unfolding is_set
is_set-full words len at full h = flag_of (at % 64) (len - (at / 64) * 64) (bit_at (get_or words (at / 64) 0) (at % 64)) (full.bits (at / 64) (at % 64) h (omega arith))

is_set-beyond : (words : List ℕ) (at : ℕ) → length words ≤ at / 64 → is_set words at ≡ false
unfolding is_set
is_set-beyond words at h = ap (λ w. eqb (bit_at w (at % 64)) 1) (get_or_past words (at / 64) 0 h) ∙ ap (λ b. eqb b 1) (bit_at-zero (at % 64))

pub flags-full : (words : List ℕ) (len : ℕ) → AreFull words len → length words ≡ (len + 63) / 64 → flags words len ≡ replicate len true
flags-full words len full long =
    flags_are words len (replicate len true) (length-replicate len true)
    (λ k d below.
    is_set-full words len k full (omega (arith, below, long))
    ∙ lt-ltb (k % 64) (len - (k / 64) * 64) (omega (arith, below))
    ∙ sym (get_or-replicate len k true d below))

pub IsTight-full : (words : List ℕ) (len : ℕ) → len < 2 ^ 32 → AreFull words len → length words ≡ (len + 63) / 64 → IsTight words len
IsTight-full words len small full long = record {
  small = small;
  long = long;
  clear = λ at past. elim (cases_lt (at / 64) (length words)) [
    | inl inside ↦ is_set-full words len at full inside ∙ le-ltb (at % 64) (len - (at / 64) * 64) (omega (arith, past))
    | inr beyond ↦ is_set-beyond words at beyond
  ];
}

-- ---- a range taken out

between-true : (from end at : ℕ) → from ≤ at → at < end → is_between from end at ≡ true
between-true from end at h k = grind (arith, nat_tests)

between-before : (from end at : ℕ) → at < from → is_between from end at ≡ false
between-before from end at h = grind (arith, nat_tests)

between-after : (from end at : ℕ) → end ≤ at → is_between from end at ≡ false
between-after from end at h = grind (arith, nat_tests)

between-same : (from one other at : ℕ) → (at < one → at < other) → (at < other → at < one) → is_between from one at ≡ is_between from other at
between-same from one other at h k = elim (cases_lt at one) [
  | inl below ↦ ap (λ (b : Bool). b && not (ltb at from)) (lt-ltb at one below ∙ sym (lt-ltb at other (h below)))
  | inr past ↦ ap (λ (b : Bool). b && not (ltb at from)) (le-ltb at one past ∙ sym (le-ltb at other (elim (cases_lt at other) [
    | inl below ↦ absurd (let e : at < one = k below in omega (arith, e, past))
    | inr over ↦ over
  ])))
]

taken_flag : (left right a b : ℕ) → a ≡ cond (ltb left right) 1 0 → b < 2 → eqb (min a (1 - b)) 1 ≡ (ltb left right && not (eqb b 1))
taken_flag left right a b e h = grind (arith, nat_tests)

-- the word of a range, by the words up to its two edges
pub range_bits : (start from end below before i : ℕ) → before < 2 ^ 64 → i < 64
    → bit_at below i ≡ cond (ltb i (end - start)) 1 0 → bit_at before i ≡ cond (ltb i (from - start)) 1 0
    → eqb (bit_at (bit_and below (bit_not w64 before)) i) 1 ≡ is_between from end (start + i)
range_bits start from end below before i fits h e f =
    ap (λ n. eqb n 1) (bit_at_and below (bit_not w64 before) i ∙ ap (λ n. min (bit_at below i) n) (bit_at_not w64 before i fits h))
    ∙ taken_flag i (end - start) (bit_at below i) (bit_at before i) e (bit_at-lt before i)
    ∙ ap (λ b. ltb i (end - start) && not b) (flag_of i (from - start) (bit_at before i) f)
    ∙ grind (arith, nat_tests)

-- from `from` on the words below `place` are cleared, and no document from `end` on
pub record IsClearedTo (from end : ℕ) (old now : List ℕ) (place : ℕ) : Type 0 where
  pub long : length now ≡ length old
  pub is : (at : ℕ) → is_set now at ≡ (is_set old at && not (is_between from (min end (64 * place)) at))

keep : (b : Bool) → b ≡ (b && not false)
keep true = refl
keep false = refl

none : (b : Bool) → (b && not true) ≡ false
none true = refl
none false = refl

pub cleared_first : (from end : ℕ) (words : List ℕ) → IsClearedTo from end words words (from / 64)
cleared_first from end words = record {
  long = refl;
  is = λ at. keep (is_set words at) ∙ ap (λ b. is_set words at && not b) (sym (elim (cases_lt at from) [
    | inl before ↦ between-before from (min end (64 * (from / 64))) at before
    | inr on ↦ between-after from (min end (64 * (from / 64))) at (omega (arith, on))
  ]));
}

pub cleared_more : (from end : ℕ) (old now : List ℕ) (place word taken : ℕ) → place < length now → taken < 2 ^ 64 → word ≡ get_or now place word
    → ((i : ℕ) → i < 64 → eqb (bit_at taken i) 1 ≡ is_between from end (place * 64 + i)) → IsClearedTo from end old now place
    → IsClearedTo from end old (set now place (bit_and word (bit_not w64 taken))) (place + 1)
cleared_more from end old now place word taken h fits read range so_far = record {
  long = length-set now place (bit_and word (bit_not w64 taken)) ∙ so_far.long;
  is = λ at. elim (cases_eq (at / 64) place) [
    | inl here ↦
        let apart : is_between from (min end (64 * place)) at ≡ false = between-after from (min end (64 * place)) at (omega (arith, here)) in
        let is_here : place * 64 + at % 64 ≡ at = omega (arith, here) in
        is_set-written now place (bit_and word (bit_not w64 taken)) at h here
        ∙ (Follows-and_not word taken fits).bits (at % 64) (omega arith)
        ∙ ap₂ (λ a b. a && not b)
        (sym (is_set-in now place word at h here read) ∙ so_far.is at ∙ ap (λ b. is_set old at && not b) apart ∙ sym (keep (is_set old at)))
        (range (at % 64) (omega arith) ∙ ap (is_between from end) is_here
        ∙ between-same from end (min end (64 * (place + 1))) at (λ e. omega (arith, e, here)) (λ e. omega (arith, e)))
    | inr other ↦
        is_set-kept now place (bit_and word (bit_not w64 taken)) at other
        ∙ so_far.is at
        ∙ ap (λ b. is_set old at && not b)
        (between-same from (min end (64 * place)) (min end (64 * (place + 1))) at (λ e. omega (arith, e)) (λ e. omega (arith, e, other)))
  ];
}

-- the words up to the last of the range are cleared
pub record IsCleared (from end : ℕ) (old now : List ℕ) (len place : ℕ) (value : List Bool) : Type 0 where
  pub view : flags old len ≡ value
  pub tight : IsTight old len
  pub ordered : from ≤ end
  pub within : end ≤ length value
  pub up_to : end ≤ 64 * place
  pub so_far : IsClearedTo from end old now place

pub is_set-cleared : (from end : ℕ) (old now : List ℕ) (len place : ℕ) (value : List Bool) → IsCleared from end old now len place value
    → (at : ℕ) → is_set now at ≡ (is_set old at && not (is_between from end at))
is_set-cleared from end old now len place value it at =
    it.so_far.is at
    ∙ ap (λ b. is_set old at && not b) (between-same from (min end (64 * place)) end at (λ e. omega (arith, e)) (λ e. omega (arith, e, it.up_to)))

pub value-cleared : (from end : ℕ) (old now : List ℕ) (len place : ℕ) (value : List Bool) → IsCleared from end old now len place value → flags now len ≡ cleared from end value
value-cleared from end old now len place value it =
    let long = len_is old len value it.view in
    flags_are now len (cleared from end value) (length-cleared from end value it.ordered it.within ∙ sym long)
    (λ k d below.
    let shown : is_set old k ≡ get_or value k d = sym (get_or-flags old len k d below) ∙ ap (λ marks. get_or marks k d) it.view in
    is_set-cleared from end old now len place value it k
    ∙ elim (cases_lt k from) [
      | inl early ↦ ap (λ b. is_set old k && not b) (between-before from end k early) ∙ sym (keep (is_set old k)) ∙ shown ∙ sym (cleared-before from end value k d it.ordered it.within early)
      | inr late ↦ elim (cases_lt k end) [
        | inl amid ↦ ap (λ b. is_set old k && not b) (between-true from end k late amid) ∙ none (is_set old k) ∙ sym (cleared-inside from end value k d it.ordered it.within late amid)
        | inr behind ↦ ap (λ b. is_set old k && not b) (between-after from end k behind) ∙ sym (keep (is_set old k)) ∙ shown ∙ sym (cleared-after from end value k d it.ordered it.within behind)
      ]
    ])

pub tight-cleared : (from end : ℕ) (old now : List ℕ) (len place : ℕ) (value : List Bool) → IsCleared from end old now len place value → IsTight now len
tight-cleared from end old now len place value it = record {
  small = it.tight.small;
  long = it.so_far.long ∙ it.tight.long;
  clear = λ at past. is_set-cleared from end old now len place value it at ∙ ap (λ b. b && not (is_between from end at)) (it.tight.clear at past);
}
