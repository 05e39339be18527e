-- Sets of one length, word by word: flag by flag.
use Rattle.std.proofs.Common.{◌≡◌, ◌≢◌, ℕ, ◌+◌, ◌-◌, ◌*◌, ◌/◌, ◌%◌, ◌^◌, ◌<◌, ◌≤◌, Bool, false, List, [], ◌∷◌, length, get_or, set, map, refl, sym, ap, ap₂, ◌∙◌, inl, inr, arith, eqb, bit_and, bit_or, min, max, ◌&&◌, ◌||◌, not}
use Rattle.std.specs.Int.{bit_at, w64, bit_not}
use Rattle.std.specs.List.{zip, range_with_len}
use Rattle.std.proofs.lemmas.List.{length-set, get_or-set_other, get_or_past}
use Rattle.std.proofs.lemmas.Nat.Bits.{bit_at-zero, bit_at_and, bit_at_or, bit_at_not, bit_at-lt}
use Rattle.std.proofs.lemmas.Bool.{cases_eq, cases_lt}
use Rattle.std.proofs.lemmas.Bool.Decides.{nat_tests}
use Rattle.block_bits.specs.Flags.{is_set, flags, intersection, IsTight}
use Rattle.block_bits.proofs.Marks.{len_is, is_set-bit, is_set-written, is_set-kept}

-- the documents of the words below `place` are those that pass, and the words from there on are as they were
pub record Combined (test : ℕ → Bool) (old now : List ℕ) (place : ℕ) : Type 0 where
  pub long : length now ≡ length old
  pub done : (at : ℕ) → at / 64 < place → is_set now at ≡ test at
  pub rest : (k : ℕ) → place ≤ k → get_or now k 0 ≡ get_or old k 0

pub combined_none : (test : ℕ → Bool) (old : List ℕ) → Combined test old old 0
combined_none test old = record { long = refl; done = λ at h. absurd (omega arith); rest = λ k h. refl }

combined_more : (test : ℕ → Bool) (old now : List ℕ) (place new : ℕ) → place < length now → Combined test old now place
    → ((i : ℕ) → i < 64 → eqb (bit_at new i) 1 ≡ test (64 * place + i)) → Combined test old (set now place new) (place + 1)
combined_more test old now place new h so_far step = record {
  long = length-set now place new ∙ so_far.long;
  done = λ at below. elim (cases_eq (at / 64) place) [
    | inl here ↦
        let bit : 64 * place + at % 64 ≡ at = omega (arith, here) in
        is_set-written now place new at h here ∙ step (at % 64) (omega arith) ∙ ap test bit
    | inr apart ↦ is_set-kept now place new at apart ∙ so_far.done at (omega arith)
  ];
  rest = λ k past.
      let apart : k ≢ place = λ e. omega arith in
      get_or-set_other now place k new 0 apart ∙ so_far.rest k (omega arith);
}

pub is_set-past : (words : List ℕ) (at : ℕ) → length words ≤ at / 64 → is_set words at ≡ false
unfolding is_set
is_set-past words at h = ap (λ w. eqb (bit_at w (at % 64)) 1) (get_or_past words (at / 64) 0 h) ∙ ap (λ b. eqb b 1) (bit_at-zero (at % 64))

-- every document, where none past the words passes
pub all_combined : (test : ℕ → Bool) (old now : List ℕ) (place : ℕ) → Combined test old now place → length old ≤ place
    → ((at : ℕ) → length old ≤ at / 64 → test at ≡ false) → (at : ℕ) → is_set now at ≡ test at
all_combined test old now place whole all none at = elim (cases_lt (at / 64) (length old)) [
  | inl inside ↦ whole.done at (omega arith)
  | inr past ↦ is_set-past now at (omega (arith, whole.long)) ∙ sym (none at past)
]

-- ---- the three rules, on one bit of each

-- `new` is `one` with `other`, by the rule for flags
pub record Follows (rule : Bool → Bool → Bool) (one other new : ℕ) : Type 0 where
  pub bits : (i : ℕ) → i < 64 → eqb (bit_at new i) 1 ≡ rule (eqb (bit_at one i) 1) (eqb (bit_at other i) 1)

and_flag : (a b : ℕ) → a < 2 → b < 2 → eqb (min a b) 1 ≡ (eqb a 1 && eqb b 1)
and_flag a b h k = grind (arith, nat_tests)

or_flag : (a b : ℕ) → a < 2 → b < 2 → eqb (max a b) 1 ≡ (eqb a 1 || eqb b 1)
or_flag a b h k = grind (arith, nat_tests)

and_not_flag : (a b : ℕ) → a < 2 → b < 2 → eqb (min a (1 - b)) 1 ≡ (eqb a 1 && not (eqb b 1))
and_not_flag a b h k = grind (arith, nat_tests)

pub Follows-and : (one other : ℕ) → Follows (λ a b. a && b) one other (bit_and one other)
Follows-and one other = record {
  bits = λ i h. ap (λ n. eqb n 1) (bit_at_and one other i) ∙ and_flag (bit_at one i) (bit_at other i) (bit_at-lt one i) (bit_at-lt other i);
}

pub Follows-or : (one other : ℕ) → Follows (λ a b. a || b) one other (bit_or one other)
Follows-or one other = record {
  bits = λ i h. ap (λ n. eqb n 1) (bit_at_or one other i) ∙ or_flag (bit_at one i) (bit_at other i) (bit_at-lt one i) (bit_at-lt other i);
}

pub Follows-and_not : (one other : ℕ) → other < 2 ^ 64 → Follows (λ a b. a && not b) one other (bit_and one (bit_not w64 other))
Follows-and_not one other fits = record {
  bits = λ i h.
      ap (λ n. eqb n 1) (bit_at_and one (bit_not w64 other) i ∙ ap (λ n. min (bit_at one i) n) (bit_at_not w64 other i fits h))
      ∙ and_not_flag (bit_at one i) (bit_at other i) (bit_at-lt one i) (bit_at-lt other i);
}

-- ---- one word more, of two sets and of three

-- a word not yet written has the documents that it had
word_flag : {test : ℕ → Bool} {old now : List ℕ} {place : ℕ} → Combined test old now place → (i : ℕ) → i < 64 → eqb (bit_at (get_or now place 0) i) 1 ≡ is_set old (64 * place + i)
word_flag {test} {old} {now} {place} so_far i h =
    ap (λ w. eqb (bit_at w i) 1) (so_far.rest place (omega arith)) ∙ sym (is_set-bit old place i h)

pub two_more : (rule : Bool → Bool → Bool) (old others now : List ℕ) (place new : ℕ) → place < length now → Combined (λ at. rule (is_set old at) (is_set others at)) old now place
    → Follows rule (get_or now place 0) (get_or others place 0) new → Combined (λ at. rule (is_set old at) (is_set others at)) old (set now place new) (place + 1)
two_more rule old others now place new h so_far step =
    combined_more (λ at. rule (is_set old at) (is_set others at)) old now place new h so_far
    (λ i k. step.bits i k ∙ ap₂ rule (word_flag so_far i k) (sym (is_set-bit others place i k)))

pub both_more : (old ones others now : List ℕ) (place : ℕ) → place < length now → Combined (λ at. (is_set old at && is_set ones at) && is_set others at) old now place
    → Combined (λ at. (is_set old at && is_set ones at) && is_set others at) old (set now place (bit_and (bit_and (get_or now place 0) (get_or ones place 0)) (get_or others place 0))) (place + 1)
both_more old ones others now place h so_far =
    combined_more (λ at. (is_set old at && is_set ones at) && is_set others at) old now place _ h so_far
    (λ i k.
    (Follows-and (bit_and (get_or now place 0) (get_or ones place 0)) (get_or others place 0)).bits i k
    ∙ ap₂ (λ a b. a && b)
    ((Follows-and (get_or now place 0) (get_or ones place 0)).bits i k ∙ ap₂ (λ a b. a && b) (word_flag so_far i k) (sym (is_set-bit ones place i k)))
    (sym (is_set-bit others place i k)))

-- ---- the sets by their words

zip-of_maps : (rule : Bool → Bool → Bool) (f g : ℕ → Bool) (xs : List ℕ) → map (λ (pair : Bool × Bool). rule pair.0 pair.1) (zip (map f xs) (map g xs)) ≡ map (λ x. rule (f x) (g x)) xs
zip-of_maps rule f g [] = refl
zip-of_maps rule f g (x ∷ xs) = ap (λ rest. rule (f x) (g x) ∷ rest) (zip-of_maps rule f g xs)

map-same : (f g : ℕ → Bool) (xs : List ℕ) → ((x : ℕ) → f x ≡ g x) → map f xs ≡ map g xs
map-same f g [] e = refl
map-same f g (x ∷ xs) e = ap₂ (λ flag rest. flag ∷ rest) (e x) (map-same f g xs e)

-- a set whose documents go by two others' has their flags combined
pub flags-combined : (rule : Bool → Bool → Bool) (old others now : List ℕ) (len : ℕ) → ((at : ℕ) → is_set now at ≡ rule (is_set old at) (is_set others at))
    → flags now len ≡ map (λ (pair : Bool × Bool). rule pair.0 pair.1) (zip (flags old len) (flags others len))
unfolding flags
flags-combined rule old others now len each =
    map-same (is_set now) (λ at. rule (is_set old at) (is_set others at)) (range_with_len 0 len) each
    ∙ sym (zip-of_maps rule (is_set old) (is_set others) (range_with_len 0 len))

pub flags-both : (old ones others now : List ℕ) (len : ℕ) → ((at : ℕ) → is_set now at ≡ ((is_set old at && is_set ones at) && is_set others at))
    → flags now len ≡ intersection (intersection (flags old len) (flags ones len)) (flags others len)
unfolding flags
flags-both old ones others now len each =
    map-same (is_set now) (λ at. (is_set old at && is_set ones at) && is_set others at) (range_with_len 0 len) each
    ∙ sym (zip-of_maps (λ a b. a && b) (λ at. is_set old at && is_set ones at) (is_set others) (range_with_len 0 len))
    ∙ sym (ap (λ marks. intersection marks (map (is_set others) (range_with_len 0 len))) (zip-of_maps (λ a b. a && b) (is_set old) (is_set ones) (range_with_len 0 len)))

-- ---- two sets of one length: `value` and `other_value`, by their words

same_len : (old others : List ℕ) (len other_len : ℕ) (value other_value : List Bool) → flags old len ≡ value → flags others other_len ≡ other_value → length value ≡ length other_value → other_len ≡ len
same_len old others len other_len value other_value view other_view same =
    len_is others other_len other_value other_view ∙ sym (len_is old len value view ∙ same)

pub same_words : (old others : List ℕ) (len other_len : ℕ) (value other_value : List Bool) → flags old len ≡ value → flags others other_len ≡ other_value → length value ≡ length other_value
    → IsTight old len → IsTight others other_len → length old ≡ length others
same_words old others len other_len value other_value view other_view same tight other_tight =
    tight.long ∙ ap (λ n. (n + 63) / 64) (sym (same_len old others len other_len value other_value view other_view same)) ∙ sym other_tight.long

-- the flags of the second set, by the length of the first
pub other_flags : (old others : List ℕ) (len other_len : ℕ) (value other_value : List Bool) → flags old len ≡ value → flags others other_len ≡ other_value → length value ≡ length other_value
    → flags others len ≡ other_value
other_flags old others len other_len value other_value view other_view same =
    ap (flags others) (sym (same_len old others len other_len value other_value view other_view same)) ∙ other_view

pub value-combined : (rule : Bool → Bool → Bool) (old others now : List ℕ) (len other_len : ℕ) (value other_value : List Bool) → flags old len ≡ value → flags others other_len ≡ other_value → length value ≡ length other_value
    → ((at : ℕ) → is_set now at ≡ rule (is_set old at) (is_set others at)) → flags now len ≡ map (λ (pair : Bool × Bool). rule pair.0 pair.1) (zip value other_value)
value-combined rule old others now len other_len value other_value view other_view same each =
    flags-combined rule old others now len each
    ∙ ap₂ (λ a b. map (λ (pair : Bool × Bool). rule pair.0 pair.1) (zip a b)) view (other_flags old others len other_len value other_value view other_view same)

pub tight-combined : (rule : Bool → Bool → Bool) → rule false false ≡ false → (old others now : List ℕ) (len other_len : ℕ) (value other_value : List Bool) → flags old len ≡ value → flags others other_len ≡ other_value
    → length value ≡ length other_value → IsTight old len → IsTight others other_len → length now ≡ length old → ((at : ℕ) → is_set now at ≡ rule (is_set old at) (is_set others at)) → IsTight now len
tight-combined rule none old others now len other_len value other_value view other_view same tight other_tight long each =
    let lens : other_len ≡ len = same_len old others len other_len value other_value view other_view same in
    record {
      small = tight.small;
      long = long ∙ tight.long;
      clear = λ at past. each at ∙ ap₂ rule (tight.clear at past) (other_tight.clear at (omega (arith, past, lens))) ∙ none;
    }

-- ---- and three

pub value-both : (old ones others now : List ℕ) (len : ℕ) (value one_value other_value : List Bool) → flags old len ≡ value → flags ones len ≡ one_value → flags others len ≡ other_value
    → ((at : ℕ) → is_set now at ≡ ((is_set old at && is_set ones at) && is_set others at)) → flags now len ≡ intersection (intersection value one_value) other_value
value-both old ones others now len value one_value other_value view one_view other_view each =
    flags-both old ones others now len each
    ∙ ap₂ (λ a b. intersection a b) (ap₂ (λ a b. intersection a b) view one_view) other_view

pub tight-both : (old ones others now : List ℕ) (len : ℕ) → IsTight old len → length now ≡ length old
    → ((at : ℕ) → is_set now at ≡ ((is_set old at && is_set ones at) && is_set others at)) → IsTight now len
tight-both old ones others now len tight long each = record {
  small = tight.small;
  long = long ∙ tight.long;
  clear = λ at past. each at ∙ ap (λ flag. (flag && is_set ones at) && is_set others at) (tight.clear at past);
}
