-- The positions of a word in a document ascend strictly: no two tokens of a field have one position.
use Rattle.std.proofs.Common.{◌≡◌, ℕ, ◌+◌, ◌<◌, ◌≤◌, ◌==◌, true, false, if◌then◌else◌, List, [], ◌∷◌, ◌++◌, length, refl, sym, ap, subst, ◌∙◌, arith, eqb-true, eq-eqb}
use Rattle.std.specs.List.{AllByRecursion}
use Rattle.std.specs.List.Sorted.{IsStrictlySortedBy, IsStrictlyIncreasing}
use Rattle.std.specs.Ordering.{is_gt, is_eq, nat_cmp, ordering_then}
use Rattle.std.specs.Str.{bytes_eq}
use Rattle.std.specs.declared.cmp.Ordering.{Ordering}
use Rattle.std.specs.declared.cmp.Ordering.TheVariants.{Less, Equal, Greater}
use Rattle.std.proofs.lemmas.Cmp.{eq_by_cmp_equiv, nat_list_cmp_total, ranked, by_ranked}
use Rattle.std.proofs.lemmas.Map.Keys.{IsStrictlyIncreasing-from_sorted}
use Rattle.flattener.specs.Flat.{placed, ascending, bytes_cmp, token_cmp, tokens, tokens_by, later_tokens, placed_words, position_gap, together, grouped, words_of_field}
use Rattle.segment_builder.proofs.InOrder.{each_then, each_both, sorted_push}
use Rattle.segment_builder.proofs.Keys.{split}
use Rattle.segment_builder.proofs.Onced.{same_bytes}
use Rattle.segment_builder.proofs.Rising.{less_is}
use Rattle.segment_builder.proofs.Sorted.{each_append, sorted_none}

abbrev pub Token : Type 0
Token = List ℕ × ℕ

-- ---- no two tokens at one position

abbrev IsApart : Token → List Token → Type 0
IsApart t ts = AllByRecursion (λ (u : Token). (t.1 == u.1) ≡ false) ts

abbrev AreApart : List Token → Type 0
AreApart [] = Unit {0}
AreApart (t ∷ ts) = IsApart t ts × AreApart ts

abbrev AreFrom : ℕ → List Token → Type 0
AreFrom n ts = AllByRecursion (λ (t : Token). n ≤ t.1) ts

abbrev AreBelow : ℕ → List Token → Type 0
AreBelow n ts = AllByRecursion (λ (t : Token). t.1 < n) ts

not_same : (a b : ℕ) → a < b → (a == b) ≡ false
not_same a b less = split (a == b) (λ is. absurd (omega (arith, less, eqb-true a b is))) (λ isnt. isnt)

apart_from : (t : Token) (n : ℕ) (ts : List Token) → t.1 < n → AreFrom n ts → IsApart t ts
apart_from t n ts less all = each_then (λ (u : Token). n ≤ u.1) (λ (u : Token). (t.1 == u.1) ≡ false) (λ u from. not_same t.1 u.1 (omega (arith, less, from))) ts all

apart_append : (n : ℕ) (xs ys : List Token) → AreApart xs → AreBelow n xs → AreApart ys → AreFrom n ys → AreApart (xs ++ ys)
apart_append n [] ys one below two from = two
apart_append n (x ∷ xs) ys one below two from =
    (each_append (λ (u : Token). (x.1 == u.1) ≡ false) xs ys one.0 (apart_from x n ys below.0 from), apart_append n xs ys one.1 below.1 two from)

from_further : (n m : ℕ) (ts : List Token) → n ≤ m → AreFrom m ts → AreFrom n ts
from_further n m ts le all = each_then (λ (t : Token). m ≤ t.1) (λ (t : Token). n ≤ t.1) (λ t from. omega (arith, le, from)) ts all

placed_from : (at : ℕ) (ws : List (List ℕ)) → AreFrom at (placed_words at ws)
placed_from at [] = tt
placed_from at (w ∷ ws) = (omega arith, from_further at (at + 1) (placed_words (at + 1) ws) (omega arith) (placed_from (at + 1) ws))

placed_below : (at : ℕ) (ws : List (List ℕ)) → AreBelow (at + length ws) (placed_words at ws)
placed_below at [] = tt
placed_below at (w ∷ ws) =
    let long : at + 1 + length ws ≡ at + length (w ∷ ws) = omega arith in
    (omega arith, subst (λ n. AreBelow n (placed_words (at + 1) ws)) long (placed_below (at + 1) ws))

placed_apart : (at : ℕ) (ws : List (List ℕ)) → AreApart (placed_words at ws)
placed_apart at [] = tt
placed_apart at (w ∷ ws) = (apart_from (w, at) (at + 1) (placed_words (at + 1) ws) (omega arith) (placed_from (at + 1) ws), placed_apart (at + 1) ws)

module _ (cut : List ℕ → List (List ℕ)) where
  abbrev next_end : ℕ → List ℕ → ℕ
  next_end end text = if length (cut text) == 0 then end else end + position_gap + length (cut text)

  end_later : (end : ℕ) (text : List ℕ) → end ≤ next_end end text
  end_later end text = split (length (cut text) == 0) (λ is. rw is (omega arith)) (λ isnt. rw isnt (omega arith))

  below_end : (end : ℕ) (text : List ℕ) → AreBelow (next_end end text) (placed_words (end + position_gap) (cut text))
  below_end end text =
      split (length (cut text) == 0)
      (λ is. rw is (nothing (cut text) (eqb-true (length (cut text)) 0 is)))
      (λ isnt. rw isnt (placed_below (end + position_gap) (cut text)))
    where
      nothing : (ws : List (List ℕ)) → length ws ≡ 0 → AreBelow end (placed_words (end + position_gap) ws)
      nothing [] none = tt
      nothing (w ∷ ws) none = absurd (omega (arith, none))

  later_from : (end : ℕ) (texts : List (List ℕ)) → AreFrom end (later_tokens cut end texts)
  later_from end [] = tt
  later_from end (text ∷ texts) =
      each_append (λ (t : Token). end ≤ t.1) (placed_words (end + position_gap) (cut text)) (later_tokens cut (next_end end text) texts)
      (from_further end (end + position_gap) (placed_words (end + position_gap) (cut text)) (omega arith) (placed_from (end + position_gap) (cut text)))
      (from_further end (next_end end text) (later_tokens cut (next_end end text) texts) (end_later end text) (later_from (next_end end text) texts))

  later_apart : (end : ℕ) (texts : List (List ℕ)) → AreApart (later_tokens cut end texts)
  later_apart end [] = tt
  later_apart end (text ∷ texts) =
      apart_append (next_end end text) (placed_words (end + position_gap) (cut text)) (later_tokens cut (next_end end text) texts)
      (placed_apart (end + position_gap) (cut text)) (below_end end text) (later_apart (next_end end text) texts) (later_from (next_end end text) texts)

  tokens_apart_by : (texts : List (List ℕ)) → AreApart (tokens_by cut texts)
  tokens_apart_by [] = tt
  tokens_apart_by (text ∷ texts) =
      let count : 0 + length (cut text) ≡ length (cut text) = omega arith in
      apart_append (length (cut text)) (placed_words 0 (cut text)) (later_tokens cut (length (cut text)) texts)
      (placed_apart 0 (cut text)) (subst (λ n. AreBelow n (placed_words 0 (cut text))) count (placed_below 0 (cut text))) (later_apart (length (cut text)) texts) (later_from (length (cut text)) texts)

tokens_apart : (texts : List (List ℕ)) → AreApart (tokens texts)
unfolding tokens
tokens_apart texts = tokens_apart_by _ texts

-- ---- sorted, they stay apart

apart_back : (a b : ℕ) → (a == b) ≡ false → (b == a) ≡ false
apart_back a b other = split (b == a) (λ is. absurd (let same : a ≡ b = sym (eqb-true b a is) in let never : true ≡ false = sym (eq-eqb a b same) ∙ other in cc (never))) (λ isnt. isnt)

placed_with : (x new : Token) (ts : List Token) → (x.1 == new.1) ≡ false → IsApart x ts → IsApart x (placed token_cmp new ts)
placed_with x new [] other all = (other, tt)
placed_with x new (t ∷ ts) other all =
    split (is_gt (token_cmp new t))
    (λ after. rw after (all.0, placed_with x new ts other all.1))
    (λ before. rw before (other, all))

apart_placed : (new : Token) (ts : List Token) → IsApart new ts → AreApart ts → AreApart (placed token_cmp new ts)
apart_placed new [] own all = (tt, tt)
apart_placed new (t ∷ ts) own all =
    split (is_gt (token_cmp new t))
    (λ after. rw after (placed_with t new ts (apart_back new.1 t.1 own.0) all.0, apart_placed new ts own.1 all.1))
    (λ before. rw before (own, all))

apart_ascending_with : (x : Token) (ts : List Token) → IsApart x ts → IsApart x (ascending token_cmp ts)
apart_ascending_with x [] all = tt
apart_ascending_with x (t ∷ ts) all = placed_with x t (ascending token_cmp ts) all.0 (apart_ascending_with x ts all.1)

apart_ascending : (ts : List Token) → AreApart ts → AreApart (ascending token_cmp ts)
apart_ascending [] all = tt
apart_ascending (t ∷ ts) all = apart_placed t (ascending token_cmp ts) (apart_ascending_with t ts all.0) (apart_ascending ts all.1)

-- ---- sorted and apart, the positions of one word rise

abbrev pub AreUp : List Token → Type 0
AreUp [] = Unit {0}
AreUp (t ∷ ts) = AllByRecursion (λ (u : Token). is_gt (token_cmp t u) ≡ false) ts × AreUp ts

abbrev IsBefore : Token → Token → Type 0
IsBefore t u = t.0 ≡ u.0 → t.1 < u.1

abbrev AreRisen : List Token → Type 0
AreRisen [] = Unit {0}
AreRisen (t ∷ ts) = AllByRecursion (IsBefore t) ts × AreRisen ts

less_or : (a b : ℕ) → is_gt (nat_cmp a b) ≡ false → (a == b) ≡ false → a < b
less_or a b up other =
    by_ranked (a < b) (a ≡ b) (b < a) (nat_cmp a b) (ranked a b (nat_cmp a b) refl)
    (λ _ less. less)
    (λ _ same. absurd (let never : true ≡ false = sym (eq-eqb a b same) ∙ other in cc (never)))
    (λ is _. absurd (let never : true ≡ false = sym (ap is_gt is) ∙ up in cc (never)))

then_equal : (a b : Ordering) → is_eq a ≡ true → ordering_then a b ≡ b
then_equal Less b h = absurd (cc (h))
then_equal Equal b h = refl
then_equal Greater b h = absurd (cc (h))

is_before : (t u : Token) → is_gt (token_cmp t u) ≡ false → (t.1 == u.1) ≡ false → IsBefore t u
is_before t u up other same =
    let tie : is_eq (bytes_cmp t.0 u.0) ≡ true = subst (λ w. is_eq (bytes_cmp t.0 w) ≡ true) same ((eq_by_cmp_equiv nat_list_cmp_total).refl t.0) in
    less_or t.1 u.1 (ap is_gt (sym (then_equal (bytes_cmp t.0 u.0) (nat_cmp t.1 u.1) tie)) ∙ up) other

risen : (ts : List Token) → AreUp ts → AreApart ts → AreRisen ts
risen [] up apart = tt
risen (t ∷ ts) up apart =
    (each_both (λ (u : Token). is_gt (token_cmp t u) ≡ false) (λ (u : Token). (t.1 == u.1) ≡ false) (IsBefore t) (λ u not_after other. is_before t u not_after other) ts up.0 apart.0, risen ts up.1 apart.1)

abbrev AreBelowAll : List ℕ → Token → Type 0
AreBelowAll positions u = AllByRecursion (λ p. p < u.1) positions

abbrev pub Rise : (ℕ × List ℕ) × List ℕ → Type 0
Rise entry = IsStrictlyIncreasing entry.1

push_up : (positions : List ℕ) (p : ℕ) → IsStrictlySortedBy nat_cmp positions → AllByRecursion (λ q. q < p) positions → IsStrictlySortedBy nat_cmp (positions ++ p ∷ [])
push_up positions p up below = sorted_push nat_cmp positions p up (each_then (λ q. q < p) (λ q. nat_cmp q p ≡ Less) (λ q less. less_is q p less) positions below)

one_sorted : (p : ℕ) → IsStrictlySortedBy nat_cmp (p ∷ [])
one_sorted p = push_up [] p (sorted_none nat_cmp) tt

together_rise : (f : ℕ) (word : List ℕ) (positions : List ℕ) (ts : List Token) → IsStrictlySortedBy nat_cmp positions → AllByRecursion (λ (u : Token). word ≡ u.0 → AreBelowAll positions u) ts → AreRisen ts → AllByRecursion Rise (together f word positions ts)
together_rise f word positions [] up below rise = (IsStrictlyIncreasing-from_sorted positions up, tt)
together_rise f word positions (t ∷ ts) up below rise =
    split (bytes_eq t.0 word)
    (λ is.
    let same : t.0 ≡ word = same_bytes t.0 word is in
    rw is (together_rise f word (positions ++ t.1 ∷ []) ts (push_up positions t.1 up (below.0 (sym same)))
    (each_both (λ (u : Token). word ≡ u.0 → AreBelowAll positions u) (IsBefore t) (λ (u : Token). word ≡ u.0 → AreBelowAll (positions ++ t.1 ∷ []) u)
    (λ u all before own. each_append (λ p. p < u.1) positions (t.1 ∷ []) (all own) (before (same ∙ own), tt)) ts below.1 rise.0) rise.1))
    (λ isnt.
    rw isnt (
      IsStrictlyIncreasing-from_sorted positions up,
      together_rise f t.0 (t.1 ∷ []) ts (one_sorted t.1) (each_then (IsBefore t) (λ (u : Token). t.0 ≡ u.0 → AreBelowAll (t.1 ∷ []) u) (λ u before own. (before own, tt)) ts rise.0) rise.1,
    ))

pub words_rise : (f : ℕ) (texts : List (List ℕ)) → AreUp (ascending token_cmp (tokens texts)) → AllByRecursion Rise (words_of_field f (tokens texts))
words_rise f texts up = from_sorted (ascending token_cmp (tokens texts)) (risen (ascending token_cmp (tokens texts)) up (apart_ascending (tokens texts) (tokens_apart texts)))
  where
    from_sorted : (ts : List Token) → AreRisen ts → AllByRecursion Rise (grouped f ts)
    from_sorted [] rise = tt
    from_sorted (t ∷ ts) rise = together_rise f t.0 (t.1 ∷ []) ts (one_sorted t.1) (each_then (IsBefore t) (λ (u : Token). t.0 ≡ u.0 → AreBelowAll (t.1 ∷ []) u) (λ u before own. (before own, tt)) ts rise.0) rise.1
