-- How long a word may become when it is folded.
use Rattle.std.proofs.Common.{◌≡◌, ℕ, zero, suc, ◌+◌, ◌-◌, ◌*◌, ◌≤◌, nat_le, List, [], ◌∷◌, map, length, IsUtf8, length-append, refl, sym, ap, ◌∙◌, arith, true}
use Rattle.std.proofs.lemmas.Bool.{le-leb}
use Rattle.std.proofs.lemmas.Str.{length-encode, len_utf8_bounds}
use Rattle.std.specs.Prelude.{encode_utf8_all, encode_utf8}
use Rattle.std.specs.List.{list_all, flat_map}
use Rattle.std.specs.Str.{chars, chars_after, continuation_len, lead_bits}
use Rattle.caseless.specs.Caseless.{default_case_fold}
use Rattle.ucd_case.specs.CaseFolding.{full_fold, full_folding, or_itself}
use Rattle.ucd_case.proofs.BoundLemmas.{length-full_folding}
use Rattle.analysis.specs.Words.{folded, words}
use Rattle.analysis.proofs.Placed.{StandBetween, placed_words, placed_words_stand, second-placed_words, within}

-- a text has no more characters than bytes
after_short : (n c : ℕ) (bs : List ℕ) → length (chars_after n c bs) ≤ suc (length bs)
after_short zero c [] = omega arith
after_short zero c (b ∷ bs) = omega (arith, after_short (continuation_len b) (lead_bits b) bs)
after_short (suc n) c [] = omega arith
after_short (suc n) c (b ∷ bs) = omega (arith, after_short n (c * 64 + (b - 128)) bs)

pub chars_short : (bs : List ℕ) → length (chars bs) ≤ length bs
unfolding chars
chars_short [] = omega arith
chars_short (b ∷ bs) = after_short (continuation_len b) (lead_bits b) bs

-- a character has at most four bytes
encoded_short : (cs : List ℕ) → length (encode_utf8_all cs) ≤ 4 * length cs
encoded_short [] = omega arith
encoded_short (c ∷ cs) = omega (arith, encoded_short cs, length-append (encode_utf8 c) (encode_utf8_all cs), length-encode c, (len_utf8_bounds c).1)

-- and is folded to at most three
itself_short : (c : ℕ) (cs : List ℕ) → length cs ≤ 3 → length (or_itself c cs) ≤ 3
itself_short c [] h = omega arith
itself_short c (d ∷ cs) h = h

fold_short : (cs : List ℕ) → length (flat_map full_fold cs) ≤ 3 * length cs
fold_short [] = omega arith
fold_short (c ∷ cs) = omega (arith, fold_short cs, length-append (full_fold c) (flat_map full_fold cs), itself_short c (full_folding c) (length-full_folding c))

folded_short : (word : List ℕ) → length (folded word) ≤ 12 * length word
unfolding folded default_case_fold
folded_short word =
    omega (arith, encoded_short (flat_map full_fold (chars word)), fold_short (chars word), chars_short word)

short_between : (text : List ℕ) (most from to : ℕ) (ws : List (ℕ × List ℕ)) → StandBetween text from to ws → 12 * to ≤ most
    → list_all (λ w. nat_le (length w) most) (map folded (map (λ (w : ℕ × List ℕ). w.1) ws)) ≡ true
short_between text most from to [] stand few = refl
short_between text most from to (w ∷ ws) stand few =
    let ends : w.0 + length w.1 ≤ to = within text (w.0 + length w.1) to ws stand.3 in
    let here : nat_le (length (folded w.1)) most ≡ true = le-leb _ _ (omega (arith, folded_short w.1, ends, few)) in
    rw here (short_between text most (w.0 + length w.1) to ws stand.3 few)

pub short_words : (text : List ℕ) (most : ℕ) → IsUtf8 text → 12 * length text ≤ most → list_all (λ w. nat_le (length w) most) (words text) ≡ true
unfolding words
short_words text most utf8 few =
    ap (λ ws. list_all (λ w. nat_le (length w) most) (map folded ws)) (sym (second-placed_words text))
    ∙ short_between text most 0 (length text) (placed_words text) (placed_words_stand text utf8) few
