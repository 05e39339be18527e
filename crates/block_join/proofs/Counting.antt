-- Documents of a set counted by its u64s.
use Rattle.std.proofs.Common.{◌≡◌, ℕ, zero, suc, ◌+◌, ◌-◌, ◌*◌, ◌/◌, ◌%◌, ◌^◌, ◌<◌, ◌≤◌, Bool, true, false, cond, List, [], ◌∷◌, length, take, drop, get_or, count_by, refl, sym, ap, ◌∙◌, arith}
use Rattle.std.specs.Int.RustNames.{count_ones}
use Rattle.std.proofs.Math.Nat.{pow-suc}
use Rattle.std.proofs.lemmas.Nat.{mod_low, ones_cat}
use Rattle.std.proofs.lemmas.List.Sums.{sum_by-cons}
use Rattle.block_bits.specs.Flags.{is_marked}
use Rattle.block_bits.specs.Words.{bits_number, word_at, words_of}
use Rattle.block_join.specs.Kept.{marks}
use Rattle.block_join.proofs.Reaching.{word_read}
use Rattle.block_join.proofs.Shown.{marks_add}

flag_small : (flag : Bool) → cond flag 1 0 < 2 ^ 1
flag_small true = omega arith
flag_small false = omega arith

count_flag : (flag : Bool) → count_ones (cond flag 1 0) ≡ cond flag 1 0
unfolding count_ones
count_flag true = refl
count_flag false = refl

count_none : count_ones 0 ≡ 0
unfolding count_ones
count_none = refl

one_more : (flag : Bool) (n : ℕ) → cond flag 1 0 + n ≡ cond flag (suc n) n
one_more true n = omega arith
one_more false n = omega arith

count_marks : (flags : List Bool) → count_ones (bits_number flags) ≡ marks flags
count_marks [] = count_none
count_marks (flag ∷ flags) =
    let parts : cond flag 1 0 + 2 * bits_number flags ≡ bits_number flags * 2 ^ 1 + cond flag 1 0 = omega arith in
    ap count_ones parts ∙ ones_cat 1 (bits_number flags) (cond flag 1 0) (flag_small flag)
    ∙ omega (arith, count_marks flags, count_flag flag, one_more flag (marks flags))

-- the first so many flags are the lowest so many bits
number_cut : (k : ℕ) (flags : List Bool) → bits_number flags ≡ bits_number (drop k flags) * 2 ^ k + bits_number (take k flags)
number_cut zero flags = omega arith
number_cut (suc k) [] = omega arith
number_cut (suc k) (flag ∷ flags) = grind (arith, number_cut k flags, ap (λ n. bits_number (drop k flags) * n) (pow-suc 2 k))

flag_most : (flag : Bool) → cond flag 1 0 ≤ 1
flag_most true = omega arith
flag_most false = omega arith

number_small : (k : ℕ) (flags : List Bool) → bits_number (take k flags) < 2 ^ k
number_small zero flags = omega arith
number_small (suc k) [] = omega (arith, number_small k [], pow-suc 2 k)
number_small (suc k) (flag ∷ flags) = omega (arith, number_small k flags, pow-suc 2 k, flag_most flag)

lowest_marks : (k : ℕ) (flags : List Bool) → count_ones (bits_number flags % 2 ^ k) ≡ marks (take k flags)
lowest_marks k flags =
    ap (λ n. count_ones (n % 2 ^ k)) (number_cut k flags)
    ∙ ap count_ones (mod_low (bits_number (drop k flags)) k (bits_number (take k flags)) (number_small k flags))
    ∙ count_marks (take k flags)

take_take : (k n : ℕ) (flags : List Bool) → k ≤ n → take k (take n flags) ≡ take k flags
take_take zero n flags h = refl
take_take (suc k) zero flags h = absurd (omega (arith, h))
take_take (suc k) (suc n) [] h = refl
take_take (suc k) (suc n) (flag ∷ flags) h = ap (λ (l : List Bool). flag ∷ l) (take_take k n flags (omega (arith, h)))

-- those before a document in the u64 that it is in
pub counts_in_word : (flags : List Bool) (end word : ℕ) → end / 64 < length (words_of flags) → word ≡ get_or (words_of flags) (end / 64) 0 → marks (take (64 * (end / 64)) flags) + count_ones (word % 2 ^ (end % 64)) ≡ marks (take end flags)
counts_in_word flags end word within is =
    let place = end / 64 in
    let sum : 64 * place + end % 64 ≡ end = omega arith in
    let own : count_ones (word % 2 ^ (end % 64)) ≡ marks (take (end % 64) (drop (64 * place) flags)) =
    ap (λ n. count_ones (n % 2 ^ (end % 64))) (is ∙ word_read flags place 0 within)
    ∙ lowest_marks (end % 64) (take 64 (drop (64 * place) flags))
    ∙ ap marks (take_take (end % 64) 64 (drop (64 * place) flags) (omega arith)) in
    ap (λ n. marks (take (64 * place) flags) + n) own
    ∙ sym (marks_add (64 * place) (end % 64) flags)
    ∙ ap (λ n. marks (take n flags)) sum

-- those of one u64 more
pub counts_word : (flags : List Bool) (place word : ℕ) → place < length (words_of flags) → word ≡ get_or (words_of flags) place 0 → marks (take (64 * place) flags) + count_ones word ≡ marks (take (64 * (place + 1)) flags)
counts_word flags place word within is =
    let sum : 64 * place + 64 ≡ 64 * (place + 1) = omega arith in
    ap (λ n. marks (take (64 * place) flags) + n) (ap count_ones (is ∙ word_read flags place 0 within) ∙ count_marks (take 64 (drop (64 * place) flags)))
    ∙ sym (marks_add (64 * place) 64 flags)
    ∙ ap (λ n. marks (take n flags)) sum

pub marks_few : (n : ℕ) (flags : List Bool) → marks (take n flags) ≤ n
marks_few zero flags = omega arith
marks_few (suc n) [] = omega arith
marks_few (suc n) (true ∷ flags) = omega (arith, marks_few n flags)
marks_few (suc n) (false ∷ flags) = omega (arith, marks_few n flags)

-- those before a document, and those from there on
pub parted : (flags : List Bool) (from end : ℕ) → from ≤ end → marks (take end flags) ≡ marks (take from flags) + marks (take (end - from) (drop from flags))
parted flags from end h =
    let sum : from + (end - from) ≡ end = omega (arith, h) in
    ap (λ n. marks (take n flags)) (sym sum) ∙ marks_add from (end - from) flags

-- as many as pass the test of a flag
abbrev flag_number : Bool → ℕ
flag_number flag = cond (is_marked flag) 1 0

pub marks_counted : (flags : List Bool) → marks flags ≡ count_by is_marked flags
marks_counted [] = refl
marks_counted (true ∷ flags) = omega (arith, sum_by-cons flag_number true flags, marks_counted flags)
marks_counted (false ∷ flags) = omega (arith, sum_by-cons flag_number false flags, marks_counted flags)

-- one u64 more, of which the number is known
pub counts_number : (flags : List Bool) (place word : ℕ) → word ≡ word_at flags place → marks (take (64 * place) flags) + count_ones word ≡ marks (take (64 * (place + 1)) flags)
counts_number flags place word is =
    let sum : 64 * place + 64 ≡ 64 * (place + 1) = omega arith in
    ap (λ n. marks (take (64 * place) flags) + n) (ap count_ones is ∙ count_marks (take 64 (drop (64 * place) flags)))
    ∙ sym (marks_add (64 * place) 64 flags)
    ∙ ap (λ n. marks (take n flags)) sum

pub counted_below : (n : ℕ) (flags : List Bool) → marks (take n flags) ≤ length flags
counted_below zero flags = omega arith
counted_below (suc n) [] = omega arith
counted_below (suc n) (true ∷ flags) = omega (arith, counted_below n flags)
counted_below (suc n) (false ∷ flags) = omega (arith, counted_below n flags)
