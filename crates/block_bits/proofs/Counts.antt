-- How many documents are set, word by word.
use Rattle.std.proofs.Common.{◌≡◌, ℕ, zero, suc, ◌+◌, ◌-◌, add_comm, add-one, mod-eq_of_lt, ◌*◌, ◌/◌, ◌%◌, ◌^◌, ◌<◌, ◌≤◌, Bool, cond, List, [], ◌∷◌, length, get_or, map, refl, sym, ap, ◌∙◌, arith, eqb}
use Rattle.std.specs.Int.{bit_at}
use Rattle.std.specs.Int.RustNames.{count_ones}
use Rattle.std.specs.List.{range_with_len, count_by}
use Rattle.std.proofs.lemmas.List.FromFn.{map-range_with_len_more}
use Rattle.std.proofs.lemmas.List.Sums.{sum_by-append, count_by-le-length}
use Rattle.std.proofs.lemmas.Nat.{mod-pow-add, ones_cat, mod_below, pow_pos}
use Rattle.std.proofs.lemmas.Nat.Bits.{bit_at-lt}
use Rattle.block_bits.specs.Flags.{is_marked, is_set, flags, IsTight}
use Rattle.block_bits.proofs.Marks.{length-flags}

-- how many of the first `n` documents are set
unfoldable pub set_below : List ℕ → ℕ → ℕ
set_below words n = count_by is_marked (flags words n)

pub set_below-le : (words : List ℕ) (n : ℕ) → set_below words n ≤ n
unfolding set_below
set_below-le words n = omega (arith, count_by-le-length is_marked (flags words n), length-flags words n)

pub set_below-zero : (words : List ℕ) → set_below words 0 ≡ 0
unfolding set_below flags
set_below-zero words = refl

set_below-more : (words : List ℕ) (n : ℕ) → set_below words (n + 1) ≡ set_below words n + cond (is_set words n) 1 0
unfolding set_below flags
set_below-more words n =
    ap (count_by is_marked) (map-range_with_len_more (is_set words) 0 n n (omega arith))
    ∙ sum_by-append (λ flag. cond flag 1 0) (map (is_set words) (range_with_len 0 n)) (is_set words n ∷ [])
    ∙ omega arith

ones_small : (b : ℕ) → b < 2 → count_ones b ≡ b
unfolding count_ones
ones_small zero h = refl
ones_small (suc zero) h = refl
ones_small (suc (suc b)) h = absurd (omega arith)

-- one bit more of a word
ones_more : (word i : ℕ) → count_ones (word % 2 ^ (i + 1)) ≡ count_ones (word % 2 ^ i) + bit_at word i
ones_more word i =
    ap count_ones (ap (λ k. word % 2 ^ k) (add_comm i 1) ∙ mod-pow-add word 1 i)
    ∙ ones_cat i (word / 2 ^ i % 2 ^ 1) (word % 2 ^ i) (mod_below word (2 ^ i) (pow_pos i))
    ∙ ap (λ n. n + count_ones (word % 2 ^ i)) (ones_small (bit_at word i) (bit_at-lt word i))
    ∙ add_comm (bit_at word i) (count_ones (word % 2 ^ i))

flag_of_bit : (b : ℕ) → b < 2 → cond (eqb b 1) 1 0 ≡ b
flag_of_bit zero h = refl
flag_of_bit (suc zero) h = refl
flag_of_bit (suc (suc b)) h = absurd (omega arith)

-- document `64 * place + i` is bit i of word `place`
is_set-at : (words : List ℕ) (place i : ℕ) → i < 64 → cond (is_set words (64 * place + i)) 1 0 ≡ bit_at (get_or words place 0) i
unfolding is_set
is_set-at words place i h =
    let whole : (64 * place + i) / 64 ≡ place = omega arith in
    let rest : (64 * place + i) % 64 ≡ i = omega arith in
    rw (whole, rest) (flag_of_bit (bit_at (get_or words place 0) i) (bit_at-lt (get_or words place 0) i))

within_word : (words : List ℕ) (place i : ℕ) → i ≤ 64 → set_below words (64 * place + i) ≡ set_below words (64 * place) + count_ones (get_or words place 0 % 2 ^ i)
within_word words place zero h =
    let whole : get_or words place 0 % 2 ^ 0 ≡ 0 = omega arith in
    let none : count_ones (get_or words place 0 % 2 ^ 0) ≡ 0 = ap count_ones whole ∙ ones_small 0 (omega arith) in
    let here : 64 * place + 0 ≡ 64 * place = omega arith in
    ap (set_below words) here ∙ omega (arith, none)
within_word words place (suc i) h =
    let next : 64 * place + suc i ≡ 64 * place + i + 1 = omega arith in
    ap (set_below words) next
    ∙ set_below-more words (64 * place + i)
    ∙ omega (arith, within_word words place i (omega arith), is_set-at words place i (omega arith), sym (ap (λ k. count_ones (get_or words place 0 % 2 ^ k)) (add-one i)) ∙ ones_more (get_or words place 0) i)

-- one word more
pub set_below-word : (words : List ℕ) (place : ℕ) → get_or words place 0 < 2 ^ 64 → set_below words (64 * (place + 1)) ≡ set_below words (64 * place) + count_ones (get_or words place 0)
set_below-word words place fits =
    let next : 64 * (place + 1) ≡ 64 * place + 64 = omega arith in
    ap (set_below words) next ∙ within_word words place 64 (omega arith)
    ∙ ap (λ word. set_below words (64 * place) + count_ones word) (mod-eq_of_lt fits)

-- past the last document nothing is set
pub set_below-past : (words : List ℕ) (len more : ℕ) → IsTight words len → set_below words (len + more) ≡ set_below words len
set_below-past words len zero tight = let here : len + 0 ≡ len = omega arith in ap (set_below words) here
set_below-past words len (suc more) tight =
    let next : len + suc more ≡ len + more + 1 = omega arith in
    ap (set_below words) next
    ∙ set_below-more words (len + more)
    ∙ ap (λ flag. set_below words (len + more) + cond flag 1 0) (tight.clear (len + more) (omega arith))
    ∙ omega (arith, set_below-past words len more tight)

-- so all words together count the documents of the set
pub set_below-all : (words : List ℕ) (len place : ℕ) (value : List Bool) → flags words len ≡ value → IsTight words len → length words ≤ place → set_below words (64 * place) ≡ count_by is_marked value
unfolding set_below
set_below-all words len place value e tight all =
    let long : 64 * place ≡ len + (64 * place - len) = omega (arith, tight.long) in
    ap (set_below words) long ∙ set_below-past words len (64 * place - len) tight ∙ ap (count_by is_marked) e
