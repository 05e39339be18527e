-- How many documents two sets share: those of the words that both have.
use Rattle.std.proofs.Common.{◌≡◌, ℕ, ◌/◌, ◌%◌, ◌+◌, ◌*◌, ◌^◌, ◌<◌, ◌≤◌, Bool, List, length, get_or, map, sym, ap, subst, ◌∙◌, inl, inr, arith, eqb, bit_and, ◌&&◌}
use Rattle.std.specs.Int.{bit_at}
use Rattle.std.specs.Int.RustNames.{count_ones}
use Rattle.std.specs.List.{range_with_len, count_by}
use Rattle.std.proofs.lemmas.List.FromFn.{length-map-range_with_len, get_or-map-range_with_len}
use Rattle.std.proofs.lemmas.Bool.{cases_lt}
use Rattle.std.proofs.lemmas.Nat.{and_le_l}
use Rattle.block_bits.specs.Flags.{is_marked, is_set, flags, intersection, IsTight}
use Rattle.block_bits.proofs.Combined.{Follows-and, flags-combined, is_set-past}
use Rattle.block_bits.proofs.Counts.{set_below, set_below-all, set_below-le, set_below-word}

pub word_of_both : List ℕ → List ℕ → ℕ → ℕ
word_of_both ones others place = bit_and (get_or ones place 0) (get_or others place 0)

-- the words of the documents that both have
pub words_of_both : List ℕ → List ℕ → List ℕ
words_of_both ones others = map (word_of_both ones others) (range_with_len 0 (length ones))

pub length-both : (ones others : List ℕ) → length (words_of_both ones others) ≡ length ones
unfolding words_of_both
length-both ones others = length-map-range_with_len (word_of_both ones others) 0 (length ones)

pub read_both : (ones others : List ℕ) (place : ℕ) → place < length ones → get_or (words_of_both ones others) place 0 ≡ bit_and (get_or ones place 0) (get_or others place 0)
unfolding words_of_both word_of_both
read_both ones others place h = get_or-map-range_with_len (word_of_both ones others) 0 (length ones) place place 0 h (omega arith)

is_set-both : (ones others : List ℕ) (at : ℕ) → is_set (words_of_both ones others) at ≡ (is_set ones at && is_set others at)
unfolding is_set
is_set-both ones others at = elim (cases_lt (at / 64) (length ones)) [
  | inl inside ↦
      ap (λ word. eqb (bit_at word (at % 64)) 1) (read_both ones others (at / 64) inside)
      ∙ (Follows-and (get_or ones (at / 64) 0) (get_or others (at / 64) 0)).bits (at % 64) (omega arith)
  | inr past ↦
      is_set-past (words_of_both ones others) at (omega (arith, past, length-both ones others))
      ∙ sym (ap (λ flag. flag && is_set others at) (is_set-past ones at past))
]

tight-shared : (ones others : List ℕ) (len : ℕ) → IsTight ones len → IsTight (words_of_both ones others) len
tight-shared ones others len tight = record {
  small = tight.small;
  long = length-both ones others ∙ tight.long;
  clear = λ at past. is_set-both ones others at ∙ ap (λ flag. flag && is_set others at) (tight.clear at past);
}

-- one word more
pub shared_more : (ones others : List ℕ) (place : ℕ) → place < length ones → get_or ones place 0 < 2 ^ 64
    → set_below (words_of_both ones others) (64 * (place + 1)) ≡ set_below (words_of_both ones others) (64 * place) + count_ones (bit_and (get_or ones place 0) (get_or others place 0))
shared_more ones others place inside fits =
    let read = read_both ones others place inside in
    set_below-word (words_of_both ones others) place (omega (arith, read, fits, and_le_l (get_or ones place 0) (get_or others place 0)))
    ∙ ap (λ word. set_below (words_of_both ones others) (64 * place) + count_ones word) read

-- all words together
pub shared_all : (ones others : List ℕ) (len place : ℕ) → IsTight ones len → length ones ≤ place → set_below (words_of_both ones others) (64 * place) ≡ count_by is_marked (intersection (flags ones len) (flags others len))
shared_all ones others len place tight all =
    set_below-all (words_of_both ones others) len place (intersection (flags ones len) (flags others len))
    (flags-combined (λ a b. a && b) ones others (words_of_both ones others) len (is_set-both ones others))
    (tight-shared ones others len tight)
    (omega (arith, all, length-both ones others))

-- there are no more than documents
pub shared_few : (ones others : List ℕ) (len : ℕ) → count_by is_marked (intersection (flags ones len) (flags others len)) ≤ len
unfolding set_below
shared_few ones others len =
    subst (λ (marks : List Bool). count_by is_marked marks ≤ len)
    (flags-combined (λ a b. a && b) ones others (words_of_both ones others) len (is_set-both ones others))
    (set_below-le (words_of_both ones others) len)
