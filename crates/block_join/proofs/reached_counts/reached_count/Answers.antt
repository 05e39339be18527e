use Rattle.std.proofs.Common.{◌≡◌, ◌+◌, ◌*◌, ◌/◌, false, List, ℕ, length, get_or, take, ap, ◌∙◌, arith}
use Rattle.std.specs.Int.RustNames.{count_ones}
use Rattle.std.proofs.lemmas.List.{take_all}
use Rattle.block_bits.specs.Words.{bits_number, word_at}
use Rattle.block_join.specs.Kept.{marks, reached, since}
use Rattle.block_join.proofs.Counting.{counts_number, counted_below, marks_counted}
use Rattle.block_join.proofs.Reaching.{before, before_next, length_reached, own, own_full, own_long, own_short, reached_word, word_read, words_long}
use Rattle.block_join.proofs.reached_counts.reached_count.Goals as goal

pub bounds-below-at : goal.bounds-below-at
bounds-below-at c =
    omega (
      arith,
      c.words-test.true,
      c.requires,
      ap (λ (ws : List ℕ). length ws) c.words-above.ensures,
      ap (λ (ws : List ℕ). length ws) c.words-below.ensures,
      words_long c.args.parents.now,
      words_long c.args.others.now,
    )

-- one u64 more is counted
more : (c : goal.After-reached_word-word) → c.words.count + count_ones c.reached_word-word.result.0 ≡ marks (take (64 * (c.words.at + 1)) (reached false c.args.parents.now c.args.others.now))
more c =
    let above = c.args.parents.now in
    let below = c.args.others.now in
    let count : length c.words-above.result.now ≡ (length above + 63) / 64 = ap (λ (ws : List ℕ). length ws) c.words-above.ensures ∙ words_long above in
    let some : c.words.some ≡ before above below c.words.at = c.words.invariant.1 (omega (arith, c.words-test.true, count)) in
    let one : get_or c.words-above.result.now c.words.at 0 ≡ bits_number (own above c.words.at) =
    ap (λ (ws : List ℕ). get_or ws c.words.at 0) c.words-above.ensures ∙ word_read above c.words.at 0 (omega (arith, c.words-test.true, count, words_long above)) in
    let other : get_or c.words-below.result.now c.words.at 0 ≡ bits_number (own below c.words.at) =
    ap (λ (ws : List ℕ). get_or ws c.words.at 0) c.words-below.ensures ∙ word_read below c.words.at 0 (omega (arith, c.words-test.true, count, c.requires, words_long below)) in
    let word : c.reached_word-word.result.0 ≡ word_at (reached false above below) c.words.at =
    c.reached_word-word.ensures.word (own above c.words.at) (own below c.words.at) (own_long above below c.words.at c.requires) (own_short above c.words.at) one other
    ∙ ap (λ b. bits_number (reached b (own above c.words.at) (own below c.words.at))) some
    ∙ reached_word above below c.words.at c.requires in
    omega (arith, c.words.invariant.0, counts_number (reached false above below) c.words.at c.reached_word-word.result.0 word)

pub overflow_add-count : goal.overflow_add-count
overflow_add-count c =
    omega (
      arith,
      more c,
      counted_below (64 * (c.words.at + 1)) (reached false c.args.parents.now c.args.others.now),
      length_reached false c.args.parents.now c.args.others.now c.requires,
      c.len-documents.ensures,
      c.len-documents.type_inv,
    )

pub words-preserved : goal.words-preserved
words-preserved c =
    let above = c.args.parents.now in
    let below = c.args.others.now in
    let count : length c.words-above.result.now ≡ (length above + 63) / 64 = ap (λ (ws : List ℕ). length ws) c.words-above.ensures ∙ words_long above in
    let some : c.words.some ≡ before above below c.words.at = c.words.invariant.1 (omega (arith, c.words-test.true, count)) in
    let one : get_or c.words-above.result.now c.words.at 0 ≡ bits_number (own above c.words.at) =
    ap (λ (ws : List ℕ). get_or ws c.words.at 0) c.words-above.ensures ∙ word_read above c.words.at 0 (omega (arith, c.words-test.true, count, words_long above)) in
    let other : get_or c.words-below.result.now c.words.at 0 ≡ bits_number (own below c.words.at) =
    ap (λ (ws : List ℕ). get_or ws c.words.at 0) c.words-below.ensures ∙ word_read below c.words.at 0 (omega (arith, c.words-test.true, count, c.requires, words_long below)) in (
      more c,
      λ full.
          c.reached_word-word.ensures.more (own above c.words.at) (own below c.words.at) (own_long above below c.words.at c.requires) (own_full above c.words.at full) one other
          ∙ ap (λ b. since b (own above c.words.at) (own below c.words.at)) some
          ∙ before_next above below c.words.at c.requires,
    )

pub returns : goal.returns
returns c =
    let all = reached false c.args.parents.now c.args.others.now in
    let count : length c.words-above.result.now ≡ (length c.args.parents.now + 63) / 64 = ap (λ (ws : List ℕ). length ws) c.words-above.ensures ∙ words_long c.args.parents.now in
    c.words.invariant.0
    ∙ ap marks (take_all (64 * c.words.at) all (omega (arith, c.words-test.false, count, length_reached false c.args.parents.now c.args.others.now c.requires)))
    ∙ marks_counted all
