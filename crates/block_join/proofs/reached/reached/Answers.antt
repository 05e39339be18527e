use Rattle.std.proofs.Common.{◌≡◌, ◌+◌, ◌/◌, ◌++◌, ◌∷◌, [], false, List, ℕ, length, map, get_or, sym, ap, ◌∙◌, arith}
use Rattle.std.specs.List.{range_with_len}
use Rattle.std.proofs.lemmas.List.FromFn.{map-range_with_len_more}
use Rattle.block_bits.specs.Words.{bits_number, word_at}
use Rattle.block_join.specs.Kept.{reached, since}
use Rattle.block_join.proofs.Reaching.{before, before_next, length_reached, own, own_full, own_long, own_short, reached_word, word_read, words_all, words_long}
use Rattle.block_join.proofs.reached.reached.Goals as goal

pub bounds-below-at : goal.bounds-below-at
bounds-below-at c =
    omega (
      arith,
      c.words-test.true,
      c.requires,
      ap (λ (ws : List ℕ). length ws) c.words-above.ensures,
      ap (λ (ws : List ℕ). length ws) c.words-below.ensures,
      words_long c.args.parents.now,
      words_long c.args.others.now,
    )

pub words-preserved : goal.words-preserved
words-preserved c =
    let above = c.args.parents.now in
    let below = c.args.others.now in
    let all = word_at (reached false above below) in
    let count : length c.words-above.result.now ≡ (length above + 63) / 64 = ap (λ (ws : List ℕ). length ws) c.words-above.ensures ∙ words_long above in
    let some : c.words.some ≡ before above below c.words.at = c.words.invariant.1 (omega (arith, c.words-test.true, count)) in
    let one : get_or c.words-above.result.now c.words.at 0 ≡ bits_number (own above c.words.at) =
    ap (λ (ws : List ℕ). get_or ws c.words.at 0) c.words-above.ensures ∙ word_read above c.words.at 0 (omega (arith, c.words-test.true, count, words_long above)) in
    let other : get_or c.words-below.result.now c.words.at 0 ≡ bits_number (own below c.words.at) =
    ap (λ (ws : List ℕ). get_or ws c.words.at 0) c.words-below.ensures ∙ word_read below c.words.at 0 (omega (arith, c.words-test.true, count, c.requires, words_long below)) in
    let long = own_long above below c.words.at c.requires in (
      c.in_ok-push.ensures.items
          ∙ ap (λ ws. ws ++ (c.reached_word-word.result.0 ∷ [])) c.words.invariant.0
          ∙ ap (λ w. map all (range_with_len 0 c.words.at) ++ (w ∷ []))
          (c.reached_word-word.ensures.word (own above c.words.at) (own below c.words.at) long (own_short above c.words.at) one other
          ∙ ap (λ b. bits_number (reached b (own above c.words.at) (own below c.words.at))) some
          ∙ reached_word above below c.words.at c.requires)
          ∙ sym (map-range_with_len_more all 0 c.words.at c.words.at (omega arith)),
      λ full.
          c.reached_word-word.ensures.more (own above c.words.at) (own below c.words.at) long (own_full above c.words.at full) one other
          ∙ ap (λ b. since b (own above c.words.at) (own below c.words.at)) some
          ∙ before_next above below c.words.at c.requires,
    )

pub unreachable-requires : goal.unreachable-requires
unreachable-requires c =
    let all = reached false c.args.parents.now c.args.others.now in
    let long : length all ≡ length c.args.parents.now = length_reached false c.args.parents.now c.args.others.now c.requires in
    c.in_default.ensures.none all (long ∙ sym c.len-len.ensures)
    (c.words.invariant.0
    ∙ words_all all c.words.at (omega (arith, long, c.words-test.false, c.words.auto.at-end, ap (λ (ws : List ℕ). length ws) c.words-above.ensures, words_long c.args.parents.now)))

pub returns : goal.returns
returns c =
    let all = reached false c.args.parents.now c.args.others.now in
    let long : length all ≡ length c.args.parents.now = length_reached false c.args.parents.now c.args.others.now c.requires in
    c.words_are_of_one_set.ensures c.in-Some.set all (c.in-Some.ensures.set.0 ∙ c.len-len.ensures ∙ sym long)
    (sym c.in-Some.ensures.set.1
    ∙ c.words.invariant.0
    ∙ words_all all c.words.at (omega (arith, long, c.words-test.false, c.words.auto.at-end, ap (λ (ws : List ℕ). length ws) c.words-above.ensures, words_long c.args.parents.now)))
