use Rattle.std.proofs.Common.{◌/◌, ◌%◌, ◌<◌, List, ℕ, length, get_or, ap, arith}
use Rattle.std.proofs.lemmas.Nat.{one_shl}
use Rattle.block_join.proofs.Counting.{counts_in_word}
use Rattle.block_join.proofs.Reaching.{words_long}
use Rattle.block_join.proofs.count.count_in_word.Goals as goal

pub bounds-words-end : goal.bounds-words-end
bounds-words-end c = omega (arith, c.requires, c.if-below-eq0.false, words_long c.args.set.now, ap (λ (ws : List ℕ). length ws) c.words.ensures)

pub returns : goal.returns
returns c =
    let below : c.args.end % 64 < 64 = omega arith in
    rw (one_shl (c.args.end % 64) 64 below)
    (counts_in_word c.args.set.now c.args.end (get_or c.words.result.now (c.args.end / 64) 0)
    (omega (arith, c.requires, c.if-below-eq0.false, words_long c.args.set.now))
    (ap (λ (ws : List ℕ). get_or ws (c.args.end / 64) 0) c.words.ensures))
