use Rattle.std.proofs.Common.{◌≡◌, ◌+◌, ◌*◌, ◌/◌, List, ℕ, length, get_or, take, ap, arith}
use Rattle.std.specs.Int.RustNames.{count_ones}
use Rattle.block_join.specs.Kept.{marks}
use Rattle.block_join.proofs.Counting.{counts_word, marks_few, parted}
use Rattle.block_join.proofs.Reaching.{words_long}
use Rattle.block_join.proofs.count.count_between.Goals as goal

pub bounds-words-place : goal.bounds-words-place
bounds-words-place c = omega (arith, c.places-test.true, c.requires.within, words_long c.args.set.now, ap (λ (ws : List ℕ). length ws) c.words-words.ensures)

-- one u64 more is counted
more : (c : goal.After-shared_slice_known-1) → marks (take (64 * (c.args.from / 64)) c.args.set.now) + (c.places.total + count_ones (get_or c.words-words.result.now c.places.place 0)) ≡ marks (take (64 * (c.places.place + 1)) c.args.set.now)
more c =
    omega (
      arith,
      c.places.invariant.0,
      counts_word c.args.set.now c.places.place (get_or c.words-words.result.now c.places.place 0)
          (omega (arith, c.places-test.true, c.requires.within, words_long c.args.set.now))
          (ap (λ (ws : List ℕ). get_or ws c.places.place 0) c.words-words.ensures),
    )

pub overflow_add-total : goal.overflow_add-total
overflow_add-total c = omega (arith, more c, c.places-test.true, c.ranges.end.fits, marks_few (64 * (c.places.place + 1)) c.args.set.now)

pub places-preserved : goal.places-preserved
places-preserved c = (more c, omega (arith, c.places.invariant.1), omega (arith, c.places-test.true))

-- those before the end, and those before the first
last : (c : goal.After-count_in_word) → marks (take (64 * (c.args.from / 64)) c.args.set.now) + (c.places.total + c.count_in_word.result) ≡ marks (take c.args.end c.args.set.now)
last c =
    let all : c.places.place ≡ c.args.end / 64 = omega (arith, c.places-test.false, c.places.invariant.2) in
    omega (arith, c.places.invariant.0, ap (λ n. marks (take (64 * n) c.args.set.now)) all, c.count_in_word.ensures)

pub overflow_add-result : goal.overflow_add-result
overflow_add-result c = omega (arith, last c, c.ranges.end.fits, marks_few c.args.end c.args.set.now)

pub overflow_sub-result : goal.overflow_sub-result
overflow_sub-result c = omega (arith, last c.before, c.count_in_word-2.ensures, parted c.args.set.now c.args.from c.args.end c.requires.ordered)

pub returns : goal.returns
returns c = omega (arith, last c.before, c.count_in_word-2.ensures, parted c.args.set.now c.args.from c.args.end c.requires.ordered)
