use Rattle.std.proofs.Common.{rules, arith, ◌+◌, ◌*◌}
use Rattle.std.specs.Int.{trailing_zeros, w64}
use Rattle.block_bits.proofs.Search.{first_in_word, none_before_first}
use Rattle.block_bits.proofs.words.first_in.Goals as goal

pub returns-then-at-end-clause-found : goal.returns-then-at-end-clause-found
returns-then-at-end-clause-found c =
    let at = c.args.place * 64 + trailing_zeros w64 c.args.word in
    (first_in_word c.args.place c.args.word at (omega arith) (search rules) (omega arith), c.if-at-end.true)

pub returns-else-at-end-clause-none : goal.returns-else-at-end-clause-none
returns-else-at-end-clause-none c =
    let at = c.args.place * 64 + trailing_zeros w64 c.args.word in
    none_before_first c.args.place c.args.word at c.args.end (first_in_word c.args.place c.args.word at (omega arith) (search rules) (omega arith)) c.if-at-end.false
