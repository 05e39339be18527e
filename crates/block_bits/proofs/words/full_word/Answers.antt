use Rattle.std.proofs.Common.{◌-◌, ap, ◌∙◌}
use Rattle.std.specs.Int.{bit_at}
use Rattle.std.proofs.lemmas.Nat.{one_shl}
use Rattle.block_bits.proofs.OneEach.{full-some, full-all}
use Rattle.block_bits.proofs.words.full_word.Goals as goal

pub returns-then-count-lt-WORD : goal.returns-then-count-lt-WORD
returns-then-count-lt-WORD c =
    λ i h. ap (λ n. bit_at (n - 1) i) (one_shl c.args.count 64 c.if-count-lt-WORD.true) ∙ full-some c.args.count i

pub returns-else-count-lt-WORD : goal.returns-else-count-lt-WORD
returns-else-count-lt-WORD c = λ i h. full-all c.args.count i c.if-count-lt-WORD.false h
