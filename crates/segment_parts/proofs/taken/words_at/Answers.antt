use Rattle.std.proofs.Common.{arith}
use Rattle.part_text.specs.Reads.{IsBytes}
use Rattle.segment_parts.specs.Once.{words_more}
use Rattle.segment_parts.proofs.taken.words_at.Goals as goal

pub words-preserved : goal.words-preserved
words-preserved c =
    let fits : IsBytes c.args.bytes.now = λ i. omega (arith, c.type_inv.bytes i) in
    rw (c.in_ok-push.ensures.items, c.first_u64.ensures, c.split_at.ensures.back) (words_more c.args.bytes.now c.words.words.items c.words.rest.now c.args.count c.words.counter c.words.invariant c.words-test.true fits)
