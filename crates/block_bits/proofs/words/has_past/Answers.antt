use Rattle.std.proofs.Common.{ap, not, ◌/◌, ◌%◌, ◌^◌, slice_index}
use Rattle.std.proofs.lemmas.Nat.{pow_pos}
use Rattle.block_bits.proofs.Walked.{no_quotient}
use Rattle.block_bits.proofs.words.has_past.Goals as goal

pub returns-then-past-ne0 : goal.returns-then-past-ne0
returns-then-past-ne0 c = ap not (no_quotient (slice_index c.args.words.now (c.args.len / 64)) (2 ^ (c.args.len % 64)) (pow_pos (c.args.len % 64)))
