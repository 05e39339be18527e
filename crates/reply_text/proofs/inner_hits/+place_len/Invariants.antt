use Rattle.std.proofs.Common.{length}
use Rattle.reply_text.proofs.inner_hits.+place_len.Given as goal

abbrev pub decreases-place_len : goal.decreases-place_len
decreases-place_len l = length l.deeper.now
