use Rattle.std.proofs.Common.{length}
use Rattle.reply_text.proofs.inner_hits.+put_place.Given as goal

abbrev pub decreases-put_place : goal.decreases-put_place
decreases-put_place l = length l.deeper.now
