use Rattle.std.proofs.Common.{◌-◌, length}
use Rattle.query_eval.proofs.ranks.Ranks.before.Given as goal

abbrev pub decreases-words : goal.decreases-words
decreases-words l = length l.self.words.now - l.self.place
