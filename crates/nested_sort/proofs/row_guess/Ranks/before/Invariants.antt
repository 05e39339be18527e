use Rattle.std.proofs.Common.{◌-◌, length}
use Rattle.nested_sort.proofs.row_guess.Ranks.before.Given as goal

abbrev pub decreases-words : goal.decreases-words
decreases-words l = length l.self.words.now - l.self.place
