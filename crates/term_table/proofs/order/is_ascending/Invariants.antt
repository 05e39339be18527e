use Rattle.std.proofs.Common.{ℕ, ◌+◌, ◌<◌, get_or}
use Rattle.term_table.proofs.order.is_ascending.Given as goal

abbrev pub invariant-numbers : goal.invariant-numbers
invariant-numbers l = (k : ℕ) → k + 1 < l.at → get_or l.numbers k 0 < get_or l.numbers (k + 1) 0
