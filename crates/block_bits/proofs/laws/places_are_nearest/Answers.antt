use Rattle.std.proofs.Common.{take, drop}
use Rattle.block_bits.proofs.Nearest.{first_is, first_again, none_is, none_again, last_is, last_again, no_last_is, no_last_again}
use Rattle.block_bits.proofs.laws.places_are_nearest.Goals as goal

pub returns-clause-next : goal.returns-clause-next
returns-clause-next g c = λ test from at xs. (first_is test from (drop from xs) at, first_again test from (drop from xs) at)

pub returns-clause-no_next : goal.returns-clause-no_next
returns-clause-no_next g c = λ test from xs. (none_is test from (drop from xs), none_again test from (drop from xs))

pub returns-clause-previous : goal.returns-clause-previous
returns-clause-previous g c = λ test below at xs. (last_is test 0 (take below xs) at, last_again test 0 (take below xs) at)

pub returns-clause-no_previous : goal.returns-clause-no_previous
returns-clause-no_previous g c = λ test below xs. (no_last_is test 0 (take below xs), no_last_again test 0 (take below xs))
