use Rattle.std.proofs.Common.{◌≡◌, ◌+◌, ◌<◌, ◌≤◌, ℕ, length}
use Rattle.join_ordinals.specs.Numbers.{IsFirst, IsHead}
use Rattle.join_ordinals.proofs.numbers.firsts_of.Given as goal

abbrev pub invariant-met : goal.invariant-met
invariant-met l =
    (length l.firsts.items ≡ length l.met)
    × (l.head ≤ l.at)
    × ((before : ℕ) → before + 1 ≡ l.at → IsHead l.met before l.head)
    × ((at : ℕ) → at < l.at → IsFirst l.met l.firsts.items at)
