use Rattle.std.proofs.Common.{◌≡◌, ◌-◌, ◌≤◌, ◌<◌, ℕ, get_or, length, map}
use Rattle.query_eval.specs.Keyed.{key_of}
use Rattle.query_eval.specs.declared.keyed.KeyedRoot.{KeyedRoot}
use Rattle.query_eval.proofs.Leading.{Put}
use Rattle.query_eval.proofs.keyed.put_key.Given as goal

abbrev pub invariant-roots : goal.invariant-roots
invariant-roots l =
    (map length l.sets.items ≡ map length l.fn.sets.items)
    × Put l.fn.roots l.key l.fn.sets.items l.at l.sets.items
    × ((j : ℕ) (d : KeyedRoot) → l.at ≤ j → j < length l.fn.roots → l.key ≤ key_of (get_or l.fn.roots j d))

abbrev pub decreases-roots : goal.decreases-roots
decreases-roots l = length l.fn.roots - l.at
