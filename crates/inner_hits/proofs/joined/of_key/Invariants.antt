use Rattle.std.proofs.Common.{◌≡◌, ◌≤◌, ◌<◌, ◌++◌, ◌-◌, ℕ, length, drop, filter, get_or, map}
use Rattle.inner_hits.specs.Kinship.{has_key, hit_of, key_of}
use Rattle.inner_hits.specs.declared.joined.Kin.{Kin}
use Rattle.inner_hits.proofs.joined.of_key.Given as goal

abbrev pub invariant-kin : goal.invariant-kin
invariant-kin l =
    (l.hits.items ++ map hit_of (filter (has_key l.key) (drop l.at l.kin)) ≡ map hit_of (filter (has_key l.key) l.kin))
    × ((j : ℕ) (d : Kin) → l.at ≤ j → j < length l.kin → l.key ≤ key_of (get_or l.kin j d))

abbrev pub decreases-kin : goal.decreases-kin
decreases-kin l = length l.kin - l.at
