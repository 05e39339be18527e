use Rattle.std.proofs.Common.{◌≡◌, map, reverse, take}
use Rattle.merge_policy.specs.Policy.{all_anew, run_in}
use Rattle.merge_policy.proofs.policy.anew.Given as goal

abbrev pub invariant-neighbours : goal.invariant-neighbours
invariant-neighbours l =
    (reverse l.runs.items ≡ map run_in (all_anew l.evened.made (reverse (take l.neighbour-index l.neighbour-items))).neighbours)
    × (l.made ≡ (all_anew l.evened.made (reverse (take l.neighbour-index l.neighbour-items))).made)
