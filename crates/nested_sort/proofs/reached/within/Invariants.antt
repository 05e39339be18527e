use Rattle.std.proofs.Common.{◌≡◌, ◌++◌, drop}
use Rattle.std.specs.List.{flat_map}
use Rattle.nested_sort.specs.Reached.{hit_within}
use Rattle.nested_sort.proofs.reached.within.Given as goal

abbrev pub invariant-kept : goal.invariant-kept
invariant-kept l = l.hits.items ++ flat_map (hit_within l.keys) (drop l.one-index l.kept) ≡ flat_map (hit_within l.keys) l.kept
