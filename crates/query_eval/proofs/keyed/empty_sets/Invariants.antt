use Rattle.std.proofs.Common.{◌≡◌, map, take}
use Rattle.query_eval.specs.Keyed.{none_in}
use Rattle.query_eval.proofs.keyed.empty_sets.Given as goal

abbrev pub invariant-entries : goal.invariant-entries
invariant-entries l = l.sets.items ≡ map none_in (take l.at l.entries)
