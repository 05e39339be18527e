use Rattle.std.proofs.Common.{◌≡◌, drop}
use Rattle.std.specs.List.{best_of}
use Rattle.nested_sort.specs.Best.{is_before}
use Rattle.nested_sort.proofs.modes.least.Given as goal

abbrev pub invariant-rest : goal.invariant-rest
invariant-rest g l = best_of (is_before g.T.Ord.cmp) l.best (drop l.value-index l.rest) ≡ best_of (is_before g.T.Ord.cmp) l.initial.best l.rest
