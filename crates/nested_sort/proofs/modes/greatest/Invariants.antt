use Rattle.std.proofs.Common.{◌≡◌, drop}
use Rattle.std.specs.List.{best_of}
use Rattle.nested_sort.specs.Best.{is_behind}
use Rattle.nested_sort.proofs.modes.greatest.Given as goal

abbrev pub invariant-rest : goal.invariant-rest
invariant-rest g l = best_of (is_behind g.T.Ord.cmp) l.best (drop l.value-index l.rest) ≡ best_of (is_behind g.T.Ord.cmp) l.initial.best l.rest
