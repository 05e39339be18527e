use Rattle.std.proofs.Common.{◌≡◌, drop}
use Rattle.std.specs.List.{list_all}
use Rattle.query_eval.specs.Folds.{have_none}
use Rattle.query_eval.proofs.merges.is_nothing.Given as goal

abbrev pub invariant-entries : goal.invariant-entries
invariant-entries l = list_all have_none (drop l.scores-index l.all) ≡ list_all have_none l.hits
