use Rattle.std.proofs.Common.{◌≡◌, drop}
use Rattle.std.specs.List.{list_any}
use Rattle.query_ast.specs.Joins.{sort_joins}
use Rattle.query_ast.proofs.joins.some_sort.Given as goal

abbrev pub invariant-sorts : goal.invariant-sorts
invariant-sorts l = list_any sort_joins (drop l.sort-index l.sorts) ≡ list_any sort_joins l.sorts
