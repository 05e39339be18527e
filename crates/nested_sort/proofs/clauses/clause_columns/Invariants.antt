use Rattle.std.proofs.Common.{◌≡◌, ◌++◌, drop, map}
use Rattle.hit_order.specs.Table.{directions_of, keys_of}
use Rattle.hit_order.specs.declared.column.Column.{Column}
use Rattle.nested_sort.specs.Documents.{AllLong, all_keys}
use Rattle.nested_sort.proofs.clauses.clause_columns.Given as goal
use Rattle.query_ast.specs.Page.{direction_of}
use Rattle.query_ast.specs.Resolved.{AreSorts}

abbrev pub invariant-sorts : goal.invariant-sorts
invariant-sorts l = record {
  directions : directions_of l.columns.items ++ map direction_of (drop l.sort-index l.sorts) ≡ map direction_of l.sorts;
  keys : map (λ (column : Column). keys_of column.keys) l.columns.items ++ all_keys l.mapping l.entries l.hits l.scope (drop l.sort-index l.sorts) l.rest ≡ all_keys l.mapping l.entries l.hits l.scope l.sorts l.filters;
  long : AllLong l.entries l.rest;
  are : AreSorts l.mapping l.scope (drop l.sort-index l.sorts);
}
