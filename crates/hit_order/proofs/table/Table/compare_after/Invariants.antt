use Rattle.std.proofs.Common.{◌≡◌, map, drop}
use Rattle.query_ast.specs.Page.{keys_cmp}
use Rattle.hit_order.specs.Table.{directions_of, key_at}
use Rattle.hit_order.proofs.table.Table.compare_after.Given as goal

abbrev pub invariant-columns : goal.invariant-columns
invariant-columns l =
    keys_cmp (directions_of (drop l.column-index l.column-items)) l.keys (map (λ column. key_at column l.at) (drop l.column-index l.column-items))
    ≡ keys_cmp (directions_of l.self.columns.items) l.after.keys (map (λ column. key_at column l.at) l.self.columns.items)
