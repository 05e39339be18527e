use Rattle.std.proofs.Common.{◌≡◌, map, drop}
use Rattle.query_ast.specs.Page.{keys_cmp}
use Rattle.hit_order.specs.Table.{directions_of, key_at}
use Rattle.hit_order.proofs.table.Table.compare.Given as goal

abbrev pub invariant-columns : goal.invariant-columns
invariant-columns l =
    keys_cmp (directions_of (drop l.column-index l.column-items)) (map (λ column. key_at column l.one) (drop l.column-index l.column-items)) (map (λ column. key_at column l.other) (drop l.column-index l.column-items))
    ≡ keys_cmp (directions_of l.self.columns.items) (map (λ column. key_at column l.one) l.self.columns.items) (map (λ column. key_at column l.other) l.self.columns.items)
