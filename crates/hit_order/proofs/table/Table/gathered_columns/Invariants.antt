use Rattle.std.proofs.Common.{◌≡◌, ◌++◌, map, drop}
use Rattle.hit_order.specs.Table.{directions_of, keys_of, key_at}
use Rattle.hit_order.proofs.table.Table.gathered_columns.Given as goal

abbrev pub invariant-columns : goal.invariant-columns
invariant-columns l =
    (directions_of l.made.items ++ directions_of (drop l.column-index l.column-items) ≡ directions_of l.self.columns.items)
    × (map (λ column. keys_of column.keys) l.made.items ++ map (λ column. map (key_at column) l.rows) (drop l.column-index l.column-items) ≡ map (λ column. map (key_at column) l.rows) l.self.columns.items)
