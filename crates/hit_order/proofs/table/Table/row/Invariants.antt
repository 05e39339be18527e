use Rattle.std.proofs.Common.{◌≡◌, ◌++◌, map, drop}
use Rattle.hit_order.specs.Table.{key_at}
use Rattle.hit_order.proofs.table.Table.row.Given as goal

abbrev pub invariant-columns : goal.invariant-columns
invariant-columns l = l.keys.items ++ map (λ column. key_at column l.at) (drop l.column-index l.column-items) ≡ map (λ column. key_at column l.at) l.self.columns.items
