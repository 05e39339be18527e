use Rattle.std.proofs.Common.{◌≡◌, ◌++◌, map, drop}
use Rattle.hit_order.specs.Table.{place_at}
use Rattle.hit_order.proofs.table.Table.gathered_places.Given as goal

abbrev pub invariant-rows : goal.invariant-rows
invariant-rows l = l.made.items ++ map (place_at l.self.places.items) (drop l.row-index l.rows) ≡ map (place_at l.self.places.items) l.rows
