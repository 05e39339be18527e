use Rattle.std.proofs.Common.{ap, arith, length}
use Rattle.hit_order.proofs.Found.{length_rows}
use Rattle.hit_order.proofs.rows.KeyRows.len.Goals as goal

pub returns : goal.returns
returns c = omega (arith, length_rows c.self.inside.table.columns.items c.self.inside.table.places.items, ap (λ t. length t.rows) c.self.view_is)
