use Rattle.hit_order.proofs.Gathered.{gathered_table}
use Rattle.hit_order.proofs.table.Table.gathered.Goals as goal

pub returns : goal.returns
returns c =
    gathered_table c.args.self.now.columns.items c.in_ok-gathered_columns.field-0.items c.args.self.now.places.items c.in_ok-gathered_places.field-0.items c.args.rows.now
    c.in_ok-gathered_columns.ensures.directions c.in_ok-gathered_columns.ensures.keys c.in_ok-gathered_places.ensures
