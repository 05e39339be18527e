use Rattle.hit_order.proofs.Gathered.{numbers_gathered, texts_gathered}
use Rattle.hit_order.proofs.column.Column.gathered.Goals as goal

pub returns-in_ok-gathered-in-Numbers-clause-keys : goal.returns-in_ok-gathered-in-Numbers-clause-keys
returns-in_ok-gathered-in-Numbers-clause-keys c =
    numbers_gathered c.args.self.now c.in-Numbers.keys c.in_ok-gathered-in-Numbers.field-0 c.args.rows.now c.in-Numbers.is c.in_ok-gathered-in-Numbers.ensures

pub returns-in_ok-gathered-in-Texts-clause-keys : goal.returns-in_ok-gathered-in-Texts-clause-keys
returns-in_ok-gathered-in-Texts-clause-keys c =
    texts_gathered c.args.self.now c.in-Texts.keys c.in_ok-gathered-in-Texts.field-0 c.args.rows.now c.in-Texts.is c.in_ok-gathered-in-Texts.ensures
