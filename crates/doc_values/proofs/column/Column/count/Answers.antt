use Rattle.doc_values.proofs.Lookups.{values_of-ascending, values_of-none}
use Rattle.doc_values.proofs.column.Column.count.Goals as goal

pub returns-clause-absent : goal.returns-clause-absent
returns-clause-absent g c = rw (c.len.ensures, c.values.ensures.values) (values_of-none g.T.Ord.cmp c.args.self.now c.args.doc c.values.ensures.rows)

pub returns-clause-ascending : goal.returns-clause-ascending
returns-clause-ascending g c = values_of-ascending g.T.Ord.cmp c.args.self.now c.args.doc c.values.ensures.rows
