use Rattle.term_table.proofs.Orders.{in_range, is_between-cuts}
use Rattle.term_table.proofs.table.TermTable.range.Goals as goal

pub returns-clause-between : goal.returns-clause-between
returns-clause-between c = λ ordinal term at.
    in_range c.cut_at-first.result c.cut_at-end.result c.max.result ordinal _ _ _ c.max.ensures
    (is_between-cuts c.args.field c.args.low c.args.high term)
    (c.cut_at-first.ensures.split ordinal term at)
    (c.cut_at-end.ensures.split ordinal term at)
