use Rattle.term_table.proofs.Orders.{in_range, has_prefix-cuts}
use Rattle.term_table.proofs.table.TermTable.prefix.Goals as goal

pub returns-clause-prefixed : goal.returns-clause-prefixed
returns-clause-prefixed c = λ ordinal term at.
    in_range c.cut_at-first.result c.cut_at-end.result c.max.result ordinal _ _ _ c.max.ensures
    (has_prefix-cuts c.args.field c.args.bytes term)
    (c.cut_at-first.ensures.split ordinal term at)
    (c.cut_at-end.ensures.split ordinal term at)
