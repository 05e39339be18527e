use Rattle.std.proofs.Common.{sym, ◌∙◌}
use Rattle.doc_values.proofs.Numbers.{values_none, values_more}
use Rattle.doc_values.proofs.values.Values.next.Goals as goal

pub returns-then-self-lt8-clause-none : goal.returns-then-self-lt8-clause-none
returns-then-self-lt8-clause-none g c =
    let none = sym c.self.view_is ∙ values_none g.T.ColumnValue.front c.self.inside.bytes.now c.if-self-lt8.true in (none, none)

pub returns-clause-some : goal.returns-clause-some
returns-clause-some g c =
    rw (c.value_in-value.ensures, c.split_at.ensures.back)
    (sym c.self.view_is ∙ values_more g.T.ColumnValue.front c.self.inside.bytes.now c.if-self-lt8.false)
