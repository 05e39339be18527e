use Rattle.std.proofs.Common.{sym, ap, ◌∙◌, length}
use Rattle.doc_values.proofs.Singles.{length-single_rows_in}
use Rattle.doc_values.proofs.single.SingleRows.len.Goals as goal

pub returns : goal.returns
returns g c = sym (length-single_rows_in g.T.ColumnValue.front c.self.inside.bytes.now) ∙ ap length c.self.view_is
