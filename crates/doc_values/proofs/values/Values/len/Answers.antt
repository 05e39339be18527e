use Rattle.std.proofs.Common.{sym, ap, ◌∙◌, length}
use Rattle.doc_values.proofs.Numbers.{length-values_in}
use Rattle.doc_values.proofs.values.Values.len.Goals as goal

pub returns : goal.returns
returns g c = sym (length-values_in g.T.ColumnValue.front c.self.inside.bytes.now) ∙ ap length c.self.view_is
