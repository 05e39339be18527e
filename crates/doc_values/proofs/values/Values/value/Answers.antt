use Rattle.std.proofs.Common.{arith, ap, length, sym, ◌∙◌, ◌<◌, ◌/◌}
use Rattle.std.proofs.lemmas.Option.{slice_get_read}
use Rattle.doc_values.proofs.Numbers.{length-values_in, get_or-values_in}
use Rattle.doc_values.proofs.values.Values.value.Goals as goal

pub value_in-requires : goal.value_in-requires
value_in-requires g c = omega (arith, c.requires, ap length c.self.view_is, length-values_in g.T.ColumnValue.front c.self.inside.bytes.now)

pub returns : goal.returns
returns g c =
    let bytes = c.self.inside.bytes.now in
    let below : c.args.at < length bytes / 8 = omega (arith, c.requires, ap length c.self.view_is, length-values_in g.T.ColumnValue.front bytes) in
    rw (← c.self.view_is)
    (slice_get_read _ _ c.args.at c.value_in.result (sym (length-values_in g.T.ColumnValue.front bytes)) below
    (c.value_in.ensures ∙ sym (get_or-values_in g.T.ColumnValue.front bytes c.args.at c.value_in.result below)))
