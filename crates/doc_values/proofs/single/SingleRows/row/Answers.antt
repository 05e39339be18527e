use Rattle.std.proofs.Common.{arith, ap, length, sym, ◌∙◌, ◌<◌, ◌/◌, ◌∷◌, [], ℕ, List}
use Rattle.std.proofs.lemmas.Option.{slice_get_read}
use Rattle.doc_values.proofs.Singles.{length-single_rows_in, get_or-single_rows_in}
use Rattle.doc_values.proofs.single.SingleRows.row.Goals as goal

pub row_in-requires : goal.row_in-requires
row_in-requires g c = omega (arith, c.requires, ap length c.self.view_is, length-single_rows_in g.T.ColumnValue.front c.self.inside.bytes.now)

pub returns : goal.returns
returns g c =
    let bytes = c.self.inside.bytes.now in
    let own : ℕ × List g.row.T.Denot = (c.row_in.result.0, c.row_in.result.1 ∷ []) in
    let below : c.args.at < length bytes / 16 = omega (arith, c.requires, ap length c.self.view_is, length-single_rows_in g.T.ColumnValue.front bytes) in
    rw (← c.self.view_is)
    (slice_get_read _ _ c.args.at own (sym (length-single_rows_in g.T.ColumnValue.front bytes)) below
    (c.row_in.ensures ∙ sym (get_or-single_rows_in g.T.ColumnValue.front bytes c.args.at own below)))
