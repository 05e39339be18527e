use Rattle.std.proofs.Common.{length, get_or, sym, ap, ◌∙◌, arith}
use Rattle.doc_values.specs.Values.{documents}
use Rattle.doc_values.proofs.Entries.{length-column_rows, documents-column_rows}
use Rattle.doc_values.proofs.column.Column.doc.Goals as goal

pub document-requires-clause-below : goal.document-requires-clause-below
document-requires-clause-below g c =
    omega (arith, c.requires, ap length c.self.view_is, length-column_rows g.T.ColumnValue.front c.self.inside.places.now c.self.inside.bytes.now)

pub returns : goal.returns
returns g c =
    c.document.ensures
    ∙ sym (ap (λ docs. get_or docs c.args.row 0) (documents-column_rows g.T.ColumnValue.front c.self.inside.places.now c.self.inside.bytes.now))
    ∙ ap (λ rows. get_or (documents rows) c.args.row 0) c.self.view_is
