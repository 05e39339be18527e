use Rattle.part_text.specs.Reads.{reads_once}
use Rattle.doc_values.specs.Text.{column_text}
use Rattle.doc_values.specs.Stands.{IsColumn}
use Rattle.doc_values.specs.Reading.{column_at, column_reads}
use Rattle.doc_values.proofs.rows.columns_have_one_text.Goals as goal

pub returns : goal.returns
returns g c = λ column other rest more.
    reads_once {B = Unit {0}} (column_text g.T.ColumnValue.text) (λ _ own. IsColumn g.T.Ord.cmp g.T.ColumnValue.Fits own) (λ _. column_at g.T.Ord.cmp g.T.ColumnValue.read)
    (column_reads g.T.Ord.cmp g.T.ColumnValue.Fits g.T.ColumnValue.text g.T.ColumnValue.read g.met.T.ColumnValue.reads) tt column other rest more
