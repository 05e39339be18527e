use Rattle.part_text.specs.Reads.{reads_once}
use Rattle.term_table.specs.Part.{AreRows, rows_text}
use Rattle.term_table.specs.Reading.{rows_at}
use Rattle.term_table.specs.Laws.{rows_reads}
use Rattle.term_table.proofs.rows.rows_have_one_text.Goals as goal

pub returns : goal.returns
returns c = λ rows others rest more. reads_once {B = Unit {0}} rows_text (λ _ list. AreRows list) (λ _. rows_at) rows_reads tt rows others rest more
