use Rattle.std.proofs.Common.{◌-◌, ℕ, None, List, length}
use Rattle.part_text.specs.Reading.{many_at}
use Rattle.part_text.specs.Placed.{IsPlacing}
use Rattle.doc_values.specs.Text.{entry_text}
use Rattle.doc_values.specs.Reading.{entry_at}
use Rattle.doc_values.proofs.placing.placed_entries.Given as goal

abbrev pub invariant-entries : goal.invariant-entries
invariant-entries g l =
    IsPlacing (λ (entry : ℕ × List g.row.T.Denot). entry.0) (entry_text g.T.ColumnValue.text) (entry_at g.T.Ord.cmp g.T.ColumnValue.read)
    (many_at (λ (entry : ℕ × List g.row.T.Denot). entry.0) (entry_at g.T.Ord.cmp g.T.ColumnValue.read) None l.count l.bytes) l.count l.bytes (l.end - length l.bytes) l.before l.counter l.rest l.places
