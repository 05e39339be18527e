use Rattle.std.proofs.Common.{◌-◌, None, length}
use Rattle.std.specs.Option.{option_map}
use Rattle.part_text.specs.Reading.{many_at}
use Rattle.part_text.specs.Placed.{IsPlacing}
use Rattle.term_table.specs.declared.rows.TermRow.{TermRow}
use Rattle.term_table.specs.Part.{row_text}
use Rattle.term_table.specs.Reading.{row_at}
use Rattle.term_table.proofs.placing.placed_rows.Given as goal

abbrev pub invariant-rows : goal.invariant-rows
invariant-rows l =
    IsPlacing (λ (row : TermRow). row.term) row_text row_at (many_at (λ (row : TermRow). row.term) row_at None l.count l.bytes) l.count l.bytes (l.end - length l.bytes)
    (option_map (λ term. (term.0, term.1.now)) l.before) l.counter l.rest l.places
