use Rattle.std.specs.Option.{option_map}
use Rattle.part_text.specs.Order.{IsFollowed}
use Rattle.term_table.specs.declared.rows.TermRow.{TermRow}
use Rattle.term_table.specs.Laws.{MayStand}
use Rattle.term_table.proofs.order.are_rows.Given as goal

abbrev pub invariant-rows : goal.invariant-rows
invariant-rows l = IsFollowed (λ (row : TermRow). row.term) MayStand l.rows (option_map (λ term. (term.0, term.1.now)) l.before) l.row-index
