use Rattle.std.proofs.Common.{arith, refl, sym, ◌∙◌}
use Rattle.std.proofs.lemmas.Bool.{false≢true}
use Rattle.std.specs.Option.{option_map}
use Rattle.part_text.specs.Order.{followed_fails, followed_end}
use Rattle.term_table.specs.declared.rows.TermRow.{TermRow}
use Rattle.term_table.specs.Laws.{MayStand, term_after_follows, rows_from, rows_to}
use Rattle.term_table.proofs.order.are_rows.Goals as goal

pub returns-then-not-term_follows : goal.returns-then-not-term_follows
returns-then-not-term_follows c = (
  λ no. absurd (false≢true no),
  λ are. absurd (followed_fails (λ (row : TermRow). row.term) MayStand c.args.rows.now (option_map (λ term. (term.0, term.1.now)) c.rows.before) c.rows.row-index c.row-item.result c.rows.invariant c.rows-test.true c.row-item.is
      (λ may.
      let e = rw c.as_slice.ensures at c.term_follows.ensures in
      false≢true (sym c.if-not-term_follows.true ∙ e ∙ term_after_follows (option_map (λ term. (term.0, term.1.now)) c.rows.before) c.row-item.result.term may.1)) (rows_to c.args.rows.now are).1),
)

pub returns : goal.returns
returns c = (
  λ _. rows_from c.args.rows.now (omega arith, followed_end (λ (row : TermRow). row.term) MayStand c.args.rows.now (option_map (λ term. (term.0, term.1.now)) c.rows.before) c.rows.row-index c.rows.invariant c.rows-test.false),
  λ _. refl,
)
