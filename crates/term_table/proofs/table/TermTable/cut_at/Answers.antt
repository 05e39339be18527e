use Rattle.std.proofs.Common.{◌+◌, ◌-◌, ◌/◌, sym, ◌∙◌, arith}
use Rattle.term_table.proofs.Orders.{searched_above, searched_below}
use Rattle.term_table.proofs.table.TermTable.cut_at.Goals as goal

pub search-preserved-then-lies_before : goal.search-preserved-then-lies_before
search-preserved-then-lies_before c =
    let low = c.search.low in
    let high = c.search.high in
    searched_above c.args.self.now c.args.field c.args.cut.now low (low + (high - low) / 2) high c.search.invariant c.count-high.ensures.ascending (omega (arith, c.search-test.true))
    (λ term at. sym (c.lies_before.ensures term at) ∙ c.if-lies_before.true)

pub search-preserved : goal.search-preserved
search-preserved c =
    let low = c.search.low in
    let high = c.search.high in
    searched_below c.args.self.now c.args.field c.args.cut.now low (low + (high - low) / 2) high c.search.invariant c.count-high.ensures.ascending (omega arith) (omega (arith, c.search-test.true))
    (λ term at. sym (c.lies_before.ensures term at) ∙ c.if-lies_before.false)
