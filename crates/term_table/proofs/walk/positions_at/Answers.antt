use Rattle.std.proofs.Common.{None, ℕ, arith}
use Rattle.part_text.specs.Reading.{u32_at, many_at}
use Rattle.part_text.specs.Walks.{walked_more, counted_fails, counted_ends, keyed_itself}
use Rattle.term_table.specs.Reading.{ascending_at}
use Rattle.term_table.proofs.walk.positions_at.Goals as goal

pub returns-in_err-position : goal.returns-in_err-position
returns-in_err-position c =
    let none = c.from_residual-in_err-position.ensures in
    let fails = counted_fails u32_at (λ (n : ℕ). n) ascending_at c.args.bytes.now c.in_ok-count.rest.now c.in_ok-count.count c.positions.before c.positions.counter c.positions.rest.now c.in_ok-count.ensures c.positions.invariant c.positions-test.true c.in_err-position.ensures in rw none fails

pub positions-preserved : goal.positions-preserved
positions-preserved c =
    walked_more (λ (n : ℕ). n) ascending_at (many_at (λ (n : ℕ). n) ascending_at None c.in_ok-count.count c.in_ok-count.rest.now) c.in_ok-count.count c.positions.before c.positions.counter c.positions.rest.now c.in_ok-position.position c.in_ok-position.after.now
    c.positions.invariant c.positions-test.true (keyed_itself (ascending_at c.positions.before c.positions.rest.now) c.in_ok-position.position c.in_ok-position.after.now c.in_ok-position.ensures)

pub returns : goal.returns
returns c =
    counted_ends u32_at (λ (n : ℕ). n) ascending_at c.args.bytes.now c.in_ok-count.rest.now c.in_ok-count.count c.positions.before c.positions.counter c.positions.rest.now c.in_ok-count.ensures c.positions.invariant (omega (arith, c.positions.auto.counter-end)) c.positions-test.false
