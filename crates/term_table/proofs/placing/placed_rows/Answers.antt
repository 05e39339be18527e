use Rattle.std.proofs.Common.{◌∙◌, ◌-◌, ◌≤◌, None, length, arith}
use Rattle.std.specs.Option.{option_map}
use Rattle.part_text.specs.Reading.{many_at}
use Rattle.part_text.specs.Reads.{IsBytes}
use Rattle.part_text.specs.Walks.{walked_none}
use Rattle.part_text.specs.Placed.{placing_start, placing_more, placing_end, placing_within}
use Rattle.term_table.specs.declared.rows.TermRow.{TermRow}
use Rattle.term_table.specs.Part.{row_text}
use Rattle.term_table.specs.Reading.{row_at}
use Rattle.term_table.specs.Laws.{row_reads, MayStand}
use Rattle.term_table.proofs.placing.placed_rows.Goals as goal

pub rows-init : goal.rows-init
rows-init c = placing_start (λ (row : TermRow). row.term) row_text row_at c.args.count c.args.bytes.now (c.args.end - length c.args.bytes.now) c.reserve.new.self (c.in_ok-reserve.ensures ∙ c.in_ok-places.ensures)

pub returns-in_default-clause-none : goal.returns-in_default-clause-none
returns-in_default-clause-none c = λ _.
    walked_none (λ (row : TermRow). row.term) row_at (many_at (λ (row : TermRow). row.term) row_at None c.args.count c.args.bytes.now) c.args.count (option_map (λ term. (term.0, term.1.now)) c.rows.before) c.rows.counter c.rows.rest.now
    c.rows.invariant.walk c.rows-test.true c.in_default.ensures

pub overflow_sub-end-in-rows : goal.overflow_sub-end-in-rows
overflow_sub-end-in-rows c =
    let bytes : IsBytes c.args.bytes.now = λ i. omega (arith, c.type_inv.bytes i) in
    let within : length c.in-Some.after.now ≤ length c.args.bytes.now =
    placing_within (λ (row : TermRow). row.term) row_text MayStand row_at (many_at (λ (row : TermRow). row.term) row_at None c.args.count c.args.bytes.now) c.args.count c.args.bytes.now (c.args.end - length c.args.bytes.now) (option_map (λ term. (term.0, term.1.now)) c.rows.before) c.rows.counter c.rows.rest.now c.rows.places (c.in-Some.term.0, c.in-Some.term.1.now) c.in-Some.after.now
    row_reads bytes c.rows.invariant c.in-Some.ensures in
    omega (arith, within, c.requires)

pub rows-preserved : goal.rows-preserved
rows-preserved c =
    let bytes : IsBytes c.args.bytes.now = λ i. omega (arith, c.type_inv.bytes i) in
    let within : length c.in-Some.after.now ≤ length c.args.bytes.now =
    placing_within (λ (row : TermRow). row.term) row_text MayStand row_at (many_at (λ (row : TermRow). row.term) row_at None c.args.count c.args.bytes.now) c.args.count c.args.bytes.now (c.args.end - length c.args.bytes.now) (option_map (λ term. (term.0, term.1.now)) c.rows.before) c.rows.counter c.rows.rest.now c.rows.places (c.in-Some.term.0, c.in-Some.term.1.now) c.in-Some.after.now
    row_reads bytes c.rows.invariant c.in-Some.ensures in
    rw c.in_ok-push.ensures.pushed
    (placing_more (λ (row : TermRow). row.term) row_text MayStand row_at (many_at (λ (row : TermRow). row.term) row_at None c.args.count c.args.bytes.now) c.args.count c.args.bytes.now (c.args.end - length c.args.bytes.now) (option_map (λ term. (term.0, term.1.now)) c.rows.before) c.rows.counter c.rows.rest.now c.rows.places (c.in-Some.term.0, c.in-Some.term.1.now) c.in-Some.after.now (c.args.end - length c.in-Some.after.now)
    row_reads bytes c.rows.invariant c.rows-test.true c.in-Some.ensures (omega (arith, within, c.requires)))

pub returns-clause-rows : goal.returns-clause-rows
returns-clause-rows c =
    placing_end (λ (row : TermRow). row.term) row_text row_at c.args.count c.args.bytes.now (c.args.end - length c.args.bytes.now) (option_map (λ term. (term.0, term.1.now)) c.rows.before) c.rows.counter c.rows.rest.now c.rows.places c.rows.invariant c.rows-test.false
