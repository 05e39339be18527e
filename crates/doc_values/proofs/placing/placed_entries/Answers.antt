use Rattle.std.proofs.Common.{◌∙◌, ◌-◌, ◌≤◌, ℕ, List, None, length, arith}
use Rattle.part_text.specs.Reading.{many_at}
use Rattle.part_text.specs.Reads.{IsBytes}
use Rattle.part_text.specs.Walks.{walked_none}
use Rattle.part_text.specs.Placed.{placing_start, placing_more, placing_end, placing_within}
use Rattle.doc_values.specs.Text.{entry_text}
use Rattle.doc_values.specs.Reading.{entry_at, MayEntry, entry_reads}
use Rattle.doc_values.proofs.placing.placed_entries.Goals as goal

pub entries-init : goal.entries-init
entries-init g c =
    placing_start (λ (entry : ℕ × List g.row.T.Denot). entry.0) (entry_text g.T.ColumnValue.text) (entry_at g.T.Ord.cmp g.T.ColumnValue.read) c.args.count c.args.bytes.now (c.args.end - length c.args.bytes.now) c.reserve.new.self (c.in_ok-reserve.ensures ∙ c.in_ok-places.ensures)

pub returns-in_default-clause-none : goal.returns-in_default-clause-none
returns-in_default-clause-none g c = λ _.
    let key : ℕ × List g.row.T.Denot → ℕ = λ entry. entry.0 in
    let item = entry_at g.T.Ord.cmp g.T.ColumnValue.read in
    walked_none key item (many_at key item None c.args.count c.args.bytes.now) c.args.count c.entries.before c.entries.counter c.entries.rest.now
    c.entries.invariant.walk c.entries-test.true c.in_default.ensures

pub overflow_sub-end-in-entries : goal.overflow_sub-end-in-entries
overflow_sub-end-in-entries g c =
    let key : ℕ × List g.row.T.Denot → ℕ = λ entry. entry.0 in
    let item = entry_at g.T.Ord.cmp g.T.ColumnValue.read in
    let law = entry_reads g.T.Ord.cmp g.T.ColumnValue.Fits g.T.ColumnValue.text g.T.ColumnValue.read g.met.T.ColumnValue.reads in
    let bytes : IsBytes c.args.bytes.now = λ i. omega (arith, c.type_inv.bytes i) in
    let within : length c.in-Some.after.now ≤ length c.args.bytes.now =
    placing_within key (entry_text g.T.ColumnValue.text) (MayEntry g.T.Ord.cmp g.T.ColumnValue.Fits) item (many_at key item None c.args.count c.args.bytes.now) c.args.count c.args.bytes.now (c.args.end - length c.args.bytes.now)
    c.entries.before c.entries.counter c.entries.rest.now c.entries.places c.in-Some.doc c.in-Some.after.now law bytes c.entries.invariant c.in-Some.ensures in
    omega (arith, within, c.requires)

pub entries-preserved : goal.entries-preserved
entries-preserved g c =
    let key : ℕ × List g.row.T.Denot → ℕ = λ entry. entry.0 in
    let item = entry_at g.T.Ord.cmp g.T.ColumnValue.read in
    let law = entry_reads g.T.Ord.cmp g.T.ColumnValue.Fits g.T.ColumnValue.text g.T.ColumnValue.read g.met.T.ColumnValue.reads in
    let bytes : IsBytes c.args.bytes.now = λ i. omega (arith, c.type_inv.bytes i) in
    let within : length c.in-Some.after.now ≤ length c.args.bytes.now =
    placing_within key (entry_text g.T.ColumnValue.text) (MayEntry g.T.Ord.cmp g.T.ColumnValue.Fits) item (many_at key item None c.args.count c.args.bytes.now) c.args.count c.args.bytes.now (c.args.end - length c.args.bytes.now)
    c.entries.before c.entries.counter c.entries.rest.now c.entries.places c.in-Some.doc c.in-Some.after.now law bytes c.entries.invariant c.in-Some.ensures in
    rw c.in_ok-push.ensures.pushed
    (placing_more key (entry_text g.T.ColumnValue.text) (MayEntry g.T.Ord.cmp g.T.ColumnValue.Fits) item (many_at key item None c.args.count c.args.bytes.now) c.args.count c.args.bytes.now (c.args.end - length c.args.bytes.now)
    c.entries.before c.entries.counter c.entries.rest.now c.entries.places c.in-Some.doc c.in-Some.after.now (c.args.end - length c.in-Some.after.now) law bytes c.entries.invariant c.entries-test.true c.in-Some.ensures (omega (arith, within, c.requires)))

pub returns-clause-entries : goal.returns-clause-entries
returns-clause-entries g c =
    placing_end (λ (entry : ℕ × List g.row.T.Denot). entry.0) (entry_text g.T.ColumnValue.text) (entry_at g.T.Ord.cmp g.T.ColumnValue.read) c.args.count c.args.bytes.now (c.args.end - length c.args.bytes.now)
    c.entries.before c.entries.counter c.entries.rest.now c.entries.places c.entries.invariant c.entries-test.false
