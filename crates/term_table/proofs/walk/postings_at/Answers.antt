use Rattle.std.proofs.Common.{None, ℕ, List, arith}
use Rattle.part_text.specs.Reading.{u32_at, many_at}
use Rattle.part_text.specs.Walks.{walked_more, counted_fails, counted_ends}
use Rattle.term_table.specs.Reading.{posting_at}
use Rattle.term_table.proofs.walk.postings_at.Goals as goal

pub returns-in_err-document : goal.returns-in_err-document
returns-in_err-document c =
    let none = c.from_residual-in_err-document.ensures in
    let fails = counted_fails u32_at (λ (posting : ℕ × List ℕ). posting.0) posting_at c.args.bytes.now c.in_ok-count.rest.now c.in_ok-count.count c.postings.before c.postings.counter c.postings.rest.now c.in_ok-count.ensures c.postings.invariant c.postings-test.true c.in_err-document.ensures in rw none fails

pub postings-preserved : goal.postings-preserved
postings-preserved c =
    walked_more (λ (posting : ℕ × List ℕ). posting.0) posting_at (many_at (λ (posting : ℕ × List ℕ). posting.0) posting_at None c.in_ok-count.count c.in_ok-count.rest.now) c.in_ok-count.count c.postings.before c.postings.counter c.postings.rest.now c.in_ok-document.document c.in_ok-document.after.now
    c.postings.invariant c.postings-test.true c.in_ok-document.ensures

pub returns : goal.returns
returns c =
    counted_ends u32_at (λ (posting : ℕ × List ℕ). posting.0) posting_at c.args.bytes.now c.in_ok-count.rest.now c.in_ok-count.count c.postings.before c.postings.counter c.postings.rest.now c.in_ok-count.ensures c.postings.invariant (omega (arith, c.postings.auto.counter-end)) c.postings-test.false
