use Rattle.std.proofs.Common.{refl}
use Rattle.segment_parts.specs.Rows.{rows_taken, rows_no_terms}
use Rattle.segment_parts.proofs.parts.rows_at.Goals as goal

pub returns-in-Some-2-clause-taken : goal.returns-in-Some-2-clause-taken
returns-in-Some-2-clause-taken c =
    let first = rw c.in-Some.is at c.in_ok-roots.ensures.found in
    let second = rw c.in-Some-2.is at c.in_ok-terms.ensures.found in
    rows_taken c.args.bytes.now c.args.at c.args.roots first.0 c.in-Some.roots c.in-Some.middle second.0 c.in-Some-2.terms c.in-Some-2.end first.1 first.2 second.1

pub returns-in-None-clause-nowhere : goal.returns-in-None-clause-nowhere
returns-in-None-clause-nowhere c = λ _.
    let first = rw c.in-Some.is at c.in_ok-roots.ensures.found in
    let never = rw c.in-None.is at c.in_ok-terms.ensures.only in
    rows_no_terms c.args.bytes.now c.args.at c.args.roots first.0 c.in-Some.roots c.in-Some.middle first.1 first.2 (never refl)
