use Rattle.std.proofs.Common.{◌-◌, ◌<◌, [], length, sym, ap, ◌∙◌, arith}
use Rattle.postings.proofs.Walks.{present_at, place_here, place_past, place_end}
use Rattle.postings.proofs.cursor.Cursor.walk_to.Goals as goal

pub returns-then-own-to-clause-place : goal.returns-then-own-to-clause-place
returns-then-own-to-clause-place c =
    sym (place_here c.args.to c.postings.self c.in-Some.own (sym c.postings.invariant.2 ∙ c.in-Some.is) c.if-own-to.true) ∙ c.postings.invariant.1

pub postings-smaller : goal.postings-smaller
postings-smaller c =
    let now = c.postings.self in
    let next = c.next-document.new.self in
    let here = present_at now c.in-Some.own (0, []) (sym c.postings.invariant.2 ∙ c.in-Some.is) in
    let smaller : length next.postings - next.at < length now.postings - now.at = omega (arith, here.0, c.next-document.ensures.place, ap length c.next-document.ensures.postings) in
    smaller

pub postings-preserved : goal.postings-preserved
postings-preserved c = (
  c.next-document.ensures.postings ∙ c.postings.invariant.0,
  place_past c.args.to c.postings.self c.next-document.new.self c.in-Some.own (sym c.postings.invariant.2 ∙ c.in-Some.is) c.if-own-to.false c.next-document.ensures.postings c.next-document.ensures.place ∙ c.postings.invariant.1,
  c.next-document.ensures.document,
)

pub returns-clause-place : goal.returns-clause-place
returns-clause-place c = sym (place_end c.args.to c.postings.self (sym c.postings.invariant.2 ∙ c.in_default.is)) ∙ c.postings.invariant.1
