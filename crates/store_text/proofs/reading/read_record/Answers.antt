use Rattle.std.proofs.Common.{refl, sym, ◌∙◌, arith}
use Rattle.store_text.proofs.Whole.{whole_read, no_form, no_more, too_long, none_left, some_left}
use Rattle.store_text.proofs.reading.read_record.Goals as goal

pub returns-in_default-clause-none : goal.returns-in_default-clause-none
returns-in_default-clause-none c = λ _. no_form c.args.bytes.now (c.in_default.ensures.none refl)

pub returns-in_default-2-clause-none : goal.returns-in_default-2-clause-none
returns-in_default-2-clause-none c = λ _.
    let none = rw c.in_default-2.is at c.in_ok-it.ensures in
    no_more c.args.bytes.now c.in-Some.rest.now c.in-Some.old c.in-Some.ensures.found none

pub returns-then-not-is_empty-clause-none : goal.returns-then-not-is_empty-clause-none
returns-then-not-is_empty-clause-none c = λ _.
    let read = rw c.in-Some-2.is at c.in_ok-it.ensures in
    too_long c.args.bytes.now c.in-Some.rest.now c.in-Some-2.behind.now c.in-Some.old c.in-Some-2.it c.in-Some.ensures.found read (some_left c.in-Some-2.behind.now (sym c.is_empty.ensures ∙ c.if-not-is_empty.true))

pub returns-clause-found : goal.returns-clause-found
returns-clause-found c =
    let read = rw c.in-Some-2.is at c.in_ok-it.ensures in
    let none = none_left c.in-Some-2.behind.now (sym c.is_empty.ensures ∙ c.if-not-is_empty.false) in
    whole_read c.args.bytes.now c.in-Some.rest.now c.in-Some.old c.in-Some-2.it (λ i. omega (arith, c.type_inv.bytes i)) c.in-Some.ensures.found (rw none at read)
