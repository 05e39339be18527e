use Rattle.std.proofs.Common.{◌≡◌, ◌∙◌, Some, drop, refl, ap, sym, arith}
use Rattle.part_text.specs.Reading.{u64_at}
use Rattle.part_text.specs.Reads.{IsBytes}
use Rattle.term_table.proofs.Found.{none_stand, past_the_end, no_number, no_rows, first_within, found}
use Rattle.term_table.proofs.table.TermTable.places.Goals as goal

pub returns-in_default-clause-only : goal.returns-in_default-clause-only
returns-in_default-clause-only c = λ _. none_stand c.args.bytes.now c.args.at (past_the_end c.args.bytes.now c.args.at (c.in_default.ensures.none refl))

pub returns-in_default-u64_at-clause-only : goal.returns-in_default-u64_at-clause-only
returns-in_default-u64_at-clause-only c = λ _.
    none_stand c.args.bytes.now c.args.at (no_number (drop c.args.at c.args.bytes.now) (ap u64_at (sym c.in-Some.ensures.some.0) ∙ c.in_default-u64_at.ensures))

pub placed_rows-requires : goal.placed_rows-requires
placed_rows-requires c =
    let bytes : IsBytes c.args.bytes.now = λ i. omega (arith, c.type_inv.bytes i) in
    let number : u64_at (drop c.args.at c.args.bytes.now) ≡ Some (c.in-Some-u64_at.count, c.in-Some-u64_at.first.now) = ap u64_at (sym c.in-Some.ensures.some.0) ∙ c.in-Some-u64_at.ensures in
    omega (arith, first_within c.args.bytes.now c.args.at c.in-Some-u64_at.count c.in-Some-u64_at.first.now bytes c.in-Some.ensures.some.1 number)

pub overflow_sub-result : goal.overflow_sub-result
overflow_sub-result c =
    let bytes : IsBytes c.args.bytes.now = λ i. omega (arith, c.type_inv.bytes i) in
    let number : u64_at (drop c.args.at c.args.bytes.now) ≡ Some (c.in-Some-u64_at.count, c.in-Some-u64_at.first.now) = ap u64_at (sym c.in-Some.ensures.some.0) ∙ c.in-Some-u64_at.ensures in
    let placed = rw c.in-Some-2.is at c.in_ok-places.ensures.rows in
    (found c.args.bytes.now c.args.at c.in-Some-u64_at.count c.in-Some-u64_at.first.now c.in-Some-2.rest.now c.in-Some-2.places bytes c.in-Some.ensures.some.1 number placed).within

pub returns-in-Some-2-clause-found : goal.returns-in-Some-2-clause-found
returns-in-Some-2-clause-found c =
    let bytes : IsBytes c.args.bytes.now = λ i. omega (arith, c.type_inv.bytes i) in
    let number : u64_at (drop c.args.at c.args.bytes.now) ≡ Some (c.in-Some-u64_at.count, c.in-Some-u64_at.first.now) = ap u64_at (sym c.in-Some.ensures.some.0) ∙ c.in-Some-u64_at.ensures in
    let placed = rw c.in-Some-2.is at c.in_ok-places.ensures.rows in
    let it = found c.args.bytes.now c.args.at c.in-Some-u64_at.count c.in-Some-u64_at.first.now c.in-Some-2.rest.now c.in-Some-2.places bytes c.in-Some.ensures.some.1 number placed in
    (it.rows, it.stand)

pub returns-in-None-clause-only : goal.returns-in-None-clause-only
returns-in-None-clause-only c = λ _.
    let number : u64_at (drop c.args.at c.args.bytes.now) ≡ Some (c.in-Some-u64_at.count, c.in-Some-u64_at.first.now) = ap u64_at (sym c.in-Some.ensures.some.0) ∙ c.in-Some-u64_at.ensures in
    let none = rw c.in-None.is at c.in_ok-places.ensures.none in
    none_stand c.args.bytes.now c.args.at (no_rows (drop c.args.at c.args.bytes.now) c.in-Some-u64_at.first.now c.in-Some-u64_at.count number (none refl))
