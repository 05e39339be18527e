use Rattle.std.proofs.Common.{◌≡◌, ◌<◌, ◌≤◌, ◌↔◌, IsTrue, Bool, true, false, ◌&&◌, nat_eq, refl, subst}
use Rattle.term_table.proofs.table.TermTable.field_range.Goals as goal

and_true : (test : Bool) → (test && true) ≡ test
and_true true = refl
and_true false = refl

pub returns-clause-of_field : goal.returns-clause-of_field
returns-clause-of_field c = λ ordinal term at.
    subst (λ test. ((c.range.result.0 ≤ ordinal) × (ordinal < c.range.result.1)) ↔ IsTrue test) (and_true (nat_eq term.0 c.args.field)) (c.range.ensures.between ordinal term at)
