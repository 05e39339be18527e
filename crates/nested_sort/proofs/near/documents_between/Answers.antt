use Rattle.std.proofs.Common.{ℕ, List, arith, subst}
use Rattle.term_table.specs.Ranges.{is_between, IsRange}
use Rattle.nested_sort.specs.Near.{is_within}
use Rattle.nested_sort.proofs.Termed.{none_left}
use Rattle.nested_sort.proofs.near.documents_between.Goals as goal

pub returns-clause-left : goal.returns-clause-left
returns-clause-left c = λ doc low out.
    none_left c.args.segment.now c.args.field c.range-first.result.0 c.range-first.result.1 c.lists.ordinal (is_within c.args.low c.args.high) doc c.lists.set
    (c.terms_are_of_documents.ensures.terms c.args.field doc (is_within c.args.low c.args.high))
    (subst (λ (terms : List (ℕ × List ℕ)). IsRange (is_between c.args.field c.args.low c.args.high) terms c.range-first.result.0 c.range-first.result.1) c.terms.ensures c.range-first.ensures.between)
    c.lists.invariant (omega (arith, c.lists-test.false)) low out
