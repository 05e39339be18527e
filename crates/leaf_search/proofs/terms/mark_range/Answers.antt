use Rattle.std.proofs.Common.{ℕ, List, subst}
use Rattle.term_table.specs.Ranges.{is_between, IsRange}
use Rattle.leaf_search.specs.Keys.{is_within}
use Rattle.leaf_search.proofs.Termed.{gains_range}
use Rattle.leaf_search.proofs.terms.mark_range.Goals as goal

pub returns : goal.returns
returns c =
    gains_range c.args.segment.now c.args.field (is_within c.args.low c.args.high) c.range-first.result.0 c.range-first.result.1 c.args.set.now c.mark_lists.new.set
    (λ doc. c.terms_are_of_documents.ensures.terms c.args.field doc (is_within c.args.low c.args.high))
    (subst (λ (terms : List (ℕ × List ℕ)). IsRange (is_between c.args.field c.args.low c.args.high) terms c.range-first.result.0 c.range-first.result.1) c.terms.ensures c.range-first.ensures.between)
    c.mark_lists.ensures.long c.mark_lists.ensures.marked
