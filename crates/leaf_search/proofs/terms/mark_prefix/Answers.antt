use Rattle.std.proofs.Common.{ℕ, List, subst}
use Rattle.term_table.specs.Ranges.{has_prefix, IsRange}
use Rattle.leaf_search.specs.Keys.{begins}
use Rattle.leaf_search.proofs.Termed.{gains_range}
use Rattle.leaf_search.proofs.terms.mark_prefix.Goals as goal

pub returns : goal.returns
returns c =
    gains_range c.args.segment.now c.args.field (begins c.args.start.now) c.prefix-first.result.0 c.prefix-first.result.1 c.args.set.now c.mark_lists.new.set
    (λ doc. c.terms_are_of_documents.ensures.terms c.args.field doc (begins c.args.start.now))
    (subst (λ (terms : List (ℕ × List ℕ)). IsRange (has_prefix c.args.field c.args.start.now) terms c.prefix-first.result.0 c.prefix-first.result.1) c.terms.ensures c.prefix-first.ensures.prefixed)
    c.mark_lists.ensures.long c.mark_lists.ensures.marked
