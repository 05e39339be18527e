use Rattle.std.proofs.Common.{ℕ, List, subst}
use Rattle.std.specs.Str.{bytes_eq}
use Rattle.term_table.specs.Ranges.{IsRange}
use Rattle.leaf_search.specs.Keys.{is_term}
use Rattle.leaf_search.proofs.Termed.{gains_range}
use Rattle.leaf_search.proofs.terms.mark_term.Goals as goal

pub returns : goal.returns
returns c =
    gains_range c.args.segment.now c.args.field (bytes_eq c.args.bytes.now) c.ordinals_of-first.result.0 c.ordinals_of-first.result.1 c.args.set.now c.mark_lists.new.set
    (λ doc. c.terms_are_of_documents.ensures.terms c.args.field doc (bytes_eq c.args.bytes.now))
    (subst (λ (terms : List (ℕ × List ℕ)). IsRange (is_term c.args.field c.args.bytes.now) terms c.ordinals_of-first.result.0 c.ordinals_of-first.result.1) c.terms.ensures c.ordinals_of-first.ensures.own)
    c.mark_lists.ensures.long c.mark_lists.ensures.marked
