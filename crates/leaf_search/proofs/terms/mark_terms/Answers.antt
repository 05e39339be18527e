use Rattle.leaf_search.proofs.Once.{terms_more, terms_all}
use Rattle.leaf_search.proofs.terms.mark_terms.Goals as goal

pub terms-preserved : goal.terms-preserved
terms-preserved c = terms_more c.args.segment.now c.args.field c.args.terms.now c.terms.term-index _ c.args.set.now c.terms.set c.mark_term.new.set c.terms-test.true c.terms.invariant c.mark_term.ensures

pub returns : goal.returns
returns c = terms_all c.args.segment.now c.args.field c.args.terms.now c.terms.term-index c.args.set.now c.terms.set c.terms-test.false c.terms.invariant
