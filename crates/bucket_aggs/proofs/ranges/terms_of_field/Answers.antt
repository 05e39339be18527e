use Rattle.std.proofs.Common.{ℕ, ◌+◌, subst}
use Rattle.bucket_aggs.proofs.Ranged.{IsCut, cuts_ordered, cuts_range}
use Rattle.bucket_aggs.proofs.ranges.terms_of_field.Goals as goal

pub returns-clause-ordered : goal.returns-clause-ordered
returns-clause-ordered c =
    cuts_ordered c.args.terms.now c.args.field c.terms_below-first.result c.terms_below-end.result c.terms_below-first.ensures.within
    (subst (λ (bound : ℕ). IsCut c.args.terms.now bound c.terms_below-first.result) c.from-bound.ensures (c.terms_below-first.ensures.below, c.terms_below-first.ensures.past))
    (subst (λ (bound : ℕ). IsCut c.args.terms.now (bound + 1) c.terms_below-end.result) c.from-bound.ensures (c.terms_below-end.ensures.below, c.terms_below-end.ensures.past))

pub returns-clause-of_field : goal.returns-clause-of_field
returns-clause-of_field c =
    cuts_range c.args.terms.now c.args.field c.terms_below-first.result c.terms_below-end.result
    (subst (λ (bound : ℕ). IsCut c.args.terms.now bound c.terms_below-first.result) c.from-bound.ensures (c.terms_below-first.ensures.below, c.terms_below-first.ensures.past))
    (subst (λ (bound : ℕ). IsCut c.args.terms.now (bound + 1) c.terms_below-end.result) c.from-bound.ensures (c.terms_below-end.ensures.below, c.terms_below-end.ensures.past))
