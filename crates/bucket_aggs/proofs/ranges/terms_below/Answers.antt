use Rattle.std.proofs.Common.{sym, ◌∙◌}
use Rattle.bucket_aggs.proofs.Ranged.{halved_above, halved_at_start, halved_below}
use Rattle.bucket_aggs.proofs.ranges.terms_below.Goals as goal

pub search-init : goal.search-init
search-init c = halved_at_start c.args.terms.now c.args.bound c.count-high.result c.count-high.ensures.count

pub search-preserved-then-is_below : goal.search-preserved-then-is_below
search-preserved-then-is_below c =
    halved_above c.args.terms.now c.args.bound c.search.low c.probe-at.result c.search.high c.search.invariant c.count-high.ensures.ascending c.probe-at.ensures.high
    (λ term at. sym (c.is_below.ensures term at) ∙ c.if-is_below.true)

pub search-preserved : goal.search-preserved
search-preserved c =
    halved_below c.args.terms.now c.args.bound c.search.low c.probe-at.result c.search.high c.search.invariant c.count-high.ensures.ascending c.probe-at.ensures.low c.probe-at.ensures.high
    (λ term at. sym (c.is_below.ensures term at) ∙ c.if-is_below.false)
