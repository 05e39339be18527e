use Rattle.std.proofs.Common.{◌<◌, ℕ, length, arith}
use Rattle.std.proofs.lemmas.List.Sums.{sum_by-drop_more}
use Rattle.bucket_aggs.specs.Counts.{is_term}
use Rattle.bucket_aggs.proofs.Lists.{each_at}
use Rattle.bucket_aggs.proofs.Rowed.{one_if}
use Rattle.bucket_aggs.proofs.terms.put_ordinals.Goals as goal

pub put_term-requires : goal.put_term-requires
put_term-requires c = each_at (λ (ordinal : ℕ). ordinal < length c.args.terms.now) c.args.ordinals.now c.ordinals.at 0 c.requires c.ordinals-test.true

pub ordinals-preserved : goal.ordinals-preserved
ordinals-preserved c = (
  λ v. omega (arith, c.ordinals.invariant.0 v, c.in_ok-put_term.ensures.counts v, sum_by-drop_more (one_if (is_term c.args.terms.now v)) c.args.ordinals.now c.ordinals.at 0 c.ordinals-test.true),
  λ kind written are. c.in_ok-put_term.ensures.keys kind written (c.ordinals.invariant.1 kind written are),
)
