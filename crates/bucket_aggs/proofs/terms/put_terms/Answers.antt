use Rattle.std.proofs.Common.{length, arith}
use Rattle.bucket_aggs.proofs.Termed.{counts_step}
use Rattle.bucket_aggs.proofs.terms.put_terms.Goals as goal

pub overflow_add-first : goal.overflow_add-first
overflow_add-first c = omega (arith, c.count-all.ensures.count, c.count-all.type_inv, c.terms-test.true, c.requires)

pub terms-preserved : goal.terms-preserved
terms-preserved c = (
  λ v.
      omega (
        arith,
        c.terms.invariant.0 v,
        c.in_ok-put_term.ensures.counts v,
        counts_step c.args.terms.now c.args.first v c.args.counts.now c.terms.at (length c.args.counts.now) c.terms-test.true,
      ),
  λ kind written are. c.in_ok-put_term.ensures.keys kind written (c.terms.invariant.1 kind written are),
)
