use Rattle.std.proofs.Common.{ℤ, List, subst, arith}
use Rattle.bucket_aggs.specs.Sums.{IsAdded}
use Rattle.bucket_aggs.specs.declared.metrics.Running.{Running}
use Rattle.bucket_aggs.proofs.Gathered.{adding_step}
use Rattle.bucket_aggs.proofs.metrics.sum_all.Goals as goal

pub segments-preserved : goal.segments-preserved
segments-preserved c =
    let own : List ℤ = c.index.result.now in
    adding_step c.in_ok-all.all.items c.segments.at own c.segments.sums c.join.new.self (omega (arith, c.segments-test.true, c.len-at-end.ensures)) c.index.ensures c.segments.invariant
    (λ zs is. c.in_ok-join.ensures zs own is (subst (λ (s : Running). IsAdded s own c.added-own.result) c.anew.ensures c.added-own.ensures))
