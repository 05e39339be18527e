use Rattle.bucket_aggs.proofs.Wrapped.{Wrapping}
use Rattle.bucket_aggs.proofs.metrics.with_wrapped_sum.Given as goal

abbrev pub invariant-rows : goal.invariant-rows
invariant-rows l = Wrapping l.fn.start l.set l.rows l.at l.others l.total l.least l.greatest
