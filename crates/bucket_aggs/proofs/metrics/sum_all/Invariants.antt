use Rattle.bucket_aggs.proofs.Gathered.{Adding}
use Rattle.bucket_aggs.proofs.metrics.sum_all.Given as goal

abbrev pub invariant-segments : goal.invariant-segments
invariant-segments l = Adding l.all.items l.at l.sums
