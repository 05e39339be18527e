use Rattle.bucket_aggs.proofs.Gathered.{Gathering}
use Rattle.bucket_aggs.proofs.metrics.own_numbers.Given as goal

abbrev pub invariant-entries : goal.invariant-entries
invariant-entries l = Gathering l.field l.at l.entries l.objects l.all.items
