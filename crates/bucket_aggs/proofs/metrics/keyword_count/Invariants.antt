use Rattle.bucket_aggs.specs.Sums.{keywords_in}
use Rattle.bucket_aggs.proofs.Viewed.{Adds}
use Rattle.bucket_aggs.proofs.metrics.keyword_count.Given as goal

abbrev pub invariant-entries : goal.invariant-entries
invariant-entries l = Adds (keywords_in l.field) l.at l.entries l.objects l.count
