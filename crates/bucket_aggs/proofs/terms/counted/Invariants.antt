use Rattle.bucket_aggs.specs.Counts.{AreKnown}
use Rattle.bucket_aggs.proofs.Viewed.{Counting}
use Rattle.bucket_aggs.proofs.terms.counted.Given as goal

abbrev pub invariant-entries : goal.invariant-entries
invariant-entries l = Counting l.kind l.field l.at l.entries l.objects l.rows.items × AreKnown l.entries l.objects l.found.items
