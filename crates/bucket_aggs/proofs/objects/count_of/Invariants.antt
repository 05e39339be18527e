use Rattle.std.proofs.Common.{◌≡◌, ◌+◌, drop, sum_by}
use Rattle.bucket_aggs.specs.Counts.{marked_count}
use Rattle.bucket_aggs.proofs.objects.count_of.Given as goal

abbrev pub invariant-entries : goal.invariant-entries
invariant-entries l = l.count + sum_by marked_count (drop l.at l.objects) ≡ sum_by marked_count l.objects
