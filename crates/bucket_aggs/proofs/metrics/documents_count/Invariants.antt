use Rattle.std.proofs.Common.{◌≡◌, ◌+◌, ◌-◌, length, sum_by}
use Rattle.doc_values.specs.Values.{values_of}
use Rattle.bucket_aggs.proofs.Documents.{left_of}
use Rattle.bucket_aggs.proofs.metrics.documents_count.Given as goal

abbrev pub invariant-documents : goal.invariant-documents
invariant-documents g l =
    (l.walk.documents ≡ l.set)
    × (l.count + sum_by (λ doc. length (values_of doc l.column)) (left_of l.set l.walk.from) ≡ sum_by (λ doc. length (values_of doc l.column)) (left_of l.set 0))

abbrev pub decreases-documents : goal.decreases-documents
decreases-documents g l = length l.set - l.walk.from
