use Rattle.std.proofs.Common.{◌≡◌, ◌+◌, ◌-◌, ◌<◌, ℕ, count_by, get_or, length}
use Rattle.doc_values.specs.Values.{values_of}
use Rattle.bucket_aggs.specs.Counts.{has_ordinal}
use Rattle.bucket_aggs.proofs.Documents.{left_of}
use Rattle.bucket_aggs.proofs.columns.count_documents.Given as goal

abbrev pub invariant-documents : goal.invariant-documents
invariant-documents l =
    (l.walk.documents ≡ l.set)
    × (length l.counts.items ≡ length l.fn.counts.items)
    × ((k : ℕ) → k < length l.fn.counts.items
    → get_or l.counts.items k 0 + count_by (λ doc. has_ordinal (l.first + k) (values_of doc l.column)) (left_of l.set l.walk.from)
    ≡ get_or l.fn.counts.items k 0 + count_by (λ doc. has_ordinal (l.first + k) (values_of doc l.column)) (left_of l.set 0))

abbrev pub decreases-documents : goal.decreases-documents
decreases-documents l = length l.set - l.walk.from
