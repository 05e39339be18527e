use Rattle.std.proofs.Common.{◌≡◌, ◌++◌, ◌-◌, length}
use Rattle.std.specs.List.{flat_map}
use Rattle.doc_values.specs.Values.{values_of}
use Rattle.bucket_aggs.specs.Counts.{once_by}
use Rattle.bucket_aggs.proofs.Documents.{left_of}
use Rattle.bucket_aggs.proofs.distinct.distinct_values.Given as goal

abbrev pub invariant-documents : goal.invariant-documents
invariant-documents g l =
    (l.walk.documents ≡ l.set)
    × (l.made.items ++ flat_map (λ doc. once_by g.T.Ord.cmp (values_of doc l.column)) (left_of l.set l.walk.from) ≡ flat_map (λ doc. once_by g.T.Ord.cmp (values_of doc l.column)) (left_of l.set 0))

abbrev pub decreases-documents : goal.decreases-documents
decreases-documents g l = length l.set - l.walk.from
