use Rattle.std.proofs.Common.{◌≡◌, ◌++◌, ◌-◌, ◌*◌, ◌^◌, ℤ, List, length}
use Rattle.std.specs.List.{flat_map}
use Rattle.doc_values.specs.Values.{values_of}
use Rattle.bucket_aggs.specs.Sums.{HasRoom, IsAdded}
use Rattle.bucket_aggs.proofs.Documents.{left_of}
use Rattle.bucket_aggs.proofs.metrics.with_documents.Given as goal

abbrev pub invariant-documents : goal.invariant-documents
invariant-documents l =
    (l.walk.documents ≡ l.set)
    × HasRoom ((2 ^ 32 - 1 - l.walk.from) * 2 ^ 32) l.sums
    × ((done : List ℤ) × IsAdded l.fn.start done l.sums × (done ++ flat_map (λ doc. values_of doc l.column) (left_of l.set l.walk.from) ≡ flat_map (λ doc. values_of doc l.column) (left_of l.set 0)))

abbrev pub decreases-documents : goal.decreases-documents
decreases-documents l = length l.set - l.walk.from
