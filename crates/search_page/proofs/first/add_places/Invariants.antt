use Rattle.std.proofs.Common.{◌≡◌, ◌++◌, ◌-◌, ◌≤◌, length, map}
use Rattle.search_page.specs.Hits.{place_of}
use Rattle.bucket_aggs.proofs.Documents.{left_of}
use Rattle.search_page.proofs.first.add_places.Given as goal

abbrev pub invariant-documents : goal.invariant-documents
invariant-documents l =
    (l.walk.documents ≡ l.set)
    × (length l.places.items ≤ l.most)
    × (l.places.items ++ map (place_of l.place) (left_of l.set l.walk.from) ≡ l.fn.places.items ++ map (place_of l.place) (left_of l.set 0))

abbrev pub decreases-documents : goal.decreases-documents
decreases-documents l = length l.set - l.walk.from
