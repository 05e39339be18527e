use Rattle.std.proofs.Common.{◌≡◌, ◌++◌, drop, map}
use Rattle.nested_sort.specs.Documents.{place_of_hit}
use Rattle.nested_sort.proofs.rows.places.Given as goal

abbrev pub invariant-hits : goal.invariant-hits
invariant-hits l = l.places.items ++ map (place_of_hit l.entries) (drop l.hit-index l.hits) ≡ map (place_of_hit l.entries) l.hits
