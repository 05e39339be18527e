use Rattle.std.proofs.Common.{◌≡◌, ◌++◌, ◌≤◌, length, take, drop}
use Rattle.search_page.specs.Hits.{places_of}
use Rattle.search_page.proofs.first.first_places.Given as goal

-- so far the first of those of the entries before
abbrev pub invariant-entries : goal.invariant-entries
invariant-entries l =
    (length l.places.items ≤ l.most)
    × (take l.most (l.places.items ++ places_of l.at (drop l.at l.found)) ≡ take l.most (places_of 0 l.found))
