use Rattle.std.proofs.Common.{◌≡◌, ◌++◌, ◌-◌, ◌≤◌, length}
use Rattle.std.specs.List.{All}
use Rattle.nested_sort.specs.Listed.{IsCapped}
use Rattle.nested_sort.proofs.hits.add_hits.Given as goal
use Rattle.view_objects.specs.Hits.{hits_between}

abbrev pub invariant-found : goal.invariant-found
invariant-found l =
    (l.hits.items ++ hits_between l.place l.left.from l.end l.left.scores ≡ l.fn.hits.items ++ hits_between l.place 0 l.end l.found)
    × (l.left.scores ≡ l.found)
    × (l.end ≡ length l.found)
    × (l.left.from ≤ l.end)
    × (All IsCapped l.fn.hits.items → All IsCapped l.hits.items)

abbrev pub decreases-found : goal.decreases-found
decreases-found l = l.end - l.left.from
