use Rattle.std.proofs.Common.{◌≡◌, ◌≤◌, ◌++◌, ◌-◌}
use Rattle.std.specs.List.{All}
use Rattle.nested_sort.specs.Listed.{IsCapped}
use Rattle.view_objects.specs.Hits.{hits_between}
use Rattle.inner_hits.proofs.walk.add_hits.Given as goal

abbrev pub invariant-hits : goal.invariant-hits
invariant-hits l =
    (l.left.scores ≡ l.scores)
    × (l.left.from ≤ l.end)
    × (l.hits.items ++ hits_between l.place l.left.from l.end l.scores ≡ l.fn.hits.items ++ hits_between l.place l.start l.end l.scores)
    × (All IsCapped l.fn.hits.items → All IsCapped l.hits.items)

abbrev pub decreases-hits : goal.decreases-hits
decreases-hits l = l.end - l.left.from
