use Rattle.std.proofs.Common.{◌≡◌, ◌++◌, ◌-◌, ◌≤◌, ℕ, List, Option, length}
use Rattle.query_ast.specs.declared.sort.Direction.{Direction}
use Rattle.query_ast.specs.declared.sort.Key.{Key}
use Rattle.view_objects.specs.declared.hit.Hit.{Hit}
use Rattle.view_objects.specs.Hits.{hits_between}
use Rattle.nested_sort.specs.Reached.{AreKept, key_by}
use Rattle.nested_sort.proofs.reached.add_candidates.Given as goal

abbrev pub invariant-found : goal.invariant-found
invariant-found l =
    (done : List Hit)
    × (done ++ hits_between l.place l.left.from l.end l.left.scores ≡ hits_between l.place 0 l.end l.found)
    × (l.left.scores ≡ l.found)
    × (l.end ≡ length l.found)
    × (l.left.from ≤ l.end)
    × ((direction : Direction) (after : Option Key) (most : ℕ) (all : List Hit) → AreKept (key_by l.entries l.clause) direction after most all l.fn.kept.items l.fn.keys → AreKept (key_by l.entries l.clause) direction after most (all ++ done) l.kept.items l.keys)

abbrev pub decreases-found : goal.decreases-found
decreases-found l = l.end - l.left.from
