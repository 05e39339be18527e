use Rattle.std.proofs.Common.{◌≡◌, ◌++◌, drop, List}
use Rattle.view_objects.specs.declared.hit.Hit.{Hit}
use Rattle.view_objects.specs.Hits.{hits_in, hits_of}
use Rattle.nested_sort.specs.Near.{AreNear}
use Rattle.nested_sort.specs.Reached.{AreKept, key_by}
use Rattle.nested_sort.proofs.reached.near_candidates.Given as goal

abbrev pub invariant-entries : goal.invariant-entries
invariant-entries l =
    (done : List Hit)
    × (some : List Hit)
    × (done ++ hits_of l.at (drop l.at l.found) ≡ hits_in l.found)
    × AreNear (key_by l.entries l.clause) l.fn.keys.direction l.fn.keys.after l.reach.limit done some
    × AreKept (key_by l.entries l.clause) l.fn.keys.direction l.fn.keys.after l.fn.keys.most some l.kept.items l.keys
