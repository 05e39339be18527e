use Rattle.std.proofs.Common.{◌≡◌, ◌++◌, drop, List}
use Rattle.view_objects.specs.declared.hit.Hit.{Hit}
use Rattle.view_objects.specs.Hits.{hits_in, hits_of}
use Rattle.nested_sort.specs.Reached.{AreKept, key_by}
use Rattle.nested_sort.proofs.reached.candidates.Given as goal

abbrev pub invariant-entries : goal.invariant-entries
invariant-entries l =
    (done : List Hit)
    × (done ++ hits_of l.at (drop l.at l.found) ≡ hits_in l.found)
    × AreKept (key_by l.entries l.clause) l.fn.keys.direction l.fn.keys.after l.fn.keys.most done l.kept.items l.keys
