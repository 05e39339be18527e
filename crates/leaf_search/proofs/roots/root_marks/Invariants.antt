use Rattle.std.proofs.Common.{◌≡◌, length, take}
use Rattle.segment.specs.Flat.{flats_of, roots_of}
use Rattle.leaf_search.specs.Roots.{root_passes}
use Rattle.leaf_search.specs.Sets.{root_marks}
use Rattle.leaf_search.proofs.roots.root_marks.Given as goal

abbrev pub invariant-roots : goal.invariant-roots
invariant-roots l =
    (length l.set ≡ l.segment.documents)
    × (l.set ≡ root_marks (root_passes l.test) (take l.root (roots_of l.segment)) (flats_of l.segment))
