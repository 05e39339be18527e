use Rattle.std.proofs.Common.{◌≡◌, take}
use Rattle.view_objects.specs.Hits.{hits_in}
use Rattle.inner_hits.specs.Kinship.{AreCapped, kin_from}
use Rattle.inner_hits.proofs.joined.gathered.Given as goal

abbrev pub invariant-entries : goal.invariant-entries
invariant-entries l =
    (l.kin.items ≡ kin_from l.mapping l.ordinals l.side l.entries (hits_in (take l.place l.fn.matches)))
    × AreCapped l.kin.items
