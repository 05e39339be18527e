use Rattle.std.proofs.Common.{◌≡◌, ◌++◌, drop}
use Rattle.std.specs.List.{All}
use Rattle.nested_sort.specs.Listed.{IsCapped}
use Rattle.inner_hits.specs.Kinship.{AreCapped, kin_from}
use Rattle.inner_hits.proofs.joined.add_kin.Given as goal

abbrev pub invariant-hits : goal.invariant-hits
invariant-hits l =
    (l.kin.items ++ kin_from l.mapping l.ordinals l.side l.entries (drop l.hit-index l.hit-items)
    ≡ l.fn.kin.items ++ kin_from l.mapping l.ordinals l.side l.entries l.hit-items)
    × (AreCapped l.fn.kin.items → AreCapped l.kin.items)
    × All IsCapped l.hit-items
