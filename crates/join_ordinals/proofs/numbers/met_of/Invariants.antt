use Rattle.std.proofs.Common.{◌≡◌, Some, map, slice_get}
use Rattle.std.specs.List.{All, range_with_len}
use Rattle.join_ordinals.specs.Numbers.{HasHash}
use Rattle.join_ordinals.proofs.numbers.met_of.Given as goal

abbrev pub invariant-ids : goal.invariant-ids
invariant-ids l =
    All HasHash l.met.items
    × All (λ one. slice_get l.ids one.place ≡ Some one.id.now) l.met.items
    × (map (λ one. one.place) l.met.items ≡ range_with_len 0 l.place)
