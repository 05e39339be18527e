use Rattle.std.proofs.Common.{suc, refl, arith}
use Rattle.std.proofs.lemmas.List.Sorted.{Contains-permutation}
use Rattle.part_tests.proofs.extents.extents_come_from_the_first_hole_with_room.Goals as goal

pub give_back-requires : goal.give_back-requires
give_back-requires g c =
    let before = Contains-permutation _ _ c.in_ok-first.first c.in_ok-first.ensures.gains (0, omega arith, refl) in
    Contains-permutation _ _ c.in_ok-first.first c.in_ok-take.ensures.gains (suc before.0, omega (arith, before.1), before.2)
