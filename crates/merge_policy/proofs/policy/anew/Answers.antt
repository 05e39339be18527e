use Rattle.std.proofs.Common.{length, reverse, take, ap, length-take, arith}
use Rattle.std.proofs.lemmas.List.{length-reverse}
use Rattle.merge_policy.proofs.Counting.{anew_few}
use Rattle.merge_policy.proofs.policy.anew.Goals as goal

pub overflow_add-made : goal.overflow_add-made
overflow_add-made c =
    let items = c.deref-neighbour-items.result.now in
    let done = take c.neighbours.neighbour-index items in
    omega (arith, (anew_few c.args.evened.now.made (reverse done)).1, length-reverse done, length-take c.neighbours.neighbour-index items, c.neighbours.invariant.1, ap length c.deref-neighbour-items.ensures.value, c.requires)
