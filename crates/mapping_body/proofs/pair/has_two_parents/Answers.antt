use Rattle.std.proofs.Common.{◌∙◌}
use Rattle.mapping_body.proofs.Parents.{others_of_firsts}
use Rattle.mapping_body.proofs.pair.has_two_parents.Goals as goal

pub returns : goal.returns
returns c =
    rw c.as_slice.ensures.value at c.some_has_other_parent.ensures
    ∙ others_of_firsts c.args.pairs.now c.in_ok-firsts.firsts.items c.args.pairs.now c.in_ok-firsts.ensures.items
