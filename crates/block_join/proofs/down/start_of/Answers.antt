use Rattle.std.proofs.Common.{sym, ◌∙◌}
use Rattle.block_bits.specs.Flags.{is_marked}
use Rattle.block_join.proofs.Starts.{start_behind, start_first}
use Rattle.block_join.proofs.down.start_of.Goals as goal

pub returns-in-Some : goal.returns-in-Some
returns-in-Some c =
    start_behind c.args.parents.now c.args.parent c.in-Some.previous c.requires
    ((c.places_are_nearest.ensures.previous is_marked c.args.parent c.in-Some.previous c.args.parents.now).0 (sym c.prev_set.ensures.value ∙ c.in-Some.is))

pub returns-in-None : goal.returns-in-None
returns-in-None c =
    start_first c.args.parents.now c.args.parent c.requires
    ((c.places_are_nearest.ensures.no_previous is_marked c.args.parent c.args.parents.now).0 (sym c.prev_set.ensures.value ∙ c.in-None.is))
