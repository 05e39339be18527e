use Rattle.index_core.proofs.kept_blocks.KeptBlocks.set_factor.Goals as goal

pub invariant_of-self : goal.invariant_of-self
invariant_of-self c = record { below = c.self.invariant.below; open_are = c.self.invariant.open_are; over = c.self.invariant.over; factor_is = c.requires }
