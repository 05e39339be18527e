use Rattle.index_core.proofs.Keeping.{factor_kept}
use Rattle.index_core.proofs.index_core.IndexCore.set_factor.Goals as goal

pub invariant_of-self : goal.invariant_of-self
invariant_of-self c = factor_kept c.self.inside c.set_factor.new.self c.args.factor c.set_factor.ensures c.self.invariant
