use Rattle.std.proofs.Common.{refl, sym, subst}
use Rattle.index_core.specs.Kept.{IndexFits}
use Rattle.index_core.proofs.Refused.{state_fits}
use Rattle.index_core.proofs.index_core.IndexCore.seal.Goals as goal

pub returns-clause-fits : goal.returns-clause-fits
returns-clause-fits c =
    let fits = subst (IndexFits c.args.mapping.now) (sym c.self.view_is) c.requires in
    state_fits c.args.mapping.now c.self.inside c.seal.new.self c.seal.new.self c.in_ok-seal.ensures.buffer refl (c.seal.ensures.fits c.args.mapping.now c.scope_count-scopes.ensures.is_mapping fits.buffer fits.entries)
