use Rattle.std.proofs.Common.{sym, subst}
use Rattle.flattener.specs.Fits.{ViewFits}
use Rattle.segment_view.specs.Views.{HaveOwnBits}
use Rattle.index_core.specs.Kept.{IndexFits, IndexState}
use Rattle.index_core.proofs.Viewing.{view_fits}
use Rattle.index_core.proofs.index_core.IndexCore.view.Goals as goal

pub returns-clause-fits : goal.returns-clause-fits
returns-clause-fits c = λ m fits.
    let fits_here = subst (IndexFits m) (sym c.self.view_is) fits in
    let bits = subst HaveOwnBits c.view-view.ensures.view c.entries-entries.ensures.bits in
    subst (λ (s : IndexState). ViewFits m s.entries) c.self.view_is
    (view_fits m c.self.inside.blocks.entries c.self.inside.blocks.buffer c.view-view.ensures.below.whole bits fits_here.entries c.self.invariant.index.blocks.few)
