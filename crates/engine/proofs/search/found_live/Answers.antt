use Rattle.std.proofs.Common.{List, subst, sym}
use Rattle.flattener.specs.Fits.{ViewFits}
use Rattle.segment.specs.Live.{EntryState}
use Rattle.index_trees.specs.Faithful.{EntriesStandFor}
use Rattle.engine.proofs.Finding.{index_stands}
use Rattle.engine.proofs.search.found_live.Goals as goal

pub found_in-requires-clause-fits : goal.found_in-requires-clause-fits
found_in-requires-clause-fits g c = subst (ViewFits c.args.mapping.now) (sym c.view.ensures.view) (c.view.ensures.fits c.args.mapping.now c.requires.fits)

pub returns-clause-found : goal.returns-clause-found
returns-clause-found g c = λ state f.
    c.found_in.ensures.found state.content.live
    (subst (λ (entries : List EntryState). EntriesStandFor c.args.mapping.now entries state.content.live) (sym c.view.ensures.view) (index_stands c.args.mapping.now c.args.index.now state f c.requires.sealed))

pub returns-clause-reads : goal.returns-clause-reads
returns-clause-reads g c = λ state f.
    c.found_in.ensures.reads state.content.live
    (subst (λ (entries : List EntryState). EntriesStandFor c.args.mapping.now entries state.content.live) (sym c.view.ensures.view) (index_stands c.args.mapping.now c.args.index.now state f c.requires.sealed))
