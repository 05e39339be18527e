use Rattle.std.proofs.Common.{refl}
use Rattle.segment_builder.specs.Entries.{no_entries, with_blocks}
use Rattle.segment_builder.proofs.Cut.{blocks_again}
use Rattle.segment_builder.proofs.Fitted.{fitted_by}
use Rattle.segment_builder.proofs.Whole.{flats_are}
use Rattle.segment_builder.proofs.law.made_segments_are_blocks.Goals as goal

pub returns-clause-blocks : goal.returns-clause-blocks
returns-clause-blocks c =
    let columns = c.args.segment.now in
    λ m blocks given made roots.
    blocks_again m columns blocks given.roots (flats_are (with_blocks no_entries blocks) columns blocks refl made given.ordered c.scopes_are_of_documents.ensures.sets) roots

pub returns-clause-fits : goal.returns-clause-fits
returns-clause-fits c =
    let columns = c.args.segment.now in
    λ m blocks given made roots other all.
    fitted_by other columns blocks all (flats_are (with_blocks no_entries blocks) columns blocks refl made given.ordered c.scopes_are_of_documents.ensures.sets) roots
