use Rattle.std.proofs.Common.{map, sym, ap, subst, ◌∙◌}
use Rattle.flattener.specs.Block.{BlockState}
use Rattle.flattener.specs.Fits.{SegmentFits}
use Rattle.flattener.specs.Seen.{block_seen}
use Rattle.layout.specs.Layout.{alive}
use Rattle.segment_builder.proofs.Fitted.{fitted}
use Rattle.index_core.proofs.kept_blocks.entry_of.Goals as goal

pub returns-clause-blocks : goal.returns-clause-blocks
returns-clause-blocks c = c.in_ok-entry.ensures.blocks ∙ ap (map (alive {A = BlockState})) c.in_ok-segment.ensures.blocks

pub returns-clause-fits : goal.returns-clause-fits
returns-clause-fits c = λ m is fit.
    subst (SegmentFits m) (sym c.in_ok-entry.ensures.columns)
    (fitted m c.in_ok-segment.segment (map block_seen c.args.blocks.now) (λ block. c.blocks_are_of_their_mapping.ensures m block is) fit c.in_ok-segment.ensures.flats c.in_ok-segment.ensures.roots)
