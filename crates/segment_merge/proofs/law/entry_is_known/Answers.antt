use Rattle.std.proofs.Common.{◌≡◌, All, length, replicate, subst}
use Rattle.std.specs.List.{flat_map}
use Rattle.flattener.specs.Block.{BlockState}
use Rattle.flattener.specs.Fits.{SegmentFits}
use Rattle.flattener.specs.Small.{IsSmall}
use Rattle.layout.specs.Layout.{Marked}
use Rattle.mapping.specs.Mapping.{Mapping}
use Rattle.segment.specs.Agree.{AreColumns}
use Rattle.segment.specs.Flat.{flats_of}
use Rattle.segment.specs.Live.{IsLiveOver}
use Rattle.segment_builder.specs.Blocks.{blocks_of, marked_by}
use Rattle.segment_builder.specs.ByKey.{SayAtKeys}
use Rattle.segment_builder.specs.Entries.{no_entries, with_blocks}
use Rattle.segment_builder.specs.Form.{IsFit, IsOrdered}
use Rattle.segment_parts.specs.declared.columns.Columns.{Columns}
use Rattle.segment_merge.proofs.law.entry_is_known.Goals as goal

pub returns : goal.returns
returns c =
    let entry = c.args.entry.now in
    let same : c.segment-segment.result.now ≡ entry.columns = c.segment-segment.ensures in
    record {
      agree = subst AreColumns same c.docs-documents.ensures.agree;
      live = c.live-live.ensures.over;
      marks =
          subst (λ (columns : Columns). IsLiveOver columns entry.live → entry.live.docs ≡ flat_map (λ (block : Marked BlockState). replicate (length block.item.flats) block.live) (marked_by (blocks_of columns) entry.live.roots)) same
          (c.documents_live_with_their_blocks.ensures entry.live) c.live-live.ensures.over;
      say =
          subst
          (λ (columns : Columns). (m : Mapping) → SegmentFits m columns → All IsOrdered (flats_of columns) → All IsSmall (flats_of columns) → All IsFit (flats_of columns) → SayAtKeys (with_blocks no_entries (blocks_of columns)) columns) same
          c.segments_say_what_documents_carry.ensures;
    }
