-- Which entries can be merged, and what is known of each entry.
use Rattle.std.specs.Prelude.{◌≡◌, ◌<◌, ◌≤◌, List, length, replicate}
use Rattle.std.specs.List.{All, flat_map}
use Rattle.flattener.specs.Block.{BlockState}
use Rattle.flattener.specs.Fits.{SegmentFits, most_live}
use Rattle.flattener.specs.Small.{IsSmall}
use Rattle.layout.specs.Layout.{Marked}
use Rattle.mapping.specs.Mapping.{Mapping}
use Rattle.segment.specs.Flat.{flats_of}
use Rattle.segment.specs.Live.{EntryState, IsLiveOver}
use Rattle.segment_parts.specs.Agree.{AreColumns}
use Rattle.segment_builder.specs.Blocks.{blocks_in, blocks_of, live_blocks, objects_of}
use Rattle.segment_builder.specs.ByKey.{SayAtKeys}
use Rattle.segment_builder.specs.Entries.{no_entries, with_blocks}
use Rattle.segment_builder.specs.Form.{IsFit, IsOrdered}
use Rattle.segment_builder.specs.Given.{IsNumbered}

-- entries of one mapping, with one live block or more, and with few enough live documents
pub record AreMergeable (m : Mapping) (entries : List EntryState) : Type 0 where
  pub numbered : IsNumbered m
  pub fit : All (λ (entry : EntryState). SegmentFits m entry.columns) entries
  pub few : objects_of (flat_map live_blocks entries) ≤ most_live
  pub some : 0 < length (flat_map live_blocks entries)

-- an entry: its columns agree, its live bits are over them, a document is live where its block is, and at each key the
-- columns have what the documents carry there
pub record IsKnown (entry : EntryState) : Type 0 where
  pub agree : AreColumns entry.columns
  pub live : IsLiveOver entry.columns entry.live
  pub marks : entry.live.docs ≡ flat_map (λ (block : Marked BlockState). replicate (length block.item.flats) block.live) (blocks_in entry)
  pub say : (m : Mapping) → SegmentFits m entry.columns → All IsOrdered (flats_of entry.columns) → All IsSmall (flats_of entry.columns) → All IsFit (flats_of entry.columns)
      → SayAtKeys (with_blocks no_entries (blocks_of entry.columns)) entry.columns
