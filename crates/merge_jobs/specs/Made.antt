-- These serve proofs alone: what an open merge keeps of the segment that it made.
use Rattle.std.specs.Prelude.{◌≡◌, ◌↔◌, List, [], Option, IsNone, IfSome}
use Rattle.std.specs.List.{All}
use Rattle.flattener.specs.Fits.{SegmentFits}
use Rattle.mapping.specs.Mapping.{Mapping}
use Rattle.merge_jobs.specs.Job.{AreLater, live_in_all}
use Rattle.segment.specs.Live.{EntryState}
use Rattle.segment_builder.specs.Blocks.{blocks_of}
use Rattle.segment_parts.specs.declared.columns.Columns.{Columns}

-- the segment of the blocks that are live in entries, which fits each mapping that theirs fit; none exactly where none is live
pub record IsMadeOf (entries : List EntryState) (segment : Option Columns) : Type 0 where
  pub none : IsNone segment ↔ (live_in_all entries ≡ [])
  pub blocks : IfSome segment (λ (columns : Columns). blocks_of columns ≡ live_in_all entries)
  pub fits : (m : Mapping) → All (λ (entry : EntryState). SegmentFits m entry.columns) entries → IfSome segment (SegmentFits m)

-- what was made, if anything was, was made of the entries that a merge was started on, as they were later
abbrev pub IsMadeLater : List EntryState → Option (List EntryState) → Type 0
IsMadeLater parts made = IfSome made (AreLater parts)
