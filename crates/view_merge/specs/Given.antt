-- Entries of which some neighbours have given way to one of their live blocks, as segments of blocks.
use Rattle.std.specs.Prelude.{◌⊎◌, ℕ, ◌≤◌, List, [], ◌∷◌, Contains, Option, Some, None}
use Rattle.std.specs.List.{All, flat_map}
use Rattle.flattener.specs.Block.{BlockState}
use Rattle.flattener.specs.Fits.{SegmentFits}
use Rattle.layout.specs.Layout.{SegmentOf}
use Rattle.layout.specs.Merges.{SegmentSummary}
use Rattle.mapping.specs.Mapping.{Mapping}
use Rattle.merge_jobs.specs.Job.{segment_kept}
use Rattle.merge_policy.specs.Runs.{given_way, range_of}
use Rattle.merge_policy.specs.declared.runs.Run.{Run}
use Rattle.segment.specs.Live.{EntryState}
use Rattle.view_merge.specs.declared.rows.SegmentRow.{SegmentRow}

-- what stands where entries gave way: one, or none
abbrev pub segments_of : Option EntryState → List (SegmentOf BlockState)
segments_of None = []
segments_of (Some entry) = segment_kept entry ∷ []

-- the segments of runs, each made one with the next id after so many
abbrev pub settled_segments : ℕ → List Run → List (SegmentOf BlockState) → List (SegmentOf BlockState)
settled_segments made runs segments = flat_map (λ (run : Run). given_way made run.made (range_of run segments)) runs

-- an entry is one of these, or was made after so many
abbrev pub IsKeptOrMade : List EntryState → ℕ → EntryState → Type 0
IsKeptOrMade entries made entry = Contains entries entry ⊎ (made ≤ entry.id)

-- segments that a mapping can have made
abbrev pub AreFitting : Mapping → List EntryState → Type 0
AreFitting m entries = All (λ (entry : EntryState). SegmentFits m entry.columns) entries

abbrev pub summary_shown : SegmentRow → SegmentSummary
summary_shown row = record { dead = row.dead; first = row.first; last = row.last; live = row.live; objects = row.objects }

abbrev pub number_of_block : BlockState → ℕ
number_of_block block = block.root.number
