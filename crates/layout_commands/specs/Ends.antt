-- How commands on the layout and on points in time end: with a reply where they were done, refused with nothing changed, or for
-- want of memory, which may leave the buffer sealed.
use Rattle.std.specs.Prelude.{◌≡◌, ◌⊎◌, ℕ, ◌+◌, ◌<◌, true, false, Result, Ok, Err}
use Rattle.index_core.specs.Kept.{IndexState, layout_kept}
use Rattle.index_core.specs.declared.merge.MergeRefusal.{MergeRefusal}
use Rattle.index_core.specs.declared.merge.MergeRefusal.TheVariants as merge
use Rattle.layout.specs.Layout.{sealed}
use Rattle.machine.specs.Merging.{declined, merged_by, relaid}
use Rattle.machine.specs.declared.merge_command.MergeCommand.{MergeCommand}
use Rattle.machine.specs.declared.merge_command.MergeCommand.TheVariants.{Start, Advance, Finish, Abort, Force}
use Rattle.merge_jobs.specs.declared.rows.MergeRow.{MergeRow as KeptMerge}
use Rattle.point_in_time.specs.Points.{KeptPoints, is_full, is_open, with_point, without_point}
use Rattle.reply_text.specs.declared.layout.MergeRow.{MergeRow}
use Rattle.reply_text.specs.declared.layout.SegmentRow.{SegmentRow}
use Rattle.reply_text.specs.declared.refusal.Refusal.TheVariants as why
use Rattle.reply_text.specs.declared.reply.Reply.{Reply}
use Rattle.reply_text.specs.declared.reply.Reply.TheVariants.{PitOpened, PitClosed}
use Rattle.view_merge.specs.declared.rows.SegmentRow.{SegmentRow as KeptSegment}
use Rattle.layout_commands.specs.declared.not_done.NotDone.{NotDone}
use Rattle.layout_commands.specs.declared.not_done.NotDone.TheVariants.{Refused, NoMemory}

-- why a merge wasn't done, where the merge with this id was asked for
abbrev pub not_done_by : ℕ → MergeRefusal → NotDone
not_done_by id merge.BadRange = Refused why.BadMergeRange
not_done_by id (merge.Overlaps other) = Refused (why.MergeOverlaps other)
not_done_by id merge.TooMany = Refused why.TooManyMerges
not_done_by id merge.Unknown = Refused why.UnknownMerge
not_done_by id (merge.NotDone left) = Refused (why.MergeNotDone left id)
not_done_by id merge.NoMemory = NoMemory

-- a forced merge leaves at least one segment
abbrev pub IsFormed : MergeCommand → Type 0
IsFormed (Start from count) = Unit {0}
IsFormed (Advance id roots) = Unit {0}
IsFormed (Finish id) = Unit {0}
IsFormed (Abort id) = Unit {0}
IsFormed (Force most) = 0 < most

-- the layout is as it was, or its buffer is sealed
abbrev pub StaysOrSeals : IndexState → IndexState → Type 0
StaysOrSeals index index' = (layout_kept index' ≡ layout_kept index) ⊎ (layout_kept index' ≡ sealed (layout_kept index))

-- what becomes of a merge command: the layout of blocks, sealed, answers it
abbrev pub IsMerged : MergeCommand → Result Reply NotDone → IndexState → IndexState → Type 0
IsMerged command (Ok reply) index index' = merged_by command (sealed (layout_kept index)) ≡ relaid reply (layout_kept index')
IsMerged command (Err (Refused why)) index index' = (merged_by command (sealed (layout_kept index)) ≡ declined why) × (index' ≡ index)
IsMerged command (Err NoMemory) index index' = StaysOrSeals index index'

-- a point in time was opened on what is live
pub record HasOpened (reply : Reply) (index index' : IndexState) (points points' : KeptPoints) : Type 0 where
  pub room : is_full points ≡ false
  pub reply_is : reply ≡ PitOpened (points.opened + 1)
  pub layout : layout_kept index' ≡ sealed (layout_kept index)
  pub points_are : points' ≡ with_point index'.entries points

-- what becomes of points in time where there was no memory
pub record IsLacking (index index' : IndexState) (points points' : KeptPoints) : Type 0 where
  pub layout : StaysOrSeals index index'
  pub points_are : points' ≡ points

abbrev pub IsOpened : Result Reply NotDone → IndexState → IndexState → KeptPoints → KeptPoints → Type 0
IsOpened (Ok reply) index index' points points' = HasOpened reply index index' points points'
IsOpened (Err (Refused refusal)) index index' points points' = (is_full points ≡ true) × (refusal ≡ why.TooManyPits) × (index' ≡ index) × (points' ≡ points)
IsOpened (Err NoMemory) index index' points points' = IsLacking index index' points points'

-- a point in time was closed
pub record HasClosed (id : ℕ) (reply : Reply) (index index' : IndexState) (points points' : KeptPoints) : Type 0 where
  pub was_open : is_open id points.points ≡ true
  pub reply_is : reply ≡ PitClosed id
  pub layout : layout_kept index' ≡ sealed (layout_kept index)
  pub points_are : points' ≡ without_point id points

abbrev pub IsClosed : ℕ → Result Reply NotDone → IndexState → IndexState → KeptPoints → KeptPoints → Type 0
IsClosed id (Ok reply) index index' points points' = HasClosed id reply index index' points points'
IsClosed id (Err (Refused refusal)) index index' points points' = (is_open id points.points ≡ false) × (refusal ≡ why.UnknownPit) × (index' ≡ index) × (points' ≡ points)
IsClosed id (Err NoMemory) index index' points points' = IsLacking index index' points points'

-- rows as replies have them
abbrev pub merge_row_of : KeptMerge → MergeRow
merge_row_of row = record { count = row.count; from = row.from; left = row.left; merge = row.merge }

abbrev pub segment_row_of : KeptSegment → SegmentRow
segment_row_of row = record { dead = row.dead; first = row.first; last = row.last; live = row.live; objects = row.objects }
