-- What is asked of the layout: its rows, merges of neighbours that are opened, walked and finished, merges at once, and merges
-- that come by themselves (Lucene, `IndexWriter.forceMerge` and `MergePolicy`; merges in pieces are this project's own).
use Rattle.std.specs.Prelude.{ℕ, ◌-◌, length, map, Option, Some, None, unwrap_or}
use Rattle.layout.specs.As.{layout_as}
use Rattle.layout.specs.Layout.{Layout, OpenMerge, live_of_range}
use Rattle.layout.specs.Merges.{MergeFault, bad_range, overlaps, too_many, unknown, not_done, SegmentSummary, start_fault, finish_fault, force_fault, merge_named, merge_of, with_merge, advanced, aborted, finished, forced, with_factor, summaries_of}
use Rattle.mapping.specs.Mapping.{Mapping}
use Rattle.reply_text.specs.declared.layout.MergeRow.{MergeRow}
use Rattle.reply_text.specs.declared.layout.SegmentRow.{SegmentRow}
use Rattle.reply_text.specs.declared.refusal.Refusal.{Refusal}
use Rattle.reply_text.specs.declared.refusal.Refusal.TheVariants as why
use Rattle.reply_text.specs.declared.reply.Reply.{Reply}
use Rattle.reply_text.specs.declared.reply.Reply.TheVariants as reply
use Rattle.tree_objects.specs.Object.{block_objects}
use Rattle.tree_objects.specs.Tree.{Tree}
use Rattle.machine.specs.Answer.{Answer, refuses, answers}
use Rattle.machine.specs.Searching.{within}
use Rattle.machine.specs.State.{State, sealed_state}
use Rattle.machine.specs.declared.limits.Limits.{Limits}
use Rattle.machine.specs.declared.merge_command.MergeCommand.{MergeCommand}
use Rattle.machine.specs.declared.merge_command.MergeCommand.TheVariants.{Start, Advance, Finish, Abort, Force}

-- a state whose trees are laid out so
abbrev pub with_layout : Layout Tree → State → State
with_layout layout state = record state { layout = layout }

-- ---- merges, of a layout of any items

-- what a merge command answers: a refusal, or a reply with the layout afterwards
pub data LayoutAnswer (A : Type 0) : Type 0 where
  declined : Refusal → LayoutAnswer A
  relaid : Reply → Layout A → LayoutAnswer A

-- what is wrong with a merge as a reply says it, where the merge with this id is asked for
abbrev pub merge_refusal : ℕ → MergeFault → Refusal
merge_refusal id bad_range = why.BadMergeRange
merge_refusal id (overlaps other) = why.MergeOverlaps other
merge_refusal id too_many = why.TooManyMerges
merge_refusal id unknown = why.UnknownMerge
merge_refusal id (not_done left) = why.MergeNotDone left id

abbrev pub unless_faulty : {A : Type 0} → ℕ → Option MergeFault → LayoutAnswer A → LayoutAnswer A
unless_faulty {A} id None answer = answer
unless_faulty {A} id (Some fault) answer = declined (merge_refusal id fault)

-- no merge has this id, which stands where none is asked for
abbrev pub no_merge : ℕ
no_merge = 0

-- what is done with an open merge; where none has the id that is refused
abbrev pub with_open : {A : Type 0} → Option OpenMerge → (OpenMerge → LayoutAnswer A) → LayoutAnswer A
with_open {A} None command = declined why.UnknownMerge
with_open {A} (Some merge) command = command merge

-- the id of the merge that opens, and how many roots are live in its segments
abbrev pub start_done : {A : Type 0} → ℕ → ℕ → Layout A → LayoutAnswer A
start_done {A} from count layout = relaid (reply.MergeStarted (merge_of from count layout).id (merge_of from count layout).left) (with_merge from count layout)

-- how many roots are left then
abbrev pub advance_done : {A : Type 0} → ℕ → ℕ → Layout A → OpenMerge → LayoutAnswer A
advance_done {A} id roots layout merge = relaid (reply.MergeAdvanced (merge.left - roots) id) (advanced id roots layout)

-- how many roots of the merge's segments are live now: those of the new one
abbrev pub finish_done : {A : Type 0} → ℕ → Layout A → OpenMerge → LayoutAnswer A
finish_done {A} id layout merge = relaid (reply.MergeFinished (length (live_of_range merge.from merge.count layout)) id) (finished merge layout)

abbrev pub abort_done : {A : Type 0} → ℕ → Layout A → OpenMerge → LayoutAnswer A
abort_done {A} id layout merge = relaid (reply.MergeAborted id) (aborted id layout)

-- how many segments there are then
abbrev pub force_done : {A : Type 0} → ℕ → Layout A → LayoutAnswer A
force_done {A} most layout = relaid (reply.ForceMerged (length (forced most layout).segments)) (forced most layout)

unfoldable pub merged_by : {A : Type 0} → MergeCommand → Layout A → LayoutAnswer A
merged_by {A} (Start from count) layout = unless_faulty no_merge (start_fault from count layout) (start_done from count layout)
merged_by {A} (Advance id roots) layout = with_open (merge_named id layout) (advance_done id roots layout)
merged_by {A} (Finish id) layout = unless_faulty id (finish_fault id layout) (with_open (merge_named id layout) (finish_done id layout))
merged_by {A} (Abort id) layout = with_open (merge_named id layout) (abort_done id layout)
merged_by {A} (Force most) layout = unless_faulty no_merge (force_fault most layout) (force_done most layout)

-- the same answer for a layout of other items
abbrev pub answer_as : {A B : Type 0} → (A → B) → LayoutAnswer A → LayoutAnswer B
answer_as {A} {B} f (declined why) = declined why
answer_as {A} {B} f (relaid reply layout) = relaid reply (layout_as f layout)

-- ---- steps

abbrev pub answer_of : State → LayoutAnswer Tree → Answer
answer_of state (declined why) = refuses why
answer_of state (relaid reply layout) = answers reply (with_layout layout state)

abbrev pub merge_step : MergeCommand → Mapping → State → Answer
merge_step command m state = answer_of state (merged_by command state.layout)

-- the factor is set, and then the buffer is sealed by it
unfoldable pub automerge_step : Option ℕ → Mapping → State → Answer
automerge_step factor m state = answers (reply.AutoMerge (unwrap_or factor 0)) (sealed_state (with_layout (with_factor factor state.layout) state))

-- ---- rows

abbrev pub segment_row : SegmentSummary → SegmentRow
segment_row summary = record { dead = summary.dead; first = summary.first; last = summary.last; live = summary.live; objects = summary.objects }

abbrev pub merge_row : OpenMerge → MergeRow
merge_row merge = record { count = merge.count; from = merge.from; left = merge.left; merge = merge.id }

-- the rows of a layout, by how many objects an item has, its root included, and by its number
abbrev pub layout_rows : {A : Type 0} → (A → ℕ) → (A → ℕ) → Layout A → Reply
layout_rows {A} objects number layout = reply.Layout (map merge_row layout.merges) (map segment_row (summaries_of objects number layout))

abbrev pub objects_in : Mapping → Tree → ℕ
objects_in m tree = length (block_objects m tree)

abbrev pub number_in : Tree → ℕ
number_in tree = tree.number

abbrev pub layout_reply : Mapping → Layout Tree → Reply
layout_reply m layout = layout_rows (objects_in m) number_in layout

unfoldable pub segments_step : Limits → Mapping → State → Answer
segments_step limits m state = answers (within limits (layout_reply m state.layout)) state
