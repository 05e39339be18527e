-- What a stop leaves of the store: the content of which commit.
use Rattle.std.specs.Prelude.{ℕ, ◌≤◌, Bool, if◌then◌else◌, List, [], ◌∷◌, ◌++◌, map, filter, Option}
use Rattle.std.specs.List.{Contains}
use Rattle.machine.specs.State.{Content, State}
use Rattle.machine.specs.Step.{asked_for}
use Rattle.engine.specs.Storing.{is_acknowledged, is_tried}
use Rattle.index_trees.specs.Content.{OpensTo}
use Rattle.line_engine.specs.Turns.{Turn}

-- What a disk tells of itself: the bytes that a read gives, the bytes that a stop now may leave, the moment, those that a stop at
-- some moment from one on might have left, and how many calls failed.
pub record DiskState : Type 1 where
  pub content : Option (List ℕ)
  pub image : List ℕ → Type 0
  pub moment : ℕ
  pub since : ℕ → List ℕ → Type 0
  pub faults : ℕ

abbrev pub disk_state : Option (List ℕ) → (List ℕ → Type 0) → ℕ → (ℕ → List ℕ → Type 0) → ℕ → DiskState
disk_state content image moment since faults = record { content = content; image = image; moment = moment; since = since; faults = faults }

-- ---- the contents that are committed

-- the turn tried a commit, alone or with moves
abbrev pub tries : Turn → Bool
tries turn = is_tried (asked_for turn.request)

-- its commit was acknowledged
abbrev pub acknowledges : Turn → Bool
acknowledges turn = is_acknowledged turn.reply

abbrev pub content_after : Turn → Content
content_after turn = turn.after.content

-- the content at the start, and at each commit that was tried
abbrev pub ever_kept : State → List Turn → List Content
ever_kept start turns = start.content ∷ map content_after (filter tries turns)

-- a commit that is acknowledged takes the place of those before it, and one that is only tried is a further one
abbrev pub kept_after : List Content → Turn → List Content
kept_after contents turn = if acknowledges turn then content_after turn ∷ [] else (if tries turn then contents ++ content_after turn ∷ [] else contents)

-- behind such contents: the one at the last commit that was acknowledged, and those at the commits that were tried since
abbrev pub last_kept : List Content → List Turn → List Content
last_kept contents [] = contents
last_kept contents (turn ∷ turns) = last_kept (kept_after contents turn) turns

-- ---- stops

-- the bytes open, as a store of at most so many bytes, to one of these contents
pub record OpensToOne (limit : ℕ) (contents : List Content) (file : List ℕ) : Type 0 where
  pub content : Content
  pub among : Contains contents content
  pub opens : OpensTo limit content file

-- What a stop leaves of a store that was opened, at a moment, in a state and answered these turns since. Whatever a stop might
-- have left since then opens to the content at the start or at a commit that was tried. Whatever one may leave now opens to that
-- at the last commit that was acknowledged (at the start, where none was), or at one that was tried since.
pub record Stores (limit : ℕ) (start : State) (turns : List Turn) (opened : ℕ) (disk : DiskState) : Type 0 where
  pub later : opened ≤ disk.moment
  pub ever : (file : List ℕ) → disk.since opened file → OpensToOne limit (ever_kept start turns) file
  pub last : (file : List ℕ) → disk.image file → OpensToOne limit (last_kept (start.content ∷ []) turns) file
