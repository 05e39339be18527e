-- What the words `check`, `make` and `run-made` print. `taken` and `taken'` are the bytes that the sink has taken before and after a
-- call, where it tells them, and `content` those of the disk's file.
use Rattle.std.specs.Prelude.{◌≡◌, ◌⊎◌, ℕ, Bool, true, false, List, [], ◌∷◌, length, map, Option, None, Some, ⊤}
use Rattle.std.specs.List.{All, count_by}
use Rattle.std.specs.Io.KnownBytes.{Appends, Keeps}
use Rattle.commit_store.specs.Saying.{StoreCommit, Found, entries_of, mapping_said}
use Rattle.engine.specs.Answers.{answered_by}
use Rattle.engine.specs.declared.engine.Answered.{Answered}
use Rattle.engine.specs.declared.engine.Answered.TheVariants.{Written, Refused, NoMemory as no_memory}
use Rattle.index_core.specs.Kept.{block_number, segments_kept}
use Rattle.layout.specs.Merges.{summary_of}
use Rattle.line_reader.specs.Request.{requests}
use Rattle.machine.specs.Limit.{standard_limits}
use Rattle.machine.specs.May.{AreSizesFor, Stepped}
use Rattle.machine.specs.Merging.{segment_row}
use Rattle.machine.specs.State.{State, empty_state}
use Rattle.machine.specs.Step.{asked_for, step}
use Rattle.machine.specs.declared.limits.Limits.{Limits}
use Rattle.made_load.specs.Lines.{made_text}
use Rattle.reply_text.specs.Text.{reply_text}
use Rattle.reply_text.specs.declared.layout.SegmentRow.{SegmentRow}
use Rattle.reply_text.specs.declared.reply.Reply.{Reply}
use Rattle.reply_text.specs.declared.reply.Reply.TheVariants.{Checked, RanMade}
use Rattle.segment.specs.Live.{EntryState}
use Rattle.segment_builder.specs.Blocks.{block_objects}
use Rattle.store_check.specs.Held.{IsHeld}
use Rattle.store_opening.specs.Beginning.{IsOther}
use Rattle.line_engine.specs.Run.{IsDamaged, TakesPart}
use Rattle.line_engine.specs.Turns.{Turn, requests_of, text_of}
use Rattle.line_engine.specs.declared.status.Status.{Status}
use Rattle.line_engine.specs.declared.status.Status.TheVariants.{Done, BadWords, ReadFault, WriteFault, DiskFault, NotAStore, Damaged, SessionLimit, NoMemory}

-- One text is printed, by the status that this ends with: the whole of it, a part where a write failed, and nothing where there was
-- no memory. The statuses marked by ⊥ never come.
abbrev pub Prints : Status → Option (List ℕ) → Option (List ℕ) → List ℕ → Type 0
Prints Done taken taken' text = Appends taken taken' text
Prints BadWords taken taken' text = ⊥
Prints ReadFault taken taken' text = ⊥
Prints WriteFault taken taken' text = TakesPart taken taken' text
Prints DiskFault taken taken' text = ⊥
Prints NotAStore taken taken' text = ⊥
Prints Damaged taken taken' text = ⊥
Prints SessionLimit taken taken' text = ⊥
Prints NoMemory taken taken' text = Keeps taken taken'

-- ---- `check`

-- the segments of a commit are those of their sources, dead roots among them
abbrev pub IsSound : Option StoreCommit → Type 0
IsSound None = ⊤
IsSound (Some c) = All (IsHeld (mapping_said c.says)) (entries_of c)

-- the rows of segments, as `segments` shows them
abbrev pub rows_of : List EntryState → List SegmentRow
rows_of view = map segment_row (map (summary_of block_objects block_number) (segments_kept view))

-- what is printed of a commit, or where there is none
abbrev pub checked : Option StoreCommit → Reply
checked None = Checked 0 []
checked (Some c) = Checked c.says.next (rows_of (entries_of c))

-- The file holds a sound commit, or none yet, and of its line this is so.
pub record IsChecked (limit : ℕ) (bytes : List ℕ) (Is : List ℕ → Type 0) : Type 0 where
  pub found : Option StoreCommit
  pub holds : Found limit bytes found
  pub sound : IsSound found
  pub line : Is (reply_text (checked found))

-- The file holds a commit whose segments aren't those of their sources.
pub record IsUnsound (limit : ℕ) (bytes : List ℕ) : Type 0 where
  pub found : Option StoreCommit
  pub holds : Found limit bytes found
  pub unsound : IsSound found → ⊥

-- What the file is and what was printed, by the status that `check` ends with. Where nothing is said of the sink, `untouched` of
-- `run` says that it is as it was.
abbrev pub Checks : Status → ℕ → Option (List ℕ) → Option (List ℕ) → Option (List ℕ) → Type 0
Checks Done limit content taken taken' = (bytes : List ℕ) → content ≡ Some bytes → IsChecked limit bytes (Appends taken taken')
Checks BadWords limit content taken taken' = ⊥
Checks ReadFault limit content taken taken' = ⊥
Checks WriteFault limit content taken taken' = (bytes : List ℕ) → content ≡ Some bytes → IsChecked limit bytes (TakesPart taken taken')
Checks DiskFault limit content taken taken' = ⊤
Checks NotAStore limit content taken taken' = (bytes : List ℕ) → content ≡ Some bytes → IsOther bytes
Checks Damaged limit content taken taken' = (bytes : List ℕ) → content ≡ Some bytes → IsDamaged limit bytes ⊎ IsUnsound limit bytes
Checks SessionLimit limit content taken taken' = ⊥
Checks NoMemory limit content taken taken' = ⊤

-- ---- `run-made`

-- A turn that is the machine's step, for sizes that are right: there was memory, and the disk didn't fail.
pub record IsStep (limits : Limits) (before : State) (turn : Turn) : Type 0 where
  pub sizes : List ℕ
  pub are : AreSizesFor (asked_for turn.request) before sizes
  pub stepped : Stepped (step limits sizes before (asked_for turn.request)) turn.reply turn.after

-- each turn is the step behind the one before
abbrev pub AreSteps : Limits → State → List Turn → Type 0
AreSteps limits before [] = ⊤
AreSteps limits before (turn ∷ turns) = IsStep limits before turn × AreSteps limits turn.after turns

-- The machine answers the made input of a number and a count by its steps alone, from the state without a store on.
pub record AnswersMade (number count : ℕ) (turns : List Turn) : Type 0 where
  pub steps : AreSteps standard_limits empty_state turns
  pub asked : requests_of turns ≡ requests (made_text number count)

-- the request was not done
abbrev pub is_error : Answered → Bool
is_error Written = false
is_error Refused = true
is_error no_memory = true

-- the bytes of all replies, how many of them are refusals, and how many there are
abbrev pub summary : List Turn → Reply
summary turns = RanMade (length (text_of turns)) (count_by (λ (turn : Turn). is_error (answered_by turn.reply)) turns) (length turns)

-- Of the line with the summary this is so.
pub record IsSummed (number count : ℕ) (Is : List ℕ → Type 0) : Type 0 where
  pub turns : List Turn
  pub answers : AnswersMade number count turns
  pub line : Is (reply_text (summary turns))

-- What was printed, by the status that `run-made` ends with.
abbrev pub PrintsSummary : Status → ℕ → ℕ → Option (List ℕ) → Option (List ℕ) → Type 0
PrintsSummary Done number count taken taken' = IsSummed number count (Appends taken taken')
PrintsSummary BadWords number count taken taken' = ⊥
PrintsSummary ReadFault number count taken taken' = ⊥
PrintsSummary WriteFault number count taken taken' = IsSummed number count (TakesPart taken taken')
PrintsSummary DiskFault number count taken taken' = ⊥
PrintsSummary NotAStore number count taken taken' = ⊥
PrintsSummary Damaged number count taken taken' = ⊥
PrintsSummary SessionLimit number count taken taken' = ⊥
PrintsSummary NoMemory number count taken taken' = Keeps taken taken'
