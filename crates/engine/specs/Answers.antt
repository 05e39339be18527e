-- How an engine answers a request.
use Rattle.std.specs.Prelude.{◌≡◌, ◌⊎◌, ◌+◌, ◌≤◌, ℕ, List, Option}
use Rattle.commit_store.specs.Known.{StoreState, KeepsStore}
use Rattle.commit_store.specs.Saying.{StoreCommit}
use Rattle.disk.specs.Stops.{IsTold}
use Rattle.line_reader.specs.Request.{Request}
use Rattle.machine.specs.Answer.{Outcome}
use Rattle.machine.specs.May.{AreSizesFor, MayEnd}
use Rattle.machine.specs.State.{State}
use Rattle.machine.specs.Step.{asked_for, step}
use Rattle.machine.specs.declared.limits.Limits.{Limits}
use Rattle.reply_text.specs.Text.{reply_text}
use Rattle.reply_text.specs.declared.reply.Reply.{Reply}
use Rattle.reply_text.specs.declared.reply.Reply.TheVariants as reply
use Rattle.engine.specs.Faithful.{IsFaithful}
use Rattle.engine.specs.Kept.{EngineState}
use Rattle.engine.specs.Reads.{most_reads}
use Rattle.engine.specs.Storing.{HasDiskCause, StoreTurn, is_tried}
use Rattle.engine.specs.declared.engine.Answered.{Answered}
use Rattle.engine.specs.declared.engine.Answered.TheVariants.{Written, Refused, NoMemory}

-- what is written for an answer: the reply in the buffer, or the fixed one where there was no memory
abbrev pub reply_bytes : Answered → List ℕ → List ℕ
reply_bytes Written out = out
reply_bytes Refused out = out
reply_bytes NoMemory out = reply_text reply.OutOfMemory

-- what an answer tells of the reply
abbrev pub answered_by : Reply → Answered
answered_by reply.Mapped = Written
answered_by reply.Refreshed = Written
answered_by (reply.Written id number result) = Written
answered_by (reply.NotFound id) = Written
answered_by (reply.Found page answers) = Written
answered_by (reply.PitOpened pit) = Written
answered_by (reply.PitClosed pit) = Written
answered_by (reply.MergeStarted merge roots) = Written
answered_by (reply.MergeAdvanced left merge) = Written
answered_by (reply.MergeFinished live merge) = Written
answered_by (reply.MergeAborted merge) = Written
answered_by (reply.ForceMerged segments) = Written
answered_by (reply.AutoMerge factor) = Written
answered_by (reply.Layout merges segments) = Written
answered_by (reply.Committed next) = Written
answered_by (reply.Compacted moved next) = Written
answered_by (reply.Trimmed bytes) = Written
answered_by (reply.Checked next segments) = Written
answered_by (reply.RanMade bytes errors lines) = Written
answered_by (reply.Refused why) = Refused
answered_by reply.OutOfMemory = NoMemory

-- In a state where an outcome is due, a reply that may be given is written, and what is kept is faithful to the state afterwards.
pub record Answers (before : State) (outcome : Outcome) (answered : Answered) (out : List ℕ) (engine : EngineState) : Type 0 where
  pub reply : Reply
  pub after : State
  pub may : MayEnd before outcome reply after
  pub faithful : IsFaithful engine after
  pub told : answered ≡ answered_by reply
  pub text : reply_bytes answered out ≡ reply_text reply

-- What is asked for is answered as the machine may. Where it was answered, the segments that are written take the bytes that the
-- machine counts; and where the store kept a commit, or none, and the disk tells its bytes, the store is as the reply says.
pub record AnswersTo (limits : Limits) (before : State) (request : Request) (answered : Answered) (out : List ℕ) (reads reads' : ℕ) (stored : StoreState) (engine : EngineState)
    (content' : Option (List ℕ)) (image image' : List ℕ → Type 0) (from to : ℕ) (past since : ℕ → List ℕ → Type 0) (faults faults' : ℕ) : Type 0 where
  pub sizes : List ℕ
  pub answers : Answers before (step limits sizes before (asked_for request)) answered out engine
  pub are : (answers.reply ≡ reply.OutOfMemory) ⊎ AreSizesFor (asked_for request) before sizes
  pub few : reads' ≤ reads + most_reads before request
  pub stores : IsTold content' → (found : Option StoreCommit) → KeepsStore stored found image
      → StoreTurn (is_tried (asked_for request)) answers.reply answers.after.content engine.stored image image' from to past since
  pub cause : HasDiskCause answers.reply faults faults'

-- what holds where a request wasn't done
abbrev pub IfNotDone : Answered → Type 0 → Type 0
IfNotDone Written claim = Unit {0}
IfNotDone Refused claim = claim
IfNotDone NoMemory claim = claim
