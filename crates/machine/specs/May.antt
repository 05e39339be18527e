-- What a request may be answered, and the states that this may leave.
use Rattle.std.specs.Prelude.{◌≡◌, ◌⊎◌, ◌+◌, ℕ, List, ⊤}
use Rattle.line_reader.specs.Request.{Request}
use Rattle.reply_text.specs.declared.refusal.Refusal.TheVariants.{DiskFailure}
use Rattle.reply_text.specs.declared.reply.Reply.{Reply}
use Rattle.reply_text.specs.declared.reply.Reply.TheVariants.{OutOfMemory, Refused}
use Rattle.request_form.specs.Asked.{Asked, refused, asks}
use Rattle.request_form.specs.Command.{Action, map_body, write, search, refresh, segments, open_pit, close_pit, force_merge, start_merge, advance_merge, finish_merge, abort_merge, commit, compact, trim, automerge}
use Rattle.machine.specs.Answer.{Need, nothing, closing, writing, Outcome}
use Rattle.machine.specs.State.{State, sealed_state}
use Rattle.machine.specs.Step.{asked_for, step}
use Rattle.machine.specs.Storing.{AreSizes}
use Rattle.machine.specs.declared.limits.Limits.{Limits}

-- the reply and the state of an outcome
pub record Stepped (outcome : Outcome) (reply : Reply) (after : State) : Type 0 where
  pub reply_is : reply ≡ outcome.reply
  pub state_is : after ≡ outcome.state

-- the state is as it was, or has its buffer sealed
abbrev pub AsOrSealed : State → State → Type 0
AsOrSealed before after = (after ≡ before) ⊎ (after ≡ sealed_state before)

-- there was no memory
pub record WantsMemory (before : State) (reply : Reply) (after : State) : Type 0 where
  pub reply_is : reply ≡ OutOfMemory
  pub state_is : AsOrSealed before after

-- a commit was tried, so that its generation is used up
abbrev pub tried_state : State → State
tried_state state = record state { kept = record state.kept { generation = state.kept.generation + 1 } }

-- the states that a failure of the disk may leave, where so much was needed of it
abbrev pub MayLeave : Need → State → State → Type 0
MayLeave nothing before after = ⊥
MayLeave closing before after = AsOrSealed before after
MayLeave writing before after = AsOrSealed before after ⊎ AsOrSealed (tried_state before) after

-- the disk failed, of which something was needed
pub record DiskFailed (before : State) (need : Need) (reply : Reply) (after : State) : Type 0 where
  pub reply_is : reply ≡ Refused DiskFailure
  pub state_is : MayLeave need before after

-- what may be answered where an outcome is due, and the state that this may leave
abbrev pub MayEnd : State → Outcome → Reply → State → Type 0
MayEnd before outcome reply after = Stepped outcome reply after ⊎ (WantsMemory before reply after ⊎ DiskFailed before outcome.need reply after)

-- each segment that is to be written takes so many bytes, where an action writes any
abbrev pub AreSizesBy : Action → State → List ℕ → Type 0
AreSizesBy (map_body body) before sizes = ⊤
AreSizesBy (write it) before sizes = ⊤
AreSizesBy (search body) before sizes = ⊤
AreSizesBy refresh before sizes = ⊤
AreSizesBy segments before sizes = ⊤
AreSizesBy open_pit before sizes = ⊤
AreSizesBy (close_pit id) before sizes = ⊤
AreSizesBy (force_merge most) before sizes = ⊤
AreSizesBy (start_merge from count) before sizes = ⊤
AreSizesBy (advance_merge id roots) before sizes = ⊤
AreSizesBy (finish_merge id) before sizes = ⊤
AreSizesBy (abort_merge id) before sizes = ⊤
AreSizesBy commit before sizes = AreSizes before.content.mapping (sealed_state before) sizes
AreSizesBy (compact most) before sizes = AreSizes before.content.mapping (sealed_state before) sizes
AreSizesBy trim before sizes = ⊤
AreSizesBy (automerge factor) before sizes = ⊤

abbrev pub AreSizesFor : Asked → State → List ℕ → Type 0
AreSizesFor (refused why) before sizes = ⊤
AreSizesFor (asks action) before sizes = AreSizesBy action before sizes

-- What may be answered to what is asked for, and the state that this may leave. A buffer that found no memory for its segment
-- has no bytes to count.
pub record MayAnswer (limits : Limits) (before : State) (asked : Asked) (reply : Reply) (after : State) : Type 0 where
  pub sizes : List ℕ
  pub are : (reply ≡ OutOfMemory) ⊎ AreSizesFor asked before sizes
  pub may : MayEnd before (step limits sizes before asked) reply after

-- what a request may be answered, and the state that this may leave
abbrev pub MayStep : Limits → State → Request → Reply → State → Type 0
MayStep limits before request reply after = MayAnswer limits before (asked_for request) reply after
