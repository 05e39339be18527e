-- How commands end. It serves contracts of private calls alone.
use Rattle.std.specs.Prelude.{◌≡◌, ◌⊎◌, ◌<◌, ◌≤◌, ◌^◌, ℕ, true, false, List, Result, Ok, Err, IsErr, Some, None, Option, length, unwrap_or}
use Rattle.commit_store.specs.Known.{KeepsStore, StoreState}
use Rattle.commit_store.specs.Saying.{StoreCommit}
use Rattle.disk.specs.Stops.{IsTold}
use Rattle.index_core.specs.Kept.{IndexFits, IndexState, layout_kept}
use Rattle.index_core.specs.Write.{is_refused, next_after, written}
use Rattle.index_core.specs.declared.op.WriteOp.{WriteOp}
use Rattle.layout.specs.Layout.{sealed, with_room}
use Rattle.layout_ids.specs.Ids.{KeepsItems}
use Rattle.machine.specs.Answer.{Answer, Outcome, outcome_of}
use Rattle.machine.specs.May.{AreSizesFor, MayEnd}
use Rattle.machine.specs.State.{State}
use Rattle.machine.specs.Step.{asked_step}
use Rattle.machine.specs.Write.{change_or_nothing, live_tree}
use Rattle.machine.specs.declared.limits.Limits.{Limits}
use Rattle.mapping.specs.Growth.{HasFurtherBodies}
use Rattle.mapping.specs.IsMapping.{IsMapping}
use Rattle.mapping.specs.Mapping.{Mapping}
use Rattle.point_in_time.specs.Points.{KeptPoints}
use Rattle.reply_text.specs.Text.{line_of, reply_text}
use Rattle.reply_text.specs.declared.refusal.Refusal.{Refusal}
use Rattle.reply_text.specs.declared.refusal.Refusal.TheVariants.{IndexFull}
use Rattle.reply_text.specs.declared.reply.Reply.{Reply}
use Rattle.reply_text.specs.declared.reply.Reply.TheVariants as reply
use Rattle.reply_text.specs.declared.reply.Reply.TheVariants.{OutOfMemory}
use Rattle.request_form.specs.Asked.{Asked}
use Rattle.request_form.specs.Command.{Changes, Operation, update, delete, Action, Write, automerge, force_merge, search, write}
use Rattle.request_form.specs.Formed.{IsFactor, IsFormed}
use Rattle.search_form.specs.Form.{is_search_body}
use Rattle.store_commands.specs.declared.not_done.NotDone.{NotDone}
use Rattle.store_commands.specs.declared.not_done.NotDone.TheVariants as not_done
use Rattle.store_compact.specs.Compacting.{kept_of}
use Rattle.tree_json.specs.Value.{JsonValue}
use Rattle.engine.specs.Answers.{Answers, IfNotDone, answered_by, reply_bytes}
use Rattle.index_trees.specs.Faithful.{AreFaithful, PointsStandFor}
use Rattle.engine.specs.Kept.{EngineState, IsIndexOf}
use Rattle.engine.specs.Storing.{HasDiskCause, StoreTurn, is_tried}
use Rattle.engine.specs.declared.engine.Answered.{Answered}
use Rattle.engine.specs.declared.engine.Answered.TheVariants as answered
use Rattle.engine.specs.declared.no_memory.NoMemory as memory
use Rattle.engine.specs.declared.reply.Ended.{Ended}
use Rattle.engine.specs.declared.reply.Ended.TheVariants.{Accepted, Refused}

abbrev pub answered_of : Result Ended memory.NoMemory → Answered
answered_of (Ok Accepted) = answered.Written
answered_of (Ok Refused) = answered.Refused
answered_of (Err none) = answered.NoMemory

-- How a command ends that leaves the points in time and the store as they are: a reply that may be given is written, and the
-- mapping and the index are faithful to the state afterwards.
pub record Ends (before : State) (outcome : Outcome) (answered : Answered) (out : List ℕ) (mapping : Option Mapping) (index : IndexState) : Type 0 where
  pub reply : Reply
  pub after : State
  pub may : MayEnd before outcome reply after
  pub faithful : AreFaithful mapping index after
  pub points : after.points ≡ before.points
  pub kept : after.kept ≡ before.kept
  pub told : answered ≡ answered_by reply
  pub text : reply_bytes answered out ≡ reply_text reply

-- and one that may change the points in time
pub record EndsWith (before : State) (outcome : Outcome) (answered : Answered) (out : List ℕ) (mapping : Option Mapping) (index : IndexState) (points : KeptPoints) : Type 0 where
  pub reply : Reply
  pub after : State
  pub may : MayEnd before outcome reply after
  pub faithful : AreFaithful mapping index after
  pub stand : PointsStandFor mapping points after.points
  pub kept : after.kept ≡ before.kept
  pub told : answered ≡ answered_by reply
  pub text : reply_bytes answered out ≡ reply_text reply

-- What is asked for is answered, over a disk of which these are the images, the moments and the count of faults before and
-- behind.
pub record AnswersAsked (limits : Limits) (before : State) (asked : Asked) (answered : Answered) (out : List ℕ) (stored : StoreState) (engine : EngineState)
    (content' : Option (List ℕ)) (image image' : List ℕ → Type 0) (from to : ℕ) (past since : ℕ → List ℕ → Type 0) (faults faults' : ℕ) : Type 0 where
  pub sizes : List ℕ
  pub answers : Answers before (outcome_of before (asked_step limits sizes asked before)) answered out engine
  pub are : (answers.reply ≡ reply.OutOfMemory) ⊎ AreSizesFor asked before sizes
  pub stores : IsTold content' → (found : Option StoreCommit) → KeepsStore stored found image
      → StoreTurn (is_tried asked) answers.reply answers.after.content engine.stored image image' from to past since
  pub cause : HasDiskCause answers.reply faults faults'

-- How a command of the store ends, over such a disk: what it leaves is faithful to the state afterwards, and the store keeps what
-- that keeps.
pub record EndsStored (limits : Limits) (before : State) (asked : Asked) (answered : Answered) (out : List ℕ) (mapping : Option Mapping) (index : IndexState) (stored stored' : StoreState)
    (content' : Option (List ℕ)) (image image' : List ℕ → Type 0) (from to : ℕ) (past since : ℕ → List ℕ → Type 0) (faults faults' : ℕ) : Type 0 where
  pub sizes : List ℕ
  pub reply : Reply
  pub after : State
  pub may : MayEnd before (outcome_of before (asked_step limits sizes asked before)) reply after
  pub faithful : AreFaithful mapping index after
  pub points : after.points ≡ before.points
  pub kept : after.kept ≡ kept_of stored'
  pub told : answered ≡ answered_by reply
  pub text : reply_bytes answered out ≡ reply_text reply
  pub are : (reply ≡ OutOfMemory) ⊎ AreSizesFor asked before sizes
  pub stores : IsTold content' → (found : Option StoreCommit) → KeepsStore stored found image
      → StoreTurn (is_tried asked) reply after.content stored' image image' from to past since
  pub cause : HasDiskCause reply faults faults'

-- a mapping has further bodies behind its own
pub record HasGrown (m m' : Mapping) : Type 0 where
  pub before : IsMapping m
  pub after : IsMapping m'
  pub further : HasFurtherBodies m m'

-- it stays as it is, or grows
abbrev pub Grows : Mapping → Mapping → Type 0
Grows m m' = (m' ≡ m) ⊎ HasGrown m m'

-- what becomes of it where there may be none yet
abbrev pub GrowsFrom : Option Mapping → Option Mapping → Type 0
GrowsFrom None later = Unit {0}
GrowsFrom (Some m) None = ⊥
GrowsFrom (Some m) (Some m') = Grows m m'

-- the mapping and the index are as they were, or the buffer is sealed
pub record IndexStays (mapping mapping' : Option Mapping) (index index' : IndexState) : Type 0 where
  pub same : mapping' ≡ mapping
  pub next : index'.next ≡ index.next
  pub layout : (layout_kept index' ≡ layout_kept index) ⊎ (layout_kept index' ≡ sealed (layout_kept index))

-- the index stays one of the mapping, its segments keep their items, and where the command wasn't done all is as it was, or sealed
pub record Leaves (answered : Answered) (mapping mapping' : Option Mapping) (m' : Mapping) (index index' : IndexState) : Type 0 where
  pub kept : IsIndexOf m' index'
  pub objects : index'.objects ≡ index.objects
  pub items : KeepsItems (layout_kept index) (layout_kept index')
  pub stays : IfNotDone answered (IndexStays mapping mapping' index index')

-- a refusal was written, or there was no memory
abbrev pub IsRefusal : Refusal → Result Ended memory.NoMemory → List ℕ → Type 0
IsRefusal refusal (Ok Accepted) out = ⊥
IsRefusal refusal (Ok Refused) out = out ≡ reply_text (reply.Refused refusal)
IsRefusal refusal (Err none) out = Unit {0}

-- a reply to what was done was written, or there was no memory
abbrev pub IsAcceptance : Reply → Result Ended memory.NoMemory → List ℕ → Type 0
IsAcceptance given (Ok Accepted) out = out ≡ reply_text given
IsAcceptance given (Ok Refused) out = ⊥
IsAcceptance given (Err none) out = Unit {0}

-- the reply to a command of the store was written, or why that wasn't done; or there was no memory
abbrev pub IsReported : Result Reply NotDone → Result Ended memory.NoMemory → List ℕ → Type 0
IsReported (Ok given) result out = (result ≡ Ok Accepted) × (out ≡ reply_text given)
IsReported (Err (not_done.Refused why)) result out = (result ≡ Ok Refused) × (out ≡ reply_text (reply.Refused why))
IsReported (Err not_done.NoMemory) result out = IsErr result

-- a reply that was made, or none where its line is longer than the limit
abbrev pub IsHeld : Limits → Reply → Option Reply → Type 0
IsHeld limits given (Some made) = made ≡ given
IsHeld limits given None = limits.reply_bytes < length (line_of given)

-- a change was made
pub record IsMade (op : WriteOp) (index index' : IndexState) : Type 0 where
  pub taken : is_refused op index ≡ false
  pub layout : layout_kept index' ≡ written op index
  pub next : index'.next ≡ next_after op index

-- or it wasn't, as the index is full
pub record IsFull (op : WriteOp) (index index' : IndexState) (out' : List ℕ) : Type 0 where
  pub full : is_refused op index ≡ true
  pub same : index' ≡ index
  pub text : out' ≡ reply_text (reply.Refused IndexFull)

-- or there was no memory: a full buffer may be sealed, and what is kept fits each mapping that it has fitted
pub record IsLacking (index index' : IndexState) : Type 0 where
  pub next : index'.next ≡ index.next
  pub layout : (layout_kept index' ≡ layout_kept index) ⊎ (layout_kept index' ≡ with_room (layout_kept index))
  pub fits : (m : Mapping) → IsMapping m → IndexFits m index → IndexFits m index'

-- what became of a change, and of the reply that was written before it
abbrev pub IsChanged : Result Ended memory.NoMemory → WriteOp → IndexState → IndexState → List ℕ → List ℕ → Type 0
IsChanged (Ok Accepted) op index index' out out' = IsMade op index index' × (out' ≡ out)
IsChanged (Ok Refused) op index index' out out' = IsFull op index index' out'
IsChanged (Err none) op index index' out out' = IsLacking index index'

-- the mapping afterwards, which grows where the change was made
abbrev pub mapping_put : Result Ended memory.NoMemory → Mapping → Option Mapping → Mapping
mapping_put (Ok Accepted) m grown = unwrap_or grown m
mapping_put (Ok Refused) m grown = m
mapping_put (Err none) m grown = m

-- what an update and a delete do of which nothing is refused early
abbrev pub later_step : Limits → Mapping → List ℕ → Operation → State → Answer
later_step limits m id operation state =
    change_or_nothing limits m (record { target = record { id = id; index = None; if_seq_no = None }; operation = operation }) (live_tree id state.content.live) state

abbrev pub update_step : Limits → Mapping → List ℕ → Changes → State → Answer
update_step limits m id changes state = later_step limits m id (update changes) state

abbrev pub delete_step : Limits → Mapping → List ℕ → State → Answer
delete_step limits m id state = later_step limits m id delete state

-- this refusal was written, where there is one, or there was no memory
abbrev pub IsRefusedAs : Option Refusal → Result Ended memory.NoMemory → List ℕ → Type 0
IsRefusedAs None result out = IsErr result
IsRefusedAs (Some refusal) result out = IsRefusal refusal result out

-- fewer points in time were opened than requests were handed, of which there are not too many
pub record IsCounted (kept : EngineState) : Type 0 where
  pub opened : kept.points.opened < kept.calls
  pub calls : kept.calls ≤ 2 ^ 50

-- what holds of everything that is asked for
pub record IsActionFormed (action : Action) : Type 0 where
  pub writes : (it : Write) → action ≡ write it → IsFormed it
  pub searches : (body : JsonValue) → action ≡ search body → is_search_body body ≡ true
  pub forces : (most : ℕ) → action ≡ force_merge most → 0 < most
  pub factors : (factor : ℕ) → action ≡ automerge (Some factor) → IsFactor factor
