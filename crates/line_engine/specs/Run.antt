-- What a call of `serve` leaves read, written and stored.
use Rattle.std.specs.Prelude.{◌≡◌, ◌<◌, ◌≤◌, ℕ, ◌+◌, min, Bool, true, false, List, [], ◌∷◌, ◌++◌, length, Option, Some, ⊤}
use Rattle.std.specs.List.{count_by}
use Rattle.std.specs.Io.KnownBytes.{Appends, Keeps}
use Rattle.commit_store.specs.Saying.{StoreCommit, Found}
use Rattle.disk.specs.Stops.{IsTold, Only}
use Rattle.io_edges.specs.Faults.{Rose, greatest_count}
use Rattle.line_reader.specs.Request.{Request}
use Rattle.line_reader.specs.Given.{ReadsAll, ReadsWhole, ReadsToLimit, ReadsFirst}
use Rattle.machine.specs.State.{State}
use Rattle.machine.specs.declared.limits.Limits.{Limits}
use Rattle.reply_text.specs.Text.{reply_text}
use Rattle.reply_text.specs.declared.refusal.Refusal.TheVariants.{DiskFailure}
use Rattle.reply_text.specs.declared.reply.Reply.{Reply}
use Rattle.reply_text.specs.declared.reply.Reply.TheVariants.{Refused}
use Rattle.store_opening.specs.Beginning.{IsOther}
use Rattle.store_text.specs.Header.{magic}
use Rattle.store_text.specs.Pieces.{Stands}
use Rattle.line_engine.specs.Stopping.{DiskState, Stores}
use Rattle.line_engine.specs.Turns.{Turn, MayRun, text_of}
use Rattle.line_engine.specs.declared.status.Status.{Status}
use Rattle.line_engine.specs.declared.status.Status.TheVariants.{Done, BadWords, ReadFault, WriteFault, DiskFault, NotAStore, Damaged, SessionLimit, NoMemory}

-- Below, `left` and `left'` are the bytes that the source has before and after a call, where it tells them, and
-- `taken` and `taken'` those that the sink has taken.

-- the sink took a part of the piece that isn't all of it
pub record TakesPart (taken taken' : Option (List ℕ)) (piece : List ℕ) : Type 0 where
  pub part : List ℕ
  pub rest : List ℕ
  pub parts : piece ≡ part ++ rest
  pub some : 0 < length rest
  pub written : Appends taken taken' part

-- Writing the last reply failed: the sink has taken the others, and of the last a part that isn't all of it.
pub record WritesPart (taken taken' : Option (List ℕ)) (turns : List Turn) : Type 0 where
  pub answered : List Turn
  pub last : Turn
  pub parts : turns ≡ answered ++ last ∷ []
  pub part : List ℕ
  pub rest : List ℕ
  pub text : reply_text last.reply ≡ part ++ rest
  pub some : 0 < length rest
  pub written : Appends taken taken' (text_of answered ++ part)

-- Which requests a session has read, by the status that it ends with. The statuses marked by ⊥ never come where the file may be
-- opened.
abbrev pub HasRead : Status → ℕ → Option (List ℕ) → Option (List ℕ) → List Request → Type 0
HasRead Done most left left' requests = ReadsAll most left left' requests
HasRead ReadFault most left left' requests = ReadsWhole most left left' requests
HasRead WriteFault most left left' requests = ReadsFirst most left left' requests
HasRead SessionLimit most left left' requests = ReadsToLimit most left left' requests
HasRead NoMemory most left left' requests = (requests ≡ []) × Keeps left left'
HasRead BadWords most left left' requests = ⊥
HasRead DiskFault most left left' requests = (requests ≡ []) × Keeps left left'
HasRead NotAStore most left left' requests = ⊥
HasRead Damaged most left left' requests = ⊥

-- what it has written
abbrev pub HasWritten : Status → Option (List ℕ) → Option (List ℕ) → List Turn → Type 0
HasWritten Done taken taken' turns = Appends taken taken' (text_of turns)
HasWritten ReadFault taken taken' turns = Appends taken taken' (text_of turns)
HasWritten WriteFault taken taken' turns = WritesPart taken taken' turns
HasWritten SessionLimit taken taken' turns = Appends taken taken' (text_of turns)
HasWritten NoMemory taken taken' turns = Keeps taken taken'
HasWritten BadWords taken taken' turns = ⊥
HasWritten DiskFault taken taken' turns = Keeps taken taken'
HasWritten NotAStore taken taken' turns = ⊥
HasWritten Damaged taken taken' turns = ⊥

-- What a stop leaves of the store, by the same turns: as far as the disk tells its bytes, and where a stop at the call's begin
-- would have left what a read gave.
pub record LeavesStore (limit : ℕ) (start : State) (turns : List Turn) (disk disk' : DiskState) : Type 0 where
  pub opened : ℕ
  pub within : disk.moment ≤ opened
  pub stores : Stores limit start turns opened disk'

-- the disk failed, and a file without bytes was to be prepared as a store
abbrev pub FailsAtNew : Status → DiskState → Type 0
FailsAtNew status disk = (status ≡ DiskFault) × (disk.content ≡ Some [])

-- the reply tells that the disk failed
abbrev pub is_disk_failure : Reply → Bool
is_disk_failure (Refused DiskFailure) = true
is_disk_failure reply = false

abbrev pub disk_failures : List Turn → ℕ
disk_failures turns = count_by (λ (turn : Turn). is_disk_failure turn.reply) turns

-- A session that ended with this status: the requests that were read are answered by a run of the machine, the replies are what was
-- written, and a stop leaves the content of a commit of that run. The disk failed once at least for each reply that tells so.
pub record Serves (status : Status) (limits : Limits) (start : State) (left left' taken taken' : Option (List ℕ)) (disk disk' : DiskState) : Type 0 where
  pub requests : List Request
  pub turns : List Turn
  pub run : MayRun limits start requests turns
  pub reads : HasRead status limits.session_bytes left left' requests
  pub writes : HasWritten status taken taken' turns
  pub stores : IsTold disk'.content → Only disk.content disk.image → (FailsAtNew status disk → ⊥) → LeavesStore limits.store_bytes start turns disk disk'
  pub failures : min (disk.faults + disk_failures turns) greatest_count ≤ disk'.faults

-- ---- which status

-- The bytes begin as a store's, and hold no good commit, nor are they a store that has none.
pub record IsDamaged (limit : ℕ) (bytes : List ℕ) : Type 0 where
  pub begins : Stands bytes magic
  pub none : (found : Option StoreCommit) → Found limit bytes found → ⊥

-- The file holds a commit, or none yet.
pub record IsStored (limit : ℕ) (bytes : List ℕ) : Type 0 where
  pub found : Option StoreCommit
  pub holds : Found limit bytes found

-- What the bytes of the file are that ends `serve` with this status.
abbrev pub IsFileFor : Status → ℕ → List ℕ → Type 0
IsFileFor Done limit bytes = IsStored limit bytes
IsFileFor BadWords limit bytes = ⊥
IsFileFor ReadFault limit bytes = IsStored limit bytes
IsFileFor WriteFault limit bytes = IsStored limit bytes
IsFileFor DiskFault limit bytes = ⊤
IsFileFor NotAStore limit bytes = IsOther bytes
IsFileFor Damaged limit bytes = IsDamaged limit bytes
IsFileFor SessionLimit limit bytes = IsStored limit bytes
IsFileFor NoMemory limit bytes = ⊤

-- whether requests were asked for before a session ended so
abbrev pub has_begun : Status → Bool
has_begun Done = true
has_begun BadWords = false
has_begun ReadFault = true
has_begun WriteFault = true
has_begun DiskFault = false
has_begun NotAStore = false
has_begun Damaged = false
has_begun SessionLimit = true
has_begun NoMemory = false

-- how many calls failed on the source, on the sink and on the disk
pub record Counts : Type 0 where
  pub source : ℕ
  pub sink : ℕ
  pub disk : ℕ

-- A fault is answered only where the count of that object rose. The counts of source and sink stay but for that; the disk
-- may fail under a request that is answered so, and then the session goes on.
abbrev pub IsCaused : Status → Counts → Counts → Type 0
IsCaused Done before after = (after.source ≡ before.source) × (after.sink ≡ before.sink)
IsCaused BadWords before after = after ≡ before
IsCaused ReadFault before after = Rose before.source after.source × (after.sink ≡ before.sink)
IsCaused WriteFault before after = Rose before.sink after.sink × (after.source ≡ before.source)
IsCaused DiskFault before after = Rose before.disk after.disk × (after.source ≡ before.source) × (after.sink ≡ before.sink)
IsCaused NotAStore before after = after ≡ before
IsCaused Damaged before after = after ≡ before
IsCaused SessionLimit before after = (after.source ≡ before.source) × (after.sink ≡ before.sink)
IsCaused NoMemory before after = after ≡ before
