-- A session that begins, and one that goes on: what was read, answered, written and stored so far. It serves private calls and the
-- proofs alone.
use Rattle.std.specs.Prelude.{◌≡◌, ℕ, ◌+◌, ◌≤◌, min, List, Option}
use Rattle.std.specs.Io.KnownBytes.{Appends}
use Rattle.commit_store.specs.Known.{StoreState, KeepsStore}
use Rattle.commit_store.specs.Saying.{StoreCommit}
use Rattle.disk.specs.Stops.{IsTold, Only}
use Rattle.io_edges.specs.Faults.{Rose, greatest_count}
use Rattle.line_reader.specs.Given.{HasGiven}
use Rattle.line_reader.specs.Seen.{InputState}
use Rattle.engine.specs.Faithful.{IsFaithful}
use Rattle.engine.specs.Kept.{EngineState}
use Rattle.machine.specs.State.{State}
use Rattle.machine.specs.declared.limits.Limits.{Limits}
use Rattle.line_engine.specs.Run.{disk_failures}
use Rattle.line_engine.specs.Stopping.{DiskState, Stores}
use Rattle.line_engine.specs.Turns.{Turn, IsChain, last_state, requests_of, text_of}
use Rattle.line_engine.specs.declared.status.Status.{Status}
use Rattle.line_engine.specs.declared.status.Status.TheVariants.{Done, BadWords, ReadFault, WriteFault, DiskFault, NotAStore, Damaged, SessionLimit, NoMemory}

-- The store has a last commit, or none, which all images keep, and a stop leaves the content of a commit.
pub record KeepsStored (limit : ℕ) (start : State) (turns : List Turn) (stored : StoreState) (disk disk' : DiskState) : Type 0 where
  pub found : Option StoreCommit
  pub keeps : KeepsStore stored found disk'.image
  pub opened : ℕ
  pub within : disk.moment ≤ opened
  pub stores : Stores limit start turns opened disk'

-- The engine is faithful to the state that these turns lead to, and so is the store. `disk` is the disk as the call began.
pub record IsUpTo (limits : Limits) (start : State) (turns : List Turn) (engine : EngineState) (disk disk' : DiskState) : Type 0 where
  pub faithful : IsFaithful engine (last_state start turns)
  pub within : engine.limits ≡ limits
  pub limit : engine.stored.limit ≡ limits.store_bytes
  pub stored : IsTold disk'.content → Only disk.content disk.image → KeepsStored limits.store_bytes start turns engine.stored disk disk'
  pub failures : min (disk.faults + disk_failures turns) greatest_count ≤ disk'.faults

-- The requests that were given are answered, and the engine and the store stand for the state that this leads to.
pub record Served (limits : Limits) (start : State) (left left' taken taken' : Option (List ℕ)) (disk disk' : DiskState) (input : InputState) (engine : EngineState) : Type 0 where
  pub turns : List Turn
  pub given : HasGiven limits.session_bytes left left' input (requests_of turns)
  pub chain : IsChain limits start turns
  pub stands : IsUpTo limits start turns engine disk disk'
  pub written : Appends taken taken' (text_of turns)

-- what the disk's count of faults tells where no session begins
abbrev pub IsUnbegun : Status → ℕ → ℕ → Type 0
IsUnbegun Done faults faults' = ⊥
IsUnbegun BadWords faults faults' = ⊥
IsUnbegun ReadFault faults faults' = ⊥
IsUnbegun WriteFault faults faults' = ⊥
IsUnbegun DiskFault faults faults' = Rose faults faults'
IsUnbegun NotAStore faults faults' = faults' ≡ faults
IsUnbegun Damaged faults faults' = faults' ≡ faults
IsUnbegun SessionLimit faults faults' = ⊥
IsUnbegun NoMemory faults faults' = faults' ≡ faults
