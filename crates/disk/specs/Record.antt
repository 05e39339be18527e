-- The record of a disk in memory: the calls on it in order, and what they make of its content and of its images.
use Rattle.std.specs.Prelude.{◌≡◌, ℕ, ◌+◌, ◌==◌, ◌≤◌, min, cond, Bool, true, false, IsTrue, ◌⊎◌, List, [], ◌∷◌, ◌++◌, length, take, Option, None, Some, Result, OnOk, OnErr}
use Rattle.io_edges.specs.Calls.{is_listed, one_more}
use Rattle.io_edges.specs.Faults.{greatest_count}
use Rattle.disk.specs.Memory.{written}
use Rattle.disk.specs.Stops.{Torn, Cut as MayCut}
use Rattle.disk.specs.declared.disk_call.DiskCall.{DiskCall}
use Rattle.disk.specs.declared.disk_call.DiskCall.TheVariants.{Look, Write, Cut, Sync}

-- ---- a file with its record

-- a file: its bytes before the first call, and the calls
pub record FileRecord : Type 0 where
  pub first : List ℕ
  pub calls : List DiskCall

abbrev pub with_call : DiskCall → FileRecord → FileRecord
with_call call file = record file { calls = file.calls ++ call ∷ [] }

-- what a call leaves to be read; one that wasn't done leaves what was there
abbrev pub content_step : DiskCall → List ℕ → List ℕ
content_step Look bytes = bytes
content_step (Write at new done) bytes = cond done (written at new bytes) bytes
content_step (Cut len done) bytes = cond done (take len bytes) bytes
content_step Sync bytes = bytes

abbrev pub content_after : List DiskCall → List ℕ → List ℕ
content_after [] bytes = bytes
content_after (call ∷ calls) bytes = content_after calls (content_step call bytes)

-- Which bytes a stop may leave behind a call, from what a read gave before it and which bytes a stop might have left then. A
-- write counts as torn and a cut as begun also where they weren't done.
abbrev pub image_step : DiskCall → List ℕ → (List ℕ → Type 0) → List ℕ → Type 0
image_step Look bytes images image = images image
image_step (Write at new done) bytes images image = (before : List ℕ) × images before × Torn at (length new) before image
image_step (Cut len done) bytes images image = (before : List ℕ) × images before × MayCut len before image
image_step Sync bytes images image = image ≡ bytes

abbrev pub images_after : List DiskCall → List ℕ → (List ℕ → Type 0) → List ℕ → Type 0
images_after [] bytes images image = images image
images_after (call ∷ calls) bytes images image = images_after calls (content_step call bytes) (image_step call bytes images) image

-- what a read gives behind all calls
abbrev pub content_of : FileRecord → List ℕ
content_of file = content_after file.calls file.first

-- what a stop behind all calls may leave; before the first call that is what a read gives
abbrev pub ImageOf : FileRecord → List ℕ → Type 0
ImageOf file image = images_after file.calls file.first (λ it. it ≡ file.first) image

-- the file as it was behind so many calls
abbrev pub after_calls : ℕ → FileRecord → FileRecord
after_calls count file = record file { calls = take count file.calls }

-- what a stop might have left behind so many calls or more
pub record ImageSince (file : FileRecord) (moment : ℕ) (image : List ℕ) : Type 0 where
  pub count : ℕ
  pub from : moment ≤ count
  pub until : count ≤ length file.calls
  pub is : ImageOf (after_calls count file) image

-- ---- a disk

-- which calls are to fail, the number of the next one, and how many of these were made
pub record CallCount : Type 0 where
  pub fails : List ℕ
  pub call : ℕ
  pub failed : ℕ

abbrev pub counted_call : CallCount → CallCount
counted_call count = record count {
  call = one_more count.call;
  failed = cond (is_listed count.fails count.call) (one_more count.failed) count.failed;
}

-- a disk in memory; `no_room` counts the calls that found no memory
pub record DiskState : Type 0 where
  pub file : FileRecord
  pub count : CallCount
  pub no_room : ℕ

-- whether the next call is to fail
abbrev pub is_next_listed : DiskState → Bool
is_next_listed disk = is_listed disk.count.fails disk.count.call

-- the calls that failed: the listed ones, and those that found no memory
abbrev pub faults_of : DiskState → ℕ
faults_of disk = min (disk.count.failed + disk.no_room) greatest_count

-- a disk that found no memory for a call tells nothing from then on, since its record lacks that call
abbrev pub is_telling : DiskState → Bool
is_telling disk = disk.no_room == 0

abbrev pub told_by : Bool → List ℕ → Option (List ℕ)
told_by telling bytes = cond telling (Some bytes) None

abbrev pub content_told : DiskState → Option (List ℕ)
content_told disk = told_by (is_telling disk) (content_of disk.file)

abbrev pub ImageTold : DiskState → List ℕ → Type 0
ImageTold disk image = IsTrue (is_telling disk) × ImageOf disk.file image

abbrev pub moment_of : DiskState → ℕ
moment_of disk = length disk.file.calls

abbrev pub SinceTold : DiskState → ℕ → List ℕ → Type 0
SinceTold disk moment image = IsTrue (is_telling disk) × ImageSince disk.file moment image

-- after a call that is in the record
abbrev pub after_call : DiskCall → DiskState → DiskState
after_call call disk = record disk { file = with_call call disk.file; count = counted_call disk.count }

-- after a call that found no memory, for its bytes or for the record: the file and its record stay as they were
abbrev pub after_no_room : DiskState → DiskState
after_no_room disk = record disk { count = counted_call disk.count; no_room = one_more disk.no_room }

-- One call: it fails where it is listed, and is then in the record as failed, and else only where it found no memory.
pub record Turns {T E : Type 0} (done failed : DiskCall) (old new : DiskState) (result : Result T E) : Type 0 where
  pub ok : OnOk result ((is_next_listed old ≡ false) × (new ≡ after_call done old))
  pub err : OnErr result (((is_next_listed old ≡ true) × (new ≡ after_call failed old)) ⊎ (new ≡ after_no_room old))
