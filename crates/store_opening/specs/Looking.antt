-- What calls that only look leave of a disk, what they read, and why opening is refused.
use Rattle.std.specs.Prelude.{◌≡◌, ℕ, ◌+◌, ◌<◌, ⊤, Bool, true, false, List, length, take, drop, Option, Result, MatchResult}
use Rattle.io_edges.specs.Faults.{Rose}
use Rattle.disk.specs.Stops.{IsTold, Front, Within, Passes, Lasts}
use Rattle.store_text.specs.Pieces.{Stands}
use Rattle.store_opening.specs.declared.refusal.OpenRefusal.{OpenRefusal}
use Rattle.store_opening.specs.declared.refusal.OpenRefusal.TheVariants.{DiskFault, NotAStore, Damaged, NoMemory}

-- ---- what is left

-- Calls that only look: as far as the file is told, reads give what they gave and the images are those of before; no stop
-- within them leaves anything else, and no earlier image is forgotten.
pub record Looked (old new : Option (List ℕ)) (before after : List ℕ → Type 0) (start end : ℕ) (past since : ℕ → List ℕ → Type 0) : Type 0 where
  pub content : IsTold new → new ≡ old
  pub images : Within after before
  pub allowed : IsTold new → Within before after
  pub time : Passes start end past since before
  pub lasts : IsTold new → Lasts start past since

-- ---- what is read

-- Behind what is done of a piece so many bytes of the file are read, and what is done stays.
pub record ReadsOn (file : List ℕ) (at done count : ℕ) (old new : List ℕ) : Type 0 where
  pub kept : take done new ≡ take done old
  pub front : Front file (at + done) count (drop done new)

-- of a piece of so many bytes from an offset on, one at least, the last is behind the end of the file
pub record IsPastEnd (file : List ℕ) (at len : ℕ) : Type 0 where
  pub some : 0 < len
  pub short : length file < at + len

-- the bytes stand at their offset, or the file ends before their last one
abbrev pub IsRead : List ℕ → ℕ → List ℕ → Bool → Type 0
IsRead file at bytes true = Stands file (record { at = at; bytes = bytes })
IsRead file at bytes false = IsPastEnd file at (length bytes)

-- the bytes are so many, and stand at their offset
pub record IsFound (file : List ℕ) (at len : ℕ) (bytes : List ℕ) : Type 0 where
  pub long : length bytes ≡ len
  pub stands : Stands file (record { at = at; bytes = bytes })

-- ---- refusals

-- a disk failed where the refusal says so, and else no call failed
abbrev pub IsCausedBy : ℕ → ℕ → OpenRefusal → Type 0
IsCausedBy old new DiskFault = Rose old new
IsCausedBy old new NotAStore = new ≡ old
IsCausedBy old new Damaged = new ≡ old
IsCausedBy old new NoMemory = new ≡ old

abbrev pub HasOpenCause : {T : Type 0} → ℕ → ℕ → Result T OpenRefusal → Type 0
HasOpenCause old new result = MatchResult result (λ _. new ≡ old) (IsCausedBy old new)

-- nothing is wrong with the file
abbrev pub IsNoFileFault : OpenRefusal → Type 0
IsNoFileFault DiskFault = ⊤
IsNoFileFault NotAStore = ⊥
IsNoFileFault Damaged = ⊥
IsNoFileFault NoMemory = ⊤

abbrev pub OnlyFaultOrMemory : {T : Type 0} → Result T OpenRefusal → Type 0
OnlyFaultOrMemory result = MatchResult result (λ _. ⊤) IsNoFileFault
