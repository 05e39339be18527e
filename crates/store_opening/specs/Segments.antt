-- Segments that stand in a file, in the form that is written or in that from before mappings grew.
use Rattle.std.specs.Prelude.{◌≡◌, ℕ, ◌+◌, ◌<◌, ◌↔◌, Bool, true, false, List, length, slice_index_or, Contains}
use Rattle.std.specs.List.{All}
use Rattle.extent_pool.specs.declared.extent.Extent.{Extent}
use Rattle.segment.specs.Encoding.{IsEncoding}
use Rattle.segment.specs.Live.{LiveState, IsLiveOver}
use Rattle.segment.specs.Old.{IsOldEncoding}
use Rattle.segment_parts.specs.declared.columns.Columns.{Columns}
use Rattle.segment_codec.specs.declared.CodecRefusal.{CodecRefusal}
use Rattle.segment_codec.specs.declared.CodecRefusal.TheVariants.{NotASegment, NoMemory as NoRoom}
use Rattle.store_opening.specs.declared.refusal.OpenRefusal.{OpenRefusal}
use Rattle.store_opening.specs.declared.refusal.OpenRefusal.TheVariants.{Damaged, NoMemory}
use Rattle.store_opening.specs.Looking.{IsFound}

-- bytes from before mappings grew, with so many scopes
pub record IsOldText (scope_count : ℕ) (columns : Columns) (bytes : List ℕ) : Type 0 where
  pub encoding : IsOldEncoding columns bytes
  pub scopes : length columns.scopes + encoding.more ≡ scope_count

-- the bytes of a segment of either form
abbrev pub IsSegmentText : Bool → ℕ → Columns → List ℕ → Type 0
IsSegmentText true scope_count columns bytes = IsOldText scope_count columns bytes
IsSegmentText false scope_count columns bytes = IsEncoding columns bytes

-- bytes of a segment stand at an extent
pub record HasSegment (old : Bool) (scope_count : ℕ) (extent : Extent) (columns : Columns) (file : List ℕ) : Type 0 where
  pub bytes : List ℕ
  pub found : IsFound file extent.at extent.len bytes
  pub is : IsSegmentText old scope_count columns bytes

-- bytes of so many are those of the columns, in either form
pub record HasText (old : Bool) (scope_count len : ℕ) (columns : Columns) : Type 0 where
  pub bytes : List ℕ
  pub long : length bytes ≡ len
  pub is : IsSegmentText old scope_count columns bytes

-- bytes that are no segment's are damage
abbrev pub refusal_of : CodecRefusal → OpenRefusal
refusal_of NotASegment = Damaged
refusal_of NoRoom = NoMemory

-- the live bits of a segment of whose roots those of these indexes are dead
pub record AreDead (columns : Columns) (live : LiveState) (dead : List ℕ) : Type 0 where
  pub over : IsLiveOver columns live
  pub inside : All (λ (root : ℕ). root < length columns.roots) dead
  pub are : (root : ℕ) → root < length columns.roots → (slice_index_or live.roots root false ≡ false) ↔ Contains dead root

-- bytes of one form, with so many scopes, are those of one segment at most
abbrev pub AreOnce : Type 0
AreOnce = (old : Bool) (scope_count : ℕ) (one other : Columns) (bytes : List ℕ) → IsSegmentText old scope_count one bytes → IsSegmentText old scope_count other bytes → one ≡ other
