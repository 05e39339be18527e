-- What the rows of a record name: segments in a file, as entries of a view.
use Rattle.std.specs.Prelude.{◌≡◌, ℕ, ◌+◌, ◌≤◌, Bool, List, [], ◌∷◌, length, map}
use Rattle.commit_store.specs.Saying.{AreExtents}
use Rattle.extent_pool.specs.declared.extent.Extent.{Extent}
use Rattle.flattener.specs.Fits.{SegmentFits}
use Rattle.index_core.specs.Kept.{AreBlocks, laid, made_by, last_number}
use Rattle.mapping.specs.Mapping.{Mapping}
use Rattle.segment.specs.Live.{EntryState}
use Rattle.segment_fits.specs.Sources.{AreReadBack}
use Rattle.store_text.specs.Record.{IsRecord}
use Rattle.store_text.specs.declared.record.RecordText.{RecordText}
use Rattle.store_text.specs.declared.record.Row.{Row}
use Rattle.store_opening.specs.Read.{HasRecord, IsMappingOf}
use Rattle.store_opening.specs.Segments.{AreDead, HasSegment, HasText}

-- ---- a row

abbrev pub extent_in : Row → Extent
extent_in row = record { at = row.at; len = row.len }

-- Whatever the file holds: an entry is that of a row, under an id. Its segment is as long as the row says and one that the
-- mapping can have made, its sources are read back, and its dead roots are those of the row.
pub record IsEntryOf (m : Mapping) (old : Bool) (id : ℕ) (row : Row) (entry : EntryState) : Type 0 where
  pub id_is : entry.id ≡ id
  pub text : HasText old (length m.scopes) row.len entry.columns
  pub dead : AreDead entry.columns entry.live row.dead
  pub fits : SegmentFits m entry.columns
  pub read : AreReadBack entry.columns

-- the bytes of its segment stand in the file where the row says
abbrev pub StandsFor : Bool → ℕ → List ℕ → ℕ → Row → EntryState → Type 0
StandsFor old scope_count file id row entry = HasSegment old scope_count (extent_in row) entry.columns file

-- ---- all rows

-- each entry is related to its row, and numbered in order
abbrev pub AreNumbered : (ℕ → Row → EntryState → Type 0) → ℕ → List Row → List EntryState → Type 0
AreNumbered Is id [] [] = Unit {0}
AreNumbered Is id [] (entry ∷ entries) = ⊥
AreNumbered Is id (row ∷ rows) [] = ⊥
AreNumbered Is id (row ∷ rows) (entry ∷ entries) = Is id row entry × AreNumbered Is (id + 1) rows entries

-- ---- a record

-- the extents that a commit names, that of its record first
abbrev pub extents_named : ℕ → ℕ → RecordText → List Extent
extents_named at len it = record { at = at; len = len } ∷ map extent_in it.rows

-- Whatever the file holds: a record of this place and length, and its mapping, are those of a commit.
pub record IsHead (limit at len : ℕ) (it : RecordText) (m : Mapping) : Type 0 where
  pub numbers : IsRecord it
  pub next : it.next ≤ last_number
  pub places : AreExtents limit (extents_named at len it)
  pub mapping : IsMappingOf it.bodies it.dynamic m

-- and so are the entries of its rows
pub record IsSaid (limit at len : ℕ) (it : RecordText) (m : Mapping) (view : List EntryState) : Type 0 where
  pub head : IsHead limit at len it m
  pub entries : AreNumbered (IsEntryOf m it.old) 0 it.rows view
  pub blocks : AreBlocks (laid view [] (made_by view)) it.next

-- the record and the segments of its rows stand in the file
pub record StandsSaid (at len : ℕ) (it : RecordText) (m : Mapping) (view : List EntryState) (file : List ℕ) : Type 0 where
  pub record_stands : HasRecord at len it file
  pub segments : AreNumbered (StandsFor it.old (length m.scopes) file) 0 it.rows view
