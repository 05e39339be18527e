-- These serve proofs alone: what was read of a file, and the commit that it is.
use Rattle.std.specs.Prelude.{◌≡◌, ℕ, ◌≤◌, Bool, true, false, not, List, [], ◌∷◌, Some}
use Rattle.commit_images.specs.Commits.{Counts, Finds, IsBlank}
use Rattle.commit_store.specs.Known.{StoreState}
use Rattle.commit_store.specs.Saying.{StoreCommit, IsGood, entries_of, extents_of, last_generation, mapping_said}
use Rattle.commit_store.specs.declared.known.KnownSegment.{KnownSegment}
use Rattle.mapping.specs.Mapping.{Mapping}
use Rattle.segment.specs.Live.{EntryState}
use Rattle.store_text.specs.Header.{generation_in, is_open, other}
use Rattle.store_text.specs.declared.header.Header.{Header}
use Rattle.store_text.specs.declared.header.Side.{Side}
use Rattle.store_text.specs.declared.record.RecordText.{RecordText}
use Rattle.store_text.specs.declared.record.Row.{Row}
use Rattle.store_opening.specs.Beginning.{HasHeader}
use Rattle.store_opening.specs.declared.holding.CommitFound.{CommitFound}
use Rattle.store_opening.specs.declared.holding.StoreRead.{StoreRead}
use Rattle.store_opening.specs.declared.holding.StoreRead.TheVariants.{Empty, Blank, Commit}
use Rattle.store_opening.specs.Entries.{IsSaid, extent_in, extents_named}

-- a file begins with a header, and of its slots that of this side counts
pub record LeadsTo (header : Header) (side : Side) (file : List ℕ) : Type 0 where
  pub has : HasHeader header file
  pub counts : Counts side (generation_in side file) file

-- what was read of a commit is this commit
pub record IsOfCommit (at len : ℕ) (it : RecordText) (m : Mapping) (view : List EntryState) (c : StoreCommit) : Type 0 where
  pub old : c.says.old ≡ it.old
  pub mapping : mapping_said c.says ≡ m
  pub next : c.says.next ≡ it.next
  pub entries : entries_of c ≡ view
  pub extents : extents_of c ≡ extents_named at len it

-- the file shows this commit, and the gate of the other slot was read
pub record ShowsCommit (limit : ℕ) (read : CommitFound) (file : List ℕ) : Type 0 where
  pub commit : StoreCommit
  pub finds : Finds (IsGood limit) file commit
  pub side : commit.side ≡ read.side
  pub generation : commit.generation ≡ read.generation
  pub of_commit : IsOfCommit read.at read.len read.commit.record read.commit.mapping read.commit.view commit
  pub shut : read.closed ≡ not (is_open (other read.side) file)

-- what was read is what the file holds
abbrev pub Shows : ℕ → List ℕ → StoreRead → Type 0
Shows limit file Empty = file ≡ []
Shows limit file Blank = IsBlank file
Shows limit file (Commit read) = ShowsCommit limit read file

-- whatever the file holds: what was read of a commit is a commit's
pub record IsCommitWhole (limit : ℕ) (read : CommitFound) : Type 0 where
  pub first : 1 ≤ read.generation
  pub last : read.generation ≤ last_generation
  pub said : IsSaid limit read.at read.len read.commit.record read.commit.mapping read.commit.view
  pub named : read.commit.named.extents ≡ extents_named read.at read.len read.commit.record

abbrev pub IsReadWhole : ℕ → StoreRead → Type 0
IsReadWhole limit Empty = Unit {0}
IsReadWhole limit Blank = Unit {0}
IsReadWhole limit (Commit read) = IsCommitWhole limit read

-- ---- a store of it

-- entries with the extents of their rows
abbrev pub known_rows : List EntryState → List Row → List KnownSegment
known_rows [] rows = []
known_rows (entry ∷ entries) [] = []
known_rows (entry ∷ entries) (row ∷ rows) = record { entry = entry; extent = extent_in row } ∷ known_rows entries rows

-- what is known of the segments of a commit, none of the older form
abbrev pub known_read : Bool → List EntryState → List Row → List KnownSegment
known_read true entries rows = []
known_read false entries rows = known_rows entries rows

-- the store of a commit that was read
abbrev pub store_read : ℕ → Side → ℕ → Bool → ℕ → ℕ → RecordText → List EntryState → StoreState
store_read limit side generation closed at len it view =
    record { limit = limit; side = Some side; known = known_read it.old view it.rows; named = extents_named at len it; tried = generation; closed = closed }
