-- Where a commit puts what it writes, and where a compaction moves what stands: the first hole that has room, always.
use Rattle.std.specs.Prelude.{ℕ, zero, suc, cond, nat_lt, List, [], ◌∷◌, ◌++◌, Option, None, Some}
use Rattle.extent_pool.specs.declared.extent.Extent.{Extent}
use Rattle.extent_pool.specs.Holes.{holes_of, first_fit}

-- the extent of this length that begins at the first place with room for it, below the limit and beside what is taken
abbrev pub fit : ℕ → List Extent → ℕ → Option Extent
fit limit taken len = first_fit len (holes_of limit taken)

-- what is taken, with an extent that was found
abbrev pub with_taken : Option Extent → List Extent → List Extent
with_taken None taken = taken
with_taken (Some extent) taken = extent ∷ taken

-- ---- extents for what is new

abbrev pub in_front_of : Option Extent → Option (List Extent) → Option (List Extent)
in_front_of None extents = None
in_front_of (Some extent) None = None
in_front_of (Some extent) (Some extents) = Some (extent ∷ extents)

-- An extent for each of the lengths in order, each beside those before it; none where one finds no room.
abbrev pub placed : ℕ → List Extent → List ℕ → Option (List Extent)
placed limit taken [] = Some []
placed limit taken (len ∷ lens) = in_front_of (fit limit taken len) (placed limit (with_taken (fit limit taken len) taken) lens)

-- Room for a commit: an extent for each segment that has none, in order, and then one for its record.
pub record Room : Type 0 where
  pub segments : List Extent
  pub record_extent : Extent

abbrev pub room_with : List Extent → Option Extent → Option Room
room_with segments None = None
room_with segments (Some extent) = Some (record { segments = segments; record_extent = extent })

abbrev pub room_behind : ℕ → List Extent → ℕ → Option (List Extent) → Option Room
room_behind limit taken size None = None
room_behind limit taken size (Some segments) = room_with segments (fit limit (segments ++ taken) size)

-- `sizes` are the lengths of the segments' texts, `size` that of the record's
abbrev pub room_for : ℕ → List Extent → List ℕ → ℕ → Option Room
room_for limit taken sizes size = room_behind limit taken size (placed limit taken sizes)

-- ---- moves of a compaction

-- an extent that the last commit names, with the number of the segment whose bytes it keeps
pub record NamedExtent : Type 0 where
  pub id : ℕ
  pub extent : Extent

-- the one that begins last among those before a place
abbrev pub later_of : ℕ → NamedExtent → Option NamedExtent → Option NamedExtent
later_of place named None = cond (nat_lt named.extent.at place) (Some named) None
later_of place named (Some best) =
    cond (nat_lt named.extent.at place) (cond (nat_lt best.extent.at named.extent.at) (Some named) (Some best)) (Some best)

abbrev pub last_before : ℕ → List NamedExtent → Option NamedExtent
last_before place [] = None
last_before place (named ∷ others) = later_of place named (last_before place others)

abbrev pub place_of : Option NamedExtent → ℕ
place_of None = 0
place_of (Some named) = named.extent.at

abbrev pub and_then : Option NamedExtent → List NamedExtent → List NamedExtent
and_then None others = []
and_then (Some named) others = named ∷ others

-- So many of them before a place, by descending place.
abbrev pub last_ones : ℕ → ℕ → List NamedExtent → List NamedExtent
last_ones zero place named = []
last_ones (suc most) place named = and_then (last_before place named) (last_ones most (place_of (last_before place named)) named)

abbrev pub if_before : ℕ → Option Extent → Option Extent
if_before place None = None
if_before place (Some extent) = cond (nat_lt extent.at place) (Some extent) None

-- the first place with room for it, where that stands before its own
abbrev pub better : ℕ → List Extent → NamedExtent → Option Extent
better limit taken named = if_before named.extent.at (fit limit taken named.extent.len)

abbrev pub moved_to : NamedExtent → Option Extent → List NamedExtent → List NamedExtent
moved_to named None others = others
moved_to named (Some extent) others = record { id = named.id; extent = extent } ∷ others

-- Each of them in order with its better extent, where it has one; what moved keeps its old extent taken.
abbrev pub moved : ℕ → List Extent → List NamedExtent → List NamedExtent
moved limit taken [] = []
moved limit taken (named ∷ others) =
    moved_to named (better limit taken named) (moved limit (with_taken (better limit taken named) taken) others)
