-- What a commit that moves segments leaves of a store, in the words of the machine.
use Rattle.std.specs.Prelude.{◌≡◌, ℕ, ◌+◌, ◌==◌, ◌⊎◌, List, ◌∷◌, ◌++◌, length, map, filter, Some}
use Rattle.std.specs.List.{AllZip, list_any}
use Rattle.extent_pool.specs.Placing.{NamedExtent, Room, last_ones, moved}
use Rattle.machine.specs.State.{Kept}
use Rattle.machine.specs.Storing.{extent_in, named, with_move}
use Rattle.mapping.specs.Mapping.{Mapping}
use Rattle.segment.specs.Live.{EntryState}
use Rattle.commit_store.specs.declared.known.KnownSegment.{KnownSegment}
use Rattle.commit_store.specs.Known.{StoreState}
use Rattle.commit_store.specs.Preparing.{entry_or, known_as, room_of, taken_by, with_closed}

abbrev pub named_of : KnownSegment → NamedExtent
named_of known = record { id = known.entry.id; extent = known.extent }

abbrev pub kept_segments : StoreState → List NamedExtent
kept_segments store = map named_of store.known

-- what a store keeps, as the machine has it
abbrev pub kept_of : StoreState → Kept
kept_of store = record { segments = kept_segments store; taken = store.named; generation = store.tried }

abbrev pub ids_of : List EntryState → List ℕ
ids_of view = map (λ (entry : EntryState). entry.id) view

-- the segments of a view that have an extent
abbrev pub placed_of : StoreState → List EntryState → List NamedExtent
placed_of store view = filter (λ (it : NamedExtent). list_any (λ (id : ℕ). id == it.id) (ids_of view)) (kept_segments store)

-- of those that stand last in the file so many are gone through
abbrev pub moves_of : ℕ → Room → StoreState → List EntryState → List NamedExtent
moves_of most room store view =
    moved store.limit (room.record_extent ∷ room.segments ++ taken_by store) (last_ones most store.limit (placed_of store view))

-- the segments of the view as the commit names them
abbrev pub segments_named : ℕ → Room → StoreState → List EntryState → List NamedExtent
segments_named most room store view = map (with_move (moves_of most room store view)) (named (kept_segments store) (ids_of view) room.segments)

-- what is known of an entry behind the commit: the segment that the store knew under its id, or else its own
abbrev pub IsKnownOf : StoreState → EntryState → KnownSegment → Type 0
IsKnownOf store entry known = known.entry ≡ entry_or entry (known_as store.known entry.id)

-- The view was committed in the room that first fit gives, and so many segments were moved, of at most `most` looked at.
pub record IsCompacted (store : StoreState) (m : Mapping) (view : List EntryState) (most count : ℕ) (new : StoreState) : Type 0 where
  pub room : Room
  pub first_fit : room_of store m view ≡ Some room
  pub count_is : count ≡ length (moves_of most room store view)
  pub limit : new.limit ≡ store.limit
  pub segments : kept_segments new ≡ segments_named most room store view
  pub entries : AllZip (IsKnownOf store) view new.known
  pub taken : new.named ≡ room.record_extent ∷ map extent_in (segments_named most room store view)
  pub tried : new.tried ≡ store.tried + 1

-- no generation was tried
abbrev pub IsUntried : StoreState → StoreState → Type 0
IsUntried store new = (new ≡ store) ⊎ (new ≡ with_closed store)
