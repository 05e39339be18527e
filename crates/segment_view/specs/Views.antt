-- Views: lists of segments with their live bits, each under an id of its own.
use Rattle.std.specs.Prelude.{◌≢◌, ℕ, ◌+◌, Bool, false, List, ◌∷◌, ◌++◌, take, drop, slice_index_or, Option, Some, None}
use Rattle.std.specs.List.{All, AllPairs}
use Rattle.segment.specs.Live.{EntryState, IsLiveOver, killed}

-- no two entries have the same id
abbrev pub HaveOwnIds : List EntryState → Type 0
HaveOwnIds entries = AllPairs (λ (one other : EntryState). one.id ≢ other.id) entries

-- no entry has this id
abbrev pub IsNewId : List EntryState → ℕ → Type 0
IsNewId entries id = All (λ (entry : EntryState). entry.id ≢ id) entries

-- the live bits of each entry are over its own segment
abbrev pub HaveOwnBits : List EntryState → Type 0
HaveOwnBits entries = All (λ (entry : EntryState). IsLiveOver entry.columns entry.live) entries

-- what is so of a view at all times
pub record IsView (entries : List EntryState) : Type 0 where
  pub ids : HaveOwnIds entries
  pub bits : HaveOwnBits entries

-- whether a root of an entry is live
abbrev pub is_live_root : ℕ → EntryState → Bool
is_live_root root entry = slice_index_or entry.live.roots root false

-- an entry in which one more root is dead, with its whole block
abbrev pub with_dead : ℕ → EntryState → EntryState
with_dead root entry = record { id = entry.id; columns = entry.columns; live = killed entry.columns root entry.live }

-- entries of which so many, from a place on, have given way to one or to none
abbrev pub replaced : ℕ → ℕ → Option EntryState → List EntryState → List EntryState
replaced from count None entries = take from entries ++ drop (from + count) entries
replaced from count (Some entry) entries = take from entries ++ (entry ∷ drop (from + count) entries)
