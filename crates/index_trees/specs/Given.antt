-- What the laws of this crate are given: what an entry's own value has, an index that was sealed, and a store that was opened.
use Rattle.std.specs.Prelude.{◌≡◌, ℕ, Bool, List, [], Option, None, Some, option_map}
use Rattle.std.specs.List.{AllByRecursion}
use Rattle.commit_store.specs.Known.{StoreState}
use Rattle.commit_store.specs.Opened.{store_found}
use Rattle.commit_store.specs.Saying.{StoreCommit, entries_of, mapping_said}
use Rattle.index_core.specs.Kept.{IndexFits, IndexState, made_by}
use Rattle.machine.specs.State.{State}
use Rattle.mapping.specs.Mapping.{Mapping}
use Rattle.segment.specs.Live.{EntryState, IsLiveOver}
use Rattle.segment_parts.specs.Agree.{AreColumns}
use Rattle.store_compact.specs.Compacting.{kept_of}
use Rattle.index_trees.specs.Faithful.{AreFaithful}

-- an entry's columns agree, and its live bits are over them
pub record IsWhole (entry : EntryState) : Type 0 where
  pub agree : AreColumns entry.columns
  pub live : IsLiveOver entry.columns entry.live

abbrev pub AreWhole : List EntryState → Type 0
AreWhole entries = AllByRecursion IsWhole entries

-- A sealed index of whole entries that the mapping can have made. It is faithful to a state, and the state keeps what the store
-- does.
pub record IsSealedFor (m : Mapping) (index : IndexState) (state : State) (store : StoreState) : Type 0 where
  pub fits : IndexFits m index
  pub whole : AreWhole index.entries
  pub sealed : index.buffer ≡ []
  pub faithful : AreFaithful (Some m) index state
  pub kept : state.kept ≡ kept_of store

-- ---- opening

abbrev pub next_found : Option StoreCommit → ℕ
next_found None = 0
next_found (Some c) = c.says.next

abbrev pub view_found : Option StoreCommit → List EntryState
view_found None = []
view_found (Some c) = entries_of c

-- A store, a mapping, a next number and a view are what opening gives of this commit, or where there is none.
pub record IsOpenedAs (limit : ℕ) (found : Option StoreCommit) (store : StoreState) (mapping : Option Mapping) (next : ℕ) (view : List EntryState) : Type 0 where
  pub closed : Bool
  pub store_is : store ≡ store_found limit found closed
  pub mapping_is : mapping ≡ option_map (λ (c : StoreCommit). mapping_said c.says) found
  pub next_is : next ≡ next_found found
  pub view_is : view ≡ view_found found

-- the index that is made of a view: its buffer is empty, and no merge is open
abbrev pub index_found : List EntryState → ℕ → ℕ → IndexState
index_found view next objects =
    record { entries = view; buffer = []; made = made_by view; next = next; objects = objects; merges = []; started = 0; factor = None }
