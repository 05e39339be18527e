-- These serve proofs alone: what is tested of the blocks of entries, root by root.
use Rattle.std.specs.Prelude.{◌≡◌, ℕ, ◌+◌, ◌≤◌, nat_le, nat_lt, Bool, true, false, ◌&&◌, cond, List, [], ◌∷◌, map, count_by, Option, Some, None}
use Rattle.std.specs.BTreeMap.{get_by}
use Rattle.std.specs.Cmp.Lexicographic.{slice_cmp}
use Rattle.std.specs.List.{All, flat_map}
use Rattle.std.specs.Option.{is_some}
use Rattle.std.specs.Ordering.{nat_cmp}
use Rattle.std.specs.Str.{bytes_eq}
use Rattle.flattener.specs.Block.{BlockState}
use Rattle.index_core.specs.Found.{IsWhole, root_numbers}
use Rattle.index_core.specs.Kept.{has_block_id, segments_kept}
use Rattle.layout.specs.Layout.{live_in}
use Rattle.segment.specs.Flat.{roots_of}
use Rattle.segment.specs.Live.{EntryState, IsLiveOver}
use Rattle.segment_builder.specs.Blocks.{blocks_of}
use Rattle.segment_view.specs.Views.{is_live_root}
use Rattle.stored_sources.specs.Roots.{root_of}
use Rattle.store_opening.specs.declared.live_ids.LiveIds.{LiveIds}

-- ---- numbers

-- whether numbers strictly ascend, from one on, below another
abbrev pub ascends : ℕ → List ℕ → ℕ → Bool
ascends from [] end = nat_le from end
ascends from (number ∷ numbers) end = nat_le from number && (nat_lt number end && ascends (number + 1) numbers end)

-- whether more numbers ascend behind those that ended so
abbrev pub ascends_behind : Option ℕ → List ℕ → ℕ → Bool
ascends_behind None more end = false
ascends_behind (Some from) more end = ascends from more end

-- the numbers of all roots, in order
abbrev pub numbers_through : List EntryState → List ℕ
numbers_through entries = flat_map (λ (entry : EntryState). root_numbers entry.columns) entries

-- ---- entries

-- the blocks of an entry have its roots, and its live documents are those of its live blocks
pub record IsKnownEntry (entry : EntryState) : Type 0 where
  pub whole : IsWhole entry
  pub roots : map (λ (block : BlockState). block.root) (blocks_of entry.columns) ≡ roots_of entry.columns
  pub over : IsLiveOver entry.columns entry.live

-- ---- ids

-- the number that stands under an id
abbrev pub under_id : LiveIds → List ℕ → Option ℕ
under_id ids id = get_by (λ key. slice_cmp nat_cmp id key.items) ids.numbers

-- how many numbers stand under an id: one or none
abbrev pub known_times : LiveIds → List ℕ → ℕ
known_times ids id = cond (is_some (under_id ids id)) 1 0

-- how many of these blocks have an id
abbrev pub times_in : List BlockState → List ℕ → ℕ
times_in blocks id = count_by (has_block_id id) blocks

-- the live blocks of entries, in order
abbrev pub live_through : List EntryState → List BlockState
live_through entries = flat_map live_in (segments_kept entries)

-- with these blocks each id is known as often as it was and as it is among them
abbrev pub KnowsMore : LiveIds → List BlockState → LiveIds → Type 0
KnowsMore old blocks new = (id : List ℕ) → known_times new id ≡ known_times old id + times_in blocks id

-- among what is known and these blocks no id is there twice
abbrev pub AreNew : LiveIds → List BlockState → Type 0
AreNew ids blocks = (id : List ℕ) → known_times ids id + times_in blocks id ≤ 1

-- how often a root has an id: once where it is live and the id is its own
abbrev pub root_times : EntryState → ℕ → List ℕ → ℕ
root_times entry root id = cond (is_live_root root entry) (cond (bytes_eq (root_of entry.columns.roots root).id id) 1 0) 0

-- a root is live, and its id is known
pub record IsKnownTwice (entry : EntryState) (root : ℕ) (ids : LiveIds) : Type 0 where
  pub live : is_live_root root entry ≡ true
  pub known : known_times ids (root_of entry.columns.roots root).id ≡ 1
