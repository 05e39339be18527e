-- What a commit of a sealed index needs and leaves, as the machine has it.
use Rattle.std.proofs.Common.{◌≡◌, ℕ, ◌+◌, ◌==◌, not, List, [], ◌∷◌, ◌++◌, length, map, filter, Option, Some, refl, sym, ap, subst, ◌∙◌}
use Rattle.std.proofs.lemmas.List.Elements.{recursion_from_All}
use Rattle.std.specs.List.{AllByRecursion, AllZip, list_any}
use Rattle.commit_store.specs.Known.{StoreState}
use Rattle.commit_store.specs.Preparing.{new_sizes, room_of}
use Rattle.extent_pool.specs.Placing.{NamedExtent, Room, last_ones, moved, room_for}
use Rattle.flattener.specs.Block.{BlockState}
use Rattle.flattener.specs.Fits.{SegmentFits}
use Rattle.index_core.specs.Kept.{IndexState, segment_kept, segments_kept}
use Rattle.layout.specs.As.{segment_as}
use Rattle.layout.specs.Layout.{Layout, SegmentOf}
use Rattle.machine.specs.State.{Kept, State}
use Rattle.machine.specs.Storing.{AreSizes, IsSizeOf, extent_in, header, is_named, kept_by, moves_in, named, named_by, room_in, segment_ids, with_move}
use Rattle.machine.specs.declared.limits.Limits.{Limits}
use Rattle.mapping.specs.Mapping.{Mapping}
use Rattle.segment.specs.Live.{EntryState}
use Rattle.store_compact.specs.Compacting.{IsCompacted, ids_of, kept_of, moves_of, segments_named}
use Rattle.tree_objects.specs.Tree.{Tree}
use Rattle.index_trees.specs.Faithful.{AreFaithful, block_in, tree_in}
use Rattle.index_trees.specs.Given.{IsSealedFor}
use Rattle.index_trees.proofs.Blocks.{map-map}
use Rattle.index_trees.proofs.Sizes.{FitLaws, record_of_entries, sizes_of_entries}

module _ (m : Mapping) (index : IndexState) (state : State) (f : AreFaithful (Some m) index state) where
  blocks : segments_kept index.entries ≡ map (segment_as (block_in m)) f.stands.indexed.segments
  blocks = ap (λ (layout : Layout BlockState). layout.segments) f.stands.blocks

  trees : state.layout.segments ≡ map (segment_as (tree_in m)) f.stands.indexed.segments
  trees = ap (λ (layout : Layout Tree). layout.segments) f.stands.trees

  ids : segment_ids state ≡ ids_of index.entries
  ids =
      ap (map (λ (segment : SegmentOf Tree). segment.id)) trees
      ∙ map-map (λ (segment : SegmentOf Tree). segment.id) (segment_as (tree_in m)) f.stands.indexed.segments
      ∙ sym (map-map (λ (segment : SegmentOf BlockState). segment.id) (segment_as (block_in m)) f.stands.indexed.segments)
      ∙ sym (ap (map (λ (segment : SegmentOf BlockState). segment.id)) blocks)
      ∙ map-map (λ (segment : SegmentOf BlockState). segment.id) segment_kept index.entries

-- ---- what it needs

fits_each : (m : Mapping) (index : IndexState) (state : State) (store : StoreState) → IsSealedFor m index state store → AllByRecursion (λ (entry : EntryState). SegmentFits m entry.columns) index.entries
fits_each m index state store is = recursion_from_All (λ (entry : EntryState). SegmentFits m entry.columns) index.entries is.fits.entries

pub sizes_are : FitLaws → (m : Mapping) (index : IndexState) (state : State) (store : StoreState) → IsSealedFor m index state store → AreSizes (Some m) state (new_sizes store.known index.entries)
sizes_are laws m index state store is =
    let all = sizes_of_entries laws m store.known index.entries is.faithful.stands.indexed.segments (fits_each m index state store is) is.whole (blocks m index state is.faithful) in
    subst (λ (kept : Kept). AllZip (IsSizeOf m) (filter (λ (segment : SegmentOf Tree). not (is_named kept.segments segment)) state.layout.segments) (new_sizes store.known index.entries)) (sym is.kept)
    (subst (λ (segments : List (SegmentOf Tree)). AllZip (IsSizeOf m) (filter (λ (segment : SegmentOf Tree). not (is_named (kept_of store).segments segment)) segments) (new_sizes store.known index.entries))
    (sym (trees m index state is.faithful)) all)

abbrev room_by : List ℕ → ℕ → Kept → ℕ → Option Room
room_by sizes limit kept size = room_for limit (header ∷ kept.taken) sizes size

pub room_is : FitLaws → (m : Mapping) (index : IndexState) (state : State) (store : StoreState) (limits : Limits) → IsSealedFor m index state store → limits.store_bytes ≡ store.limit
    → room_in limits (new_sizes store.known index.entries) m state ≡ room_of store m index.entries
room_is laws m index state store limits is limit =
    let size = record_of_entries laws m index.entries is.faithful.stands.indexed.segments state (fits_each m index state store is) is.whole (blocks m index state is.faithful) (trees m index state is.faithful) in
    λ i. room_by (new_sizes store.known index.entries) (limit i) (is.kept i) (size i)

-- ---- what it leaves

abbrev moves_by : ℕ → Room → ℕ → Kept → List ℕ → List NamedExtent
moves_by most room limit kept ids =
    moved limit (room.record_extent ∷ room.segments ++ header ∷ kept.taken) (last_ones most limit (filter (λ (it : NamedExtent). list_any (λ (id : ℕ). id == it.id) ids) kept.segments))

moves_same : (m : Mapping) (index : IndexState) (state : State) (store : StoreState) (limits : Limits) (most : ℕ) (room : Room) → IsSealedFor m index state store → limits.store_bytes ≡ store.limit
    → moves_in limits most room state ≡ moves_of most room store index.entries
moves_same m index state store limits most room is limit = λ i. moves_by most room (limit i) (is.kept i) (ids m index state is.faithful i)

abbrev named_with : Room → List NamedExtent → Kept → List ℕ → List NamedExtent
named_with room moves kept ids = map (with_move moves) (named kept.segments ids room.segments)

named_same : (m : Mapping) (index : IndexState) (state : State) (store : StoreState) (limits : Limits) (most : ℕ) (room : Room) → IsSealedFor m index state store → limits.store_bytes ≡ store.limit
    → named_by room (moves_in limits most room state) state ≡ segments_named most room store index.entries
named_same m index state store limits most room is limit =
    λ i. named_with room (moves_same m index state store limits most room is limit i) (is.kept i) (ids m index state is.faithful i)

pub kept_is : (m : Mapping) (index : IndexState) (state : State) (store new : StoreState) (limits : Limits) (most count : ℕ) → IsSealedFor m index state store → limits.store_bytes ≡ store.limit
    → IsCompacted store m index.entries most count new
    → (room : Room) × (room_of store m index.entries ≡ Some room) × (count ≡ length (moves_in limits most room state)) × (kept_of new ≡ kept_by room (moves_in limits most room state) state)
kept_is m index state store new limits most count is limit done =
    let moves = moves_same m index state store limits most done.room is limit in
    let names = named_same m index state store limits most done.room is limit in
    let segments : (kept_of new).segments ≡ named_by done.room (moves_in limits most done.room state) state = done.segments ∙ sym names in
    let taken : new.named ≡ done.room.record_extent ∷ map extent_in (named_by done.room (moves_in limits most done.room state) state)
    = done.taken ∙ ap (λ (it : List NamedExtent). done.room.record_extent ∷ map extent_in it) (sym names) in
    let generation : new.tried ≡ state.kept.generation + 1 = done.tried ∙ ap (λ (kept : Kept). kept.generation + 1) (sym is.kept) in (
      done.room,
      done.first_fit,
      done.count_is ∙ ap length (sym moves),
      λ i. record { segments = segments i; taken = taken i; generation = generation i },
    )

pub still_is : (limits : Limits) (room : Room) (state : State) → moves_in limits 0 room state ≡ []
still_is limits room state = refl
