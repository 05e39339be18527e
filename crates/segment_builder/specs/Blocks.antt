-- The blocks of an entry: the documents of its segment, cut behind each root, each with its root and whether it is live.
use Rattle.std.specs.Prelude.{ℕ, ◌-◌, ◌==◌, Bool, false, List, [], ◌∷◌, ◌++◌, if◌then◌else◌, length, map, filter, sum_by}
use Rattle.flattener.specs.Block.{BlockState, block_of}
use Rattle.flattener.specs.StandsFor.{Marked}
use Rattle.segment.specs.Flat.{FlatDocument, FlatRoot, flats_of, roots_of}
use Rattle.segment.specs.Live.{EntryState}
use Rattle.layout.specs.Layout.{is_live, item_in}
use Rattle.mapping.specs.Mapping.{Mapping}
use Rattle.segment_parts.specs.declared.columns.Columns.{Columns}
use Rattle.tree_objects.specs.Tree.{Tree}

-- the blocks of documents that come behind `front`, each ending with the next root
abbrev pub cut_from : List FlatDocument → List FlatDocument → List FlatRoot → List BlockState
cut_from front [] roots = []
cut_from front (flat ∷ flats) [] = []
cut_from front (flat ∷ flats) (root ∷ roots) =
    if flat.scope == 0 then record { flats = front ++ flat ∷ []; root = root } ∷ cut_from [] flats roots
    else cut_from (front ++ flat ∷ []) flats (root ∷ roots)

unfoldable pub blocks_of : Columns → List BlockState
blocks_of columns = cut_from [] (flats_of columns) (roots_of columns)

-- how many objects a block has, its root included, and blocks have together
abbrev pub block_objects : BlockState → ℕ
block_objects block = length block.flats

abbrev pub objects_of : List BlockState → ℕ
objects_of blocks = sum_by block_objects blocks

abbrev pub marked_by : List BlockState → List Bool → List (Marked BlockState)
marked_by [] marks = []
marked_by (block ∷ blocks) [] = []
marked_by (block ∷ blocks) (mark ∷ marks) = record { item = block; live = mark } ∷ marked_by blocks marks

-- the blocks of an entry, dead ones among them
abbrev pub blocks_in : EntryState → List (Marked BlockState)
blocks_in entry = marked_by (blocks_of entry.columns) entry.live.roots

-- a tree as the block that stands for it
abbrev pub block_of_marked : Mapping → Marked Tree → Marked BlockState
block_of_marked m tree = record { item = block_of m tree.item; live = tree.live }

-- blocks of which the one at a place is dead
abbrev pub dead_at : ℕ → List (Marked BlockState) → List (Marked BlockState)
dead_at place [] = []
dead_at place (block ∷ blocks) = if place == 0 then record { item = block.item; live = false } ∷ blocks else block ∷ dead_at (place - 1) blocks

-- the live blocks of an entry, in order
abbrev pub live_blocks : EntryState → List BlockState
live_blocks entry = map item_in (filter is_live (blocks_in entry))
