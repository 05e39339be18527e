-- What a write does: it puts a block in place of the live one with its id, or as a new one, or takes the live one out.
use Rattle.std.specs.Prelude.{◌≡◌, ℕ, ◌+◌, ◌==◌, nat_lt, Bool, true, false, not, ◌&&◌, ◌||◌, if◌then◌else◌, List, [], ◌∷◌, ◌++◌, filter, Option, Some, None}
use Rattle.flattener.specs.Block.{BlockState}
use Rattle.flattener.specs.Fits.{BlockFits}
use Rattle.flattener.specs.Seen.{block_seen}
use Rattle.layout.specs.Layout.{Layout, staying, with_change}
use Rattle.mapping.specs.Mapping.{Mapping}
use Rattle.index_core.specs.Kept.{IndexState, layout_kept, live_kept, live_block, has_block_id, last_number}
use Rattle.segment_builder.specs.Blocks.{objects_of}
use Rattle.index_core.specs.declared.op.WriteDone.{WriteDone}
use Rattle.index_core.specs.declared.op.WriteDone.TheVariants.{Created, Updated, Deleted, NotFound}
use Rattle.index_core.specs.declared.op.WriteOp.{WriteOp}
use Rattle.index_core.specs.declared.op.WriteOp.TheVariants.{Put, Take}

-- the id that is written
abbrev pub id_of : WriteOp → List ℕ
id_of (Put block) = block.root.id
id_of (Take id) = id

-- the blocks that are new
abbrev pub new_of : WriteOp → List BlockState
new_of (Put block) = block_seen block ∷ []
new_of (Take id) = []

-- the number that stands under the id afterwards
abbrev pub new_number : WriteOp → Option ℕ
new_number (Put block) = Some block.root.number
new_number (Take id) = None

-- what is put fits the mapping, and has the next number
abbrev pub IsNext : Mapping → ℕ → WriteOp → Type 0
IsNext m next (Put block) = BlockFits m (block_seen block) × (block.root.number ≡ next)
IsNext m next (Take id) = Unit {0}

-- an id that isn't live isn't taken out
abbrev pub takes_nothing : WriteOp → Option BlockState → Bool
takes_nothing (Put block) live = false
takes_nothing (Take id) None = true
takes_nothing (Take id) (Some old) = false

-- what is answered, with the number that the change takes
abbrev pub done_of : WriteOp → ℕ → Option BlockState → WriteDone
done_of (Put block) next None = Created next
done_of (Put block) next (Some old) = Updated next
done_of (Take id) next None = NotFound
done_of (Take id) next (Some old) = Deleted next

abbrev pub has_nothing : WriteOp → IndexState → Bool
has_nothing op kept = takes_nothing op (live_block (id_of op) kept)

-- the layout afterwards
abbrev pub written : WriteOp → IndexState → Layout BlockState
written op kept = if has_nothing op kept then layout_kept kept else with_change (has_block_id (id_of op)) (new_of op) (layout_kept kept)

-- the next number afterwards
abbrev pub next_after : WriteOp → IndexState → ℕ
next_after op kept = if has_nothing op kept then kept.next else kept.next + 1

-- the live blocks after a change
abbrev pub live_after : WriteOp → IndexState → List BlockState
live_after op kept = filter (staying (has_block_id (id_of op))) (live_kept kept) ++ new_of op

-- the change would leave too many live objects, or there is no number for it
abbrev pub is_full : WriteOp → IndexState → Bool
is_full op kept = nat_lt kept.objects (objects_of (live_after op kept)) || (kept.next == last_number)

abbrev pub is_refused : WriteOp → IndexState → Bool
is_refused op kept = not (has_nothing op kept) && is_full op kept

-- the source of a block, and nothing of none
abbrev pub source_of : Option BlockState → List ℕ
source_of None = []
source_of (Some block) = block.root.source

-- a source is read once, where there is one
abbrev pub reads_of : Option BlockState → ℕ
reads_of None = 0
reads_of (Some block) = 1
