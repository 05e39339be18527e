-- A segment of which no root is dead has all its blocks live.
use Rattle.std.proofs.Common.{◌≡◌, ◌↔◌, ℕ, suc, ◌<◌, Bool, true, false, List, [], ◌∷◌, length, map, get_or, slice_index_or, Contains, refl, ap, arith}
use Rattle.std.proofs.lemmas.List.{length-map}
use Rattle.flattener.specs.Block.{BlockState}
use Rattle.layout.specs.Layout.{alive}
use Rattle.segment.specs.Flat.{flat_root, roots_of}
use Rattle.segment.specs.Live.{LiveState, IsLiveOver}
use Rattle.segment_parts.specs.declared.columns.Columns.{Columns}
use Rattle.segment_builder.specs.Blocks.{blocks_of, marked_by}

abbrev AllMarked : List Bool → Type 0
AllMarked marks = (k : ℕ) → k < length marks → get_or marks k false ≡ false → ⊥

all_alive : (blocks : List BlockState) (marks : List Bool) → length blocks ≡ length marks → AllMarked marks → marked_by blocks marks ≡ map alive blocks
all_alive [] marks long all = refl
all_alive (block ∷ blocks) [] long all = absurd (omega (arith, long))
all_alive (block ∷ blocks) (false ∷ marks) long all = absurd (all 0 (omega arith) refl)
all_alive (block ∷ blocks) (true ∷ marks) long all = ap (λ rest. alive block ∷ rest) (all_alive blocks marks (omega (arith, long)) (λ k within no. all (suc k) (omega (arith, within)) no))

no_dead : (root : ℕ) → Contains [] root → ⊥
no_dead root is = omega (arith, is.1)

-- no root is dead
pub blocks_alive : (columns : Columns) (live : LiveState) → map (λ (block : BlockState). block.root) (blocks_of columns) ≡ roots_of columns → IsLiveOver columns live
    → ((root : ℕ) → root < length columns.roots → (slice_index_or live.roots root false ≡ false) ↔ Contains [] root) → marked_by (blocks_of columns) live.roots ≡ map alive (blocks_of columns)
blocks_alive columns live roots over dead =
    all_alive (blocks_of columns) live.roots
    (omega (arith, ap length roots, length-map (blocks_of columns) (λ (block : BlockState). block.root), length-map columns.roots flat_root, over.roots))
    (λ k within no. no_dead k ((dead k (omega (arith, within, over.roots))).0 no))
