-- Documents that are cut behind each root are the blocks that they came from.
use Rattle.std.proofs.Common.{◌≡◌, ℕ, suc, ◌+◌, ◌==◌, true, false, List, [], ◌∷◌, ◌++◌, length, map, get_or, refl, sym, ap, ◌∙◌, append_assoc, arith, eq-eqb}
use Rattle.std.specs.List.{AllByRecursion, filter, flat_map}
use Rattle.flattener.specs.Block.{BlockState}
use Rattle.flattener.specs.Fits.{IsRootOf, is_root}
use Rattle.mapping.specs.Mapping.{Mapping}
use Rattle.segment.specs.Flat.{FlatDocument, FlatRoot, flats_of, roots_of}
use Rattle.segment_parts.specs.declared.columns.Columns.{Columns}
use Rattle.segment_builder.specs.Blocks.{cut_from, blocks_of}
use Rattle.segment_builder.proofs.Keys.{split}

-- the last document alone is a root
abbrev pub EndsBlock : List FlatDocument → Type 0
EndsBlock [] = ⊥
EndsBlock (flat ∷ []) = flat.scope ≡ 0
EndsBlock (flat ∷ next ∷ flats) = (is_root flat ≡ false) × EndsBlock (next ∷ flats)

cut_block : (front flats others : List FlatDocument) (root : FlatRoot) (roots : List FlatRoot) → EndsBlock flats
    → cut_from front (flats ++ others) (root ∷ roots) ≡ record { flats = front ++ flats; root = root } ∷ cut_from [] others roots
cut_block front [] others root roots ends = absurd ends
cut_block front (flat ∷ []) others root roots ends =
    let is : (flat.scope == 0) ≡ true = eq-eqb flat.scope 0 ends in
    rw is refl
cut_block front (flat ∷ next ∷ flats) others root roots ends =
    let isnt : (flat.scope == 0) ≡ false = ends.0 in
    rw isnt (cut_block (front ++ flat ∷ []) (next ∷ flats) others root roots ends.1
    ∙ ap (λ (fs : List FlatDocument). let first : BlockState = record { flats = fs; root = root } in first ∷ cut_from [] others roots) (append_assoc front (flat ∷ []) (next ∷ flats)))

pub cut_blocks : (blocks : List BlockState) → AllByRecursion (λ (block : BlockState). EndsBlock block.flats) blocks
    → cut_from [] (flat_map (λ (block : BlockState). block.flats) blocks) (map (λ (block : BlockState). block.root) blocks) ≡ blocks
cut_blocks [] all = refl
cut_blocks (block ∷ blocks) all =
    cut_block [] block.flats (flat_map (λ (b : BlockState). b.flats) blocks) block.root (map (λ (b : BlockState). b.root) blocks) all.0
    ∙ ap (λ (rest : List BlockState). block ∷ rest) (cut_blocks blocks all.1)

-- ---- a root with its documents is such a block

no_roots : (flats : List FlatDocument) → length (filter is_root flats) ≡ 0 → AllByRecursion (λ (flat : FlatDocument). is_root flat ≡ false) flats
no_roots [] none = tt
no_roots (flat ∷ flats) none =
    split (is_root flat)
    (λ is. absurd (let some : length (flat ∷ filter is_root flats) ≡ 0 = rw is at none in omega (arith, some)))
    (λ isnt. (isnt, no_roots flats (rw isnt at none)))

last_none : (fs : List FlatDocument) (f : FlatDocument) → ((doc : ℕ) → doc + 1 ≡ length (map (λ (g : FlatDocument). g.scope) (f ∷ fs)) → get_or (map (λ (g : FlatDocument). g.scope) (f ∷ fs)) doc 0 ≡ 0)
    → AllByRecursion (λ (g : FlatDocument). is_root g ≡ false) (f ∷ fs) → ⊥
last_none [] f end none = (let is : is_root f ≡ true = eq-eqb f.scope 0 (end 0 refl) in let never : true ≡ false = sym is ∙ none.0 in cc (never))
last_none (g ∷ fs) f end none = last_none fs g (λ doc h. end (suc doc) (omega (arith, h))) none.1

last_scope : (flats : List FlatDocument) (flat : FlatDocument) → ((doc : ℕ) → doc + 1 ≡ length (map (λ (f : FlatDocument). f.scope) (flat ∷ flats)) → get_or (map (λ (f : FlatDocument). f.scope) (flat ∷ flats)) doc 0 ≡ 0)
    → length (filter is_root (flat ∷ flats)) ≡ 1 → EndsBlock (flat ∷ flats)
last_scope [] flat last one = last 0 refl
last_scope (next ∷ flats) flat last one =
    let rest : (doc : ℕ) → doc + 1 ≡ length (map (λ (f : FlatDocument). f.scope) (next ∷ flats)) → get_or (map (λ (f : FlatDocument). f.scope) (next ∷ flats)) doc 0 ≡ 0 =
    λ doc h. last (suc doc) (omega (arith, h)) in
    split (is_root flat)
    (λ is. absurd (
    let more : length (flat ∷ filter is_root (next ∷ flats)) ≡ 1 = rw is at one in
    let none : length (filter is_root (next ∷ flats)) ≡ 0 = omega (arith, more) in
    last_none flats next rest (no_roots (next ∷ flats) none)))
    (λ isnt. (isnt, last_scope flats next rest (rw isnt at one)))

pub ends_block : (m : Mapping) (root : FlatRoot) (flats : List FlatDocument) → IsRootOf m root flats → EndsBlock flats
ends_block m root [] is = absurd (let none : 0 ≡ 1 = is.one_root in omega (arith, none))
ends_block m root (flat ∷ flats) is = last_scope flats flat is.nested.last is.one_root

blocks_end : (m : Mapping) (blocks : List BlockState) → AllByRecursion (λ (block : BlockState). IsRootOf m block.root block.flats) blocks → AllByRecursion (λ (block : BlockState). EndsBlock block.flats) blocks
blocks_end m [] all = tt
blocks_end m (block ∷ blocks) all = (ends_block m block.root block.flats all.0, blocks_end m blocks all.1)

pub blocks_again : (m : Mapping) (columns : Columns) (blocks : List BlockState) → AllByRecursion (λ (block : BlockState). IsRootOf m block.root block.flats) blocks
    → flats_of columns ≡ flat_map (λ (block : BlockState). block.flats) blocks → roots_of columns ≡ map (λ (block : BlockState). block.root) blocks → blocks_of columns ≡ blocks
unfolding blocks_of
blocks_again m columns blocks all flats roots =
    ap (λ fs. cut_from [] fs (roots_of columns)) flats ∙ ap (cut_from [] (flat_map (λ (block : BlockState). block.flats) blocks)) roots ∙ cut_blocks blocks (blocks_end m blocks all)
