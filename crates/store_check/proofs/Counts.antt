-- How many objects blocks have together, and each root with its block, one more at a time.
use Rattle.std.proofs.Common.{◌≡◌, ℕ, ◌+◌, ◌<◌, List, [], ◌∷◌, ◌++◌, length, map, get_or, take, drop, sym, ap, subst, ◌∙◌, arith}
use Rattle.std.specs.List.{AllZip}
use Rattle.std.proofs.lemmas.List.{at_drop_more, get_or-map, length-map, map-append, take_more}
use Rattle.std.proofs.lemmas.List.Sums.{sum_by-cons}
use Rattle.flattener.specs.Block.{BlockState}
use Rattle.flattener.specs.declared.document.Block.{Block}
use Rattle.flattener.specs.Seen.{block_seen, document_seen}
use Rattle.mapping.specs.Mapping.{Mapping}
use Rattle.segment.specs.Flat.{FlatRoot, flat_root}
use Rattle.segment_builder.specs.Blocks.{block_objects, objects_of}
use Rattle.stored_sources.specs.declared.root.Root.{Root}
use Rattle.stored_sources.specs.Roots.{no_root, root_of}
use Rattle.store_check.specs.Made.{AreBlocksOf, IsBlockOf}

pub few_left : (blocks : List Block) (at : ℕ) (block : Block) → at < length blocks → block ≡ get_or blocks at block
    → objects_of (map block_seen (drop at blocks)) ≡ length block.documents.items + objects_of (map block_seen (drop (at + 1) blocks))
few_left blocks at block h is =
    let rest : ℕ = objects_of (map block_seen (drop (at + 1) blocks)) in
    at_drop_more (λ (it : List Block). objects_of (map block_seen it)) blocks at block h
    ∙ (sum_by-cons block_objects (block_seen (get_or blocks at block)) (map block_seen (drop (at + 1) blocks))
    ∙ ap (λ (n : ℕ). n + rest) (length-map (get_or blocks at block).documents.items document_seen ∙ ap (λ (it : Block). length it.documents.items) (sym is)))

pub zip_more : {X Y : Type 0} (R : X → Y → Type 0) (xs : List X) (ys : List Y) (x : X) (y : Y) → AllZip R xs ys → R x y → AllZip R (xs ++ x ∷ []) (ys ++ y ∷ [])
zip_more R [] [] x y all one = (one, tt)
zip_more R [] (other ∷ ys) x y all one = absurd all
zip_more R (other ∷ xs) [] x y all one = absurd all
zip_more R (own ∷ xs) (other ∷ ys) x y all one = (all.0, zip_more R xs ys x y all.1 one)

pub one_more : (m : Mapping) (roots : List Root) (blocks more : List Block) (block : Block) (at : ℕ) → at < length roots
    → AreBlocksOf m (take at (map flat_root roots)) (map block_seen blocks) → IsBlockOf m (flat_root (root_of roots at)) (block_seen block) → more ≡ blocks ++ block ∷ []
    → AreBlocksOf m (take (at + 1) (map flat_root roots)) (map block_seen more)
one_more m roots blocks more block at h all one is =
    let root : FlatRoot = flat_root (root_of roots at) in
    let h' : at < length (map flat_root roots) = omega (arith, h, length-map roots flat_root) in
    let own : get_or (map flat_root roots) at root ≡ root = get_or-map flat_root roots at no_root root h in
    let fronts : take (at + 1) (map flat_root roots) ≡ take at (map flat_root roots) ++ root ∷ [] =
    take_more (map flat_root roots) at root h' ∙ ap (λ (it : FlatRoot). take at (map flat_root roots) ++ it ∷ []) own in
    let seen : map block_seen more ≡ map block_seen blocks ++ block_seen block ∷ [] = ap (map block_seen) is ∙ map-append block_seen blocks (block ∷ []) in
    subst (λ (it : List FlatRoot). AreBlocksOf m it (map block_seen more)) (sym fronts)
    (subst (λ (it : List BlockState). AreBlocksOf m (take at (map flat_root roots) ++ root ∷ []) it) (sym seen)
    (zip_more (IsBlockOf m) (take at (map flat_root roots)) (map block_seen blocks) root (block_seen block) all one))
