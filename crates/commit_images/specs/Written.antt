-- Laws of several writes. They serve proofs.
use Rattle.std.proofs.Common.{◌≡◌, ℕ, ◌+◌, ◌<◌, Bool, List, [], ◌∷◌, ◌++◌, length, get_or, take, drop, map, Option, None, Some, refl, sym, ◌∙◌, ap, subst}
use Rattle.std.proofs.lemmas.List.{map-append, map_more, take-append-drop}
use Rattle.disk.specs.Memory.{written}
use Rattle.disk.specs.Stops.{Torn, TakesAll, Within, Follows}
use Rattle.disk.specs.Torn.{torn_same, torn_written, stands_written}
use Rattle.store_text.specs.Pieces.{Piece, Stands, AllStand}
use Rattle.commit_images.specs.declared.block.Block.{Block}
use Rattle.commit_images.specs.Commits.{Commit}
use Rattle.commit_images.specs.Keeping.{IsKnown, AreFree}
use Rattle.commit_images.specs.Known.{Preserves, still_known, preserves_same, preserves_on, free_preserves}
use Rattle.commit_images.specs.Standing.{torn_stands}
use Rattle.commit_images.specs.Writes.{piece_of, written_each, TakesEach, TornByEach, LeftBy, AllApart, AreApart}

-- ---- one write more

written_more : (pieces : List Piece) (piece : Piece) (file : List ℕ) → written_each (pieces ++ piece ∷ []) file ≡ written piece.at piece.bytes (written_each pieces file)
written_more [] piece file = refl
written_more (first ∷ pieces) piece file = written_more pieces piece (written first.at first.bytes file)

pub takes_more : (pieces : List Piece) (piece : Piece) (old mid new : Option (List ℕ)) → TakesEach pieces old mid → TakesAll piece.at piece.bytes mid new
    → TakesEach (pieces ++ piece ∷ []) old new
takes_more pieces piece None mid new first then = subst (λ (it : Option (List ℕ)). TakesAll piece.at piece.bytes it new) first then
takes_more pieces piece (Some file) mid new first then =
    subst (λ (it : Option (List ℕ)). TakesAll piece.at piece.bytes it new) first then ∙ ap (λ (it : List ℕ). Some it) (sym (written_more pieces piece file))

torn_more : (pieces : List Piece) (piece : Piece) (old mid new : List ℕ) → TornByEach pieces old mid → Torn piece.at (length piece.bytes) mid new
    → TornByEach (pieces ++ piece ∷ []) old new
torn_more [] piece old mid new same torn = (new, subst (λ (it : List ℕ). Torn piece.at (length piece.bytes) it new) same torn, refl)
torn_more (first ∷ pieces) piece old mid new run torn = (run.0, run.1, torn_more pieces piece run.0 mid new run.2 torn)

-- writes that have not begun leave what there is
torn_none : (pieces : List Piece) (file : List ℕ) → TornByEach pieces file file
torn_none [] file = refl
torn_none (piece ∷ pieces) file = (file, torn_same piece.at (length piece.bytes) file, torn_none pieces file)

torn_rest : (pieces others : List Piece) (old new : List ℕ) → TornByEach pieces old new → TornByEach (pieces ++ others) old new
torn_rest [] others old new same = subst (λ (it : List ℕ). TornByEach others it new) same (torn_none others new)
torn_rest (piece ∷ pieces) others old new run = (run.0, run.1, torn_rest pieces others run.0 new run.2)

pub left_none : (images : List ℕ → Type 0) → Within images (LeftBy [] images)
left_none images image is = (image, is, refl)

pub left_more : (pieces : List Piece) (piece : Piece) (old mid new : List ℕ → Type 0) → Within mid (LeftBy pieces old)
    → Follows (Torn piece.at (length piece.bytes)) mid new → Within new (LeftBy (pieces ++ piece ∷ []) old)
left_more pieces piece old mid new left follows image is =
    let before = follows image is in
    let start = left before.0 before.1 in
    (start.0, start.1, torn_more pieces piece start.0 before.0 image start.2 before.2)

pub left_rest : (pieces others : List Piece) (old : List ℕ → Type 0) → Within (LeftBy pieces old) (LeftBy (pieces ++ others) old)
left_rest pieces others old image left = (left.0, left.1, torn_rest pieces others left.0 image left.2)

-- ---- a loop over blocks

pub takes_none : (content : Option (List ℕ)) → TakesEach [] content content
takes_none None = refl
takes_none (Some file) = refl

-- the next block goes last
pub pieces_more : (blocks : List Block) (at : ℕ) (d : Block) → at < length blocks
    → map piece_of (take (at + 1) blocks) ≡ map piece_of (take at blocks) ++ piece_of (get_or blocks at d) ∷ []
pieces_more blocks at d inside = map_more piece_of blocks at d inside

-- what some of the writes may leave all of them may
pub left_whole : (blocks : List Block) (count : ℕ) (old : List ℕ → Type 0) → Within (LeftBy (map piece_of (take count blocks)) old) (LeftBy (map piece_of blocks) old)
left_whole blocks count old image left =
    let all : map piece_of (take count blocks) ++ map piece_of (drop count blocks) ≡ map piece_of blocks
    = sym (map-append piece_of (take count blocks) (drop count blocks)) ∙ ap (map piece_of) (take-append-drop count blocks) in
    subst (λ (pieces : List Piece). LeftBy pieces old image) all
    (left_rest (map piece_of (take count blocks)) (map piece_of (drop count blocks)) old image left)

-- one turn of it, as far as what a read gives and what a stop leaves
pub turn_takes : (blocks : List Block) (at : ℕ) (d : Block) (old mid new : Option (List ℕ)) → at < length blocks
    → TakesEach (map piece_of (take at blocks)) old mid → TakesAll (get_or blocks at d).at (get_or blocks at d).bytes.now mid new
    → TakesEach (map piece_of (take (at + 1) blocks)) old new
turn_takes blocks at d old mid new inside first then =
    subst (λ (pieces : List Piece). TakesEach pieces old new) (sym (pieces_more blocks at d inside))
    (takes_more (map piece_of (take at blocks)) (piece_of (get_or blocks at d)) old mid new first then)

pub turn_leaves : (blocks : List Block) (at : ℕ) (d : Block) (old mid new : List ℕ → Type 0) → at < length blocks
    → Within mid (LeftBy (map piece_of (take at blocks)) old) → Follows (Torn (get_or blocks at d).at (length (get_or blocks at d).bytes.now)) mid new
    → Within new (LeftBy (map piece_of (take (at + 1) blocks)) old)
turn_leaves blocks at d old mid new inside left follows image here =
    subst (λ (pieces : List Piece). LeftBy pieces old image) (sym (pieces_more blocks at d inside))
    (left_more (map piece_of (take at blocks)) (piece_of (get_or blocks at d)) old mid new left follows image here)

pub turn_left : (blocks : List Block) (at : ℕ) (d : Block) (old mid new : List ℕ → Type 0) → at < length blocks
    → Within mid (LeftBy (map piece_of (take at blocks)) old) → Follows (Torn (get_or blocks at d).at (length (get_or blocks at d).bytes.now)) mid new
    → Within new (LeftBy (map piece_of blocks) old)
turn_left blocks at d old mid new inside left follows image here =
    left_whole blocks (at + 1) old image (turn_leaves blocks at d old mid new inside left follows image here)

-- ---- what stands behind them

pub each_keeps : (pieces : List Piece) (kept : Piece) (file : List ℕ) → AllApart pieces kept → Stands file kept → Stands (written_each pieces file) kept
each_keeps [] kept file apart stands = stands
each_keeps (piece ∷ pieces) kept file apart stands =
    each_keeps pieces kept (written piece.at piece.bytes file) apart.1
    (torn_stands piece.at (length piece.bytes) kept file (written piece.at piece.bytes file) (torn_written piece.at piece.bytes file) apart.0 stands)

-- pieces that were written apart from one another stand, all of them
pub each_stands : (pieces : List Piece) (file : List ℕ) → AreApart pieces → AllStand pieces (written_each pieces file)
each_stands [] file apart = tt
each_stands (piece ∷ pieces) file apart = (
  each_keeps pieces piece (written piece.at piece.bytes file) apart.0 (stands_written piece.at piece.bytes file),
  each_stands pieces (written piece.at piece.bytes file) apart.1,
)

-- writes to new extents leave the last commit
pub each_preserves : {X : Type 0} (active : Option (Commit X)) (closed : Bool) (pieces : List Piece) (old new : List ℕ) → TornByEach pieces old new
    → AreFree active pieces → IsKnown active closed old → Preserves active old new
each_preserves active closed [] old new same free known =
    subst (λ (it : List ℕ). Preserves active old it) (sym same) (preserves_same active closed old known)
each_preserves active closed (piece ∷ pieces) old new run free known =
    let first : Preserves active old run.0 = free_preserves active closed piece old run.0 run.1 free.0 known in
    preserves_on active old run.0 new first
    (each_preserves active closed pieces run.0 new run.2 free.1 (still_known active closed old run.0 known first))

pub left_preserves : {X : Type 0} (active : Option (Commit X)) (closed : Bool) (pieces : List Piece) (images : List ℕ → Type 0) → AreFree active pieces
    → ((image : List ℕ) → images image → IsKnown active closed image) → Follows (Preserves active) images (LeftBy pieces images)
left_preserves active closed pieces images free each image left =
    (left.0, left.1, each_preserves active closed pieces left.0 image left.2 free (each left.0 left.1))
