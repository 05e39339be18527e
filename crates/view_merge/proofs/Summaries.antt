-- The row of an entry: what it counts of the blocks of a segment.
use Rattle.std.proofs.Common.{◌≡◌, ℕ, zero, suc, ◌+◌, ◌-◌, ◌<◌, ◌≤◌, Bool, true, false, List, [], ◌∷◌, length, map, filter, get_or, replicate, slice_index_or, cond, refl, sym, ap, subst, ◌∙◌, arith}
use Rattle.std.specs.List.{count_by, range_with_len, sum_by}
use Rattle.std.proofs.lemmas.List.{get_or-map, length-map}
use Rattle.std.proofs.lemmas.List.FromFn.{length-range_with_len}
use Rattle.block_bits.specs.Flags.{is_marked}
use Rattle.flattener.specs.Block.{BlockState}
use Rattle.layout.proofs.Goes.{counted, split}
use Rattle.layout.specs.Layout.{Marked, is_live, item_in}
use Rattle.layout.specs.Merges.{SegmentSummary}
use Rattle.segment.specs.Flat.{FlatRoot, flat_root, roots_of}
use Rattle.segment.specs.Live.{EntryState, IsLiveOver, LiveState, live_docs, root_of as root_rank}
use Rattle.segment_parts.specs.Parts.{root_flags}
use Rattle.segment_parts.specs.declared.columns.Columns.{Columns}
use Rattle.segment_builder.specs.Blocks.{block_objects, blocks_in, blocks_of, marked_by, objects_of}
use Rattle.stored_sources.specs.Roots.{no_root, root_of}
use Rattle.stored_sources.specs.declared.root.Root.{Root}
use Rattle.view_merge.specs.Given.{number_of_block}

-- ---- roots

pub items_are : (blocks : List BlockState) (marks : List Bool) → length blocks ≡ length marks → map item_in (marked_by blocks marks) ≡ blocks
items_are [] marks long = refl
items_are (block ∷ blocks) [] long = absurd (omega (arith, long))
items_are (block ∷ blocks) (mark ∷ marks) long = ap (λ bs. block ∷ bs) (items_are blocks marks (omega (arith, long)))

pub marked_length : (blocks : List BlockState) (marks : List Bool) → length blocks ≡ length marks → length (marked_by blocks marks) ≡ length blocks
marked_length [] marks long = refl
marked_length (block ∷ blocks) [] long = absurd (omega (arith, long))
marked_length (block ∷ blocks) (mark ∷ marks) long = omega (arith, marked_length blocks marks (omega (arith, long)))

-- the blocks of a segment are as many as its roots
pub blocks_long : (columns : Columns) → map (λ (block : BlockState). block.root) (blocks_of columns) ≡ roots_of columns → length (blocks_of columns) ≡ length columns.roots
blocks_long columns roots = omega (arith, ap length roots, length-map (blocks_of columns) (λ (block : BlockState). block.root), length-map columns.roots flat_root)

map_twice : {A B C : Type 0} (f : B → C) (g : A → B) (xs : List A) → map f (map g xs) ≡ map (λ x. f (g x)) xs
map_twice f g [] = refl
map_twice f g (x ∷ xs) = ap (λ rest. f (g x) ∷ rest) (map_twice f g xs)

-- the numbers of the blocks are those of the roots
numbers_are : (columns : Columns) → map (λ (block : BlockState). block.root) (blocks_of columns) ≡ roots_of columns → map number_of_block (blocks_of columns) ≡ map (λ (root : Root). root.number) columns.roots
numbers_are columns roots =
    sym (map_twice (λ (root : FlatRoot). root.number) (λ (block : BlockState). block.root) (blocks_of columns))
    ∙ ap (map (λ (root : FlatRoot). root.number)) roots
    ∙ map_twice (λ (root : FlatRoot). root.number) flat_root columns.roots

pub number_at : (entry : EntryState) (root : ℕ) → map (λ (block : BlockState). block.root) (blocks_of entry.columns) ≡ roots_of entry.columns → IsLiveOver entry.columns entry.live → root < length entry.columns.roots
    → (root_of entry.columns.roots root).number ≡ get_or (map number_of_block (map item_in (blocks_in entry))) root 0
number_at entry root roots over within =
    let long = blocks_long entry.columns roots in
    let same : map number_of_block (map item_in (blocks_in entry)) ≡ map (λ (r : Root). r.number) entry.columns.roots =
    ap (map number_of_block) (items_are (blocks_of entry.columns) entry.live.roots (omega (arith, long, over.roots))) ∙ numbers_are entry.columns roots in
    sym (ap (λ ns. get_or ns root 0) same ∙ get_or-map (λ (r : Root). r.number) entry.columns.roots root no_root 0 within)

-- ---- documents

all_true : (n k : ℕ) → slice_index_or (replicate n true) k true ≡ true
all_true zero k = refl
all_true (suc n) zero = refl
all_true (suc n) (suc k) = all_true n k

count_all : (f : ℕ → Bool) → ((k : ℕ) → f k ≡ true) → (ks : List ℕ) → count_by is_marked (map f ks) ≡ length ks
count_all f all [] = refl
count_all f all (k ∷ ks) =
    let one : ◌≡◌ {A = Bool} (is_marked (f k)) true = ap is_marked (all k) in
    let own : ◌≡◌ {A = ℕ} (cond (is_marked (f k)) 1 0) 1 = ap (λ b. cond b 1 0) one in
    omega (arith, count_all f all ks, counted is_marked (f k) (map f ks), own)

length-replicate : (n : ℕ) → length (replicate n true) ≡ n
length-replicate zero = refl
length-replicate (suc n) = omega (arith, length-replicate n)

docs_long : (flags : List Bool) (marks : List Bool) → length (live_docs flags marks) ≡ length flags
unfolding live_docs
docs_long flags marks = omega (arith, length-map (range_with_len 0 (length flags)) (λ doc. slice_index_or marks (root_rank flags doc) true), length-range_with_len 0 (length flags))

docs_all : (flags : List Bool) (n : ℕ) → count_by is_marked (live_docs flags (replicate n true)) ≡ length flags
unfolding live_docs
docs_all flags n = count_all (λ doc. slice_index_or (replicate n true) (root_rank flags doc) true) (λ doc. all_true n (root_rank flags doc)) (range_with_len 0 (length flags)) ∙ length-range_with_len 0 (length flags)

live_all : (blocks : List BlockState) → map item_in (filter is_live (marked_by blocks (replicate (length blocks) true))) ≡ blocks
live_all [] = refl
live_all (block ∷ blocks) = ap (λ bs. block ∷ bs) (live_all blocks)

-- the blocks of an entry, dead ones too, have its documents
pub objects_are : (entry : EntryState) → map (λ (block : BlockState). block.root) (blocks_of entry.columns) ≡ roots_of entry.columns → IsLiveOver entry.columns entry.live
    → ((live : LiveState) → IsLiveOver entry.columns live → count_by is_marked live.docs ≡ objects_of (map item_in (filter is_live (marked_by (blocks_of entry.columns) live.roots))))
    → sum_by block_objects (map item_in (blocks_in entry)) ≡ entry.columns.documents
objects_are entry roots over counts =
    let columns = entry.columns in
    let flags = root_flags columns.scopes in
    let blocks = blocks_of columns in
    let n = length blocks in
    let long = blocks_long columns roots in
    let all : LiveState = record { docs = live_docs flags (replicate n true); roots = replicate n true } in
    let flags_long : length flags ≡ columns.documents = omega (arith, ap length over.docs, docs_long flags entry.live.roots, over.documents) in
    let is : IsLiveOver columns all = record { roots = omega (arith, length-replicate n, long); documents = omega (arith, docs_long flags (replicate n true), flags_long); docs = refl } in
    ap (sum_by block_objects) (items_are blocks entry.live.roots (omega (arith, long, over.roots)))
    ∙ ap objects_of (sym (live_all blocks)) ∙ sym (counts all is) ∙ docs_all flags n ∙ flags_long

-- ---- the row

pub entry_long : (entry : EntryState) → map (λ (block : BlockState). block.root) (blocks_of entry.columns) ≡ roots_of entry.columns → IsLiveOver entry.columns entry.live → length (blocks_in entry) ≡ length entry.columns.roots
entry_long entry roots over =
    let long = blocks_long entry.columns roots in
    marked_length (blocks_of entry.columns) entry.live.roots (omega (arith, long, over.roots)) ∙ long

pub fewer_live : (ms : List (Marked BlockState)) → length (map item_in (filter is_live ms)) ≤ length ms
fewer_live [] = omega arith
fewer_live (m ∷ ms) = split m.live (λ is. rw is (omega (arith, fewer_live ms))) (λ isnt. rw isnt (omega (arith, fewer_live ms)))

pub summary_same : (a b : SegmentSummary) → a.dead ≡ b.dead → a.first ≡ b.first → a.last ≡ b.last → a.live ≡ b.live → a.objects ≡ b.objects → a ≡ b
summary_same a b dead first last live objects = λ i. record { dead = dead i; first = first i; last = last i; live = live i; objects = objects i }
