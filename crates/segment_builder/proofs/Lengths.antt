-- How many documents the blocks of a segment have, and how many of them are live.
use Rattle.std.proofs.Common.{◌≡◌, ℕ, zero, suc, ◌+◌, ◌-◌, ◌<◌, ◌==◌, Bool, true, false, cond, List, [], ◌∷◌, ◌++◌, length, map, filter, get_or, slice_get, replicate, Some, refl, sym, ap, ◌∙◌, arith, eqb-true}
use Rattle.std.specs.List.{count_by, range_with_len}
use Rattle.std.proofs.lemmas.List.{length-map, length-replicate, length-append}
use Rattle.std.proofs.lemmas.List.Sums.{sum_by-cons, sum_by-append}
use Rattle.block_bits.specs.Flags.{is_marked}
use Rattle.flattener.specs.Block.{BlockState}
use Rattle.flattener.specs.Fits.{is_root}
use Rattle.layout.specs.Layout.{Marked, is_live, item_in}
use Rattle.segment.specs.Agree.{AreColumns}
use Rattle.segment.specs.Flat.{FlatDocument, FlatRoot, flat_of, flats_of, roots_of}
use Rattle.segment.specs.Live.{LiveState, IsLiveOver, live_docs, block_start, block_end}
use Rattle.segment.specs.Marks.{count-mark}
use Rattle.segment.specs.Parts.{root_flags}
use Rattle.segment.specs.Roots.{root_documents}
use Rattle.segment.specs.Text.{marked_places}
use Rattle.segment_parts.specs.declared.columns.Columns.{Columns}
use Rattle.segment_builder.specs.Blocks.{cut_from, blocks_of, marked_by, block_objects, objects_of}
use Rattle.segment_builder.proofs.Keys.{split}
use Rattle.segment_builder.proofs.Stands.{block_roots, marks_in, flags_are, docs_are, covered_from}

-- ---- from where a block begins to where it ends

-- where a block begins: behind the root before it, the first one at a given place
abbrev begins : ℕ → List ℕ → ℕ → ℕ
begins first places zero = first
begins first places (suc root) = get_or places root 0 + 1

one_longer : (front : List FlatDocument) (flat : FlatDocument) → length (front ++ flat ∷ []) ≡ length front + 1
one_longer front flat = length-append front (flat ∷ [])

some_is : {A : Type 0} (x y : A) → Some x ≡ Some y → x ≡ y
some_is x y e = cc (e)

-- the root's own block, and those behind it
ends_here : (flat : FlatDocument) (flats front : List FlatDocument) (r : FlatRoot) (roots : List FlatRoot) (first start : ℕ) (block : BlockState) → first + length front ≡ start → (flat.scope == 0) ≡ true
    → ((root : ℕ) → slice_get (cut_from [] flats roots) root ≡ Some block → begins (start + 1) (marked_places (start + 1) (map is_root flats)) root + length block.flats ≡ get_or (marked_places (start + 1) (map is_root flats)) root 0 + 1)
    → (root : ℕ) → slice_get (cut_from front (flat ∷ flats) (r ∷ roots)) root ≡ Some block
    → begins first (marked_places start (map is_root (flat ∷ flats))) root + length block.flats ≡ get_or (marked_places start (map is_root (flat ∷ flats))) root 0 + 1
ends_here flat flats front r roots first start block here is more zero found =
    let own : Some (record { flats = front ++ flat ∷ []; root = r }) ≡ Some block = rw is at found in
    let same : record { flats = front ++ flat ∷ []; root = r } ≡ block = some_is (record { flats = front ++ flat ∷ []; root = r }) block own in
    let long : length block.flats ≡ length front + 1 = ap (λ (b : BlockState). length b.flats) (sym same) ∙ one_longer front flat in
    rw is (omega (arith, here, long))
ends_here flat flats front r roots first start block here is more (suc zero) found = rw is (more zero (rw is at found))
ends_here flat flats front r roots first start block here is more (suc (suc root)) found = rw is (more (suc root) (rw is at found))

cut_lengths : (flats front : List FlatDocument) (roots : List FlatRoot) (first start root : ℕ) (block : BlockState) → first + length front ≡ start → slice_get (cut_from front flats roots) root ≡ Some block
    → begins first (marked_places start (map is_root flats)) root + length block.flats ≡ get_or (marked_places start (map is_root flats)) root 0 + 1
cut_lengths [] front roots first start root block here found = absurd (cc (found))
cut_lengths (flat ∷ flats) front [] first start root block here found = absurd (cc (found))
cut_lengths (flat ∷ flats) front (r ∷ roots) first start root block here found =
    split (flat.scope == 0)
    (λ is. ends_here flat flats front r roots first start block here is (λ k e. cut_lengths flats [] roots (start + 1) (start + 1) k block (omega arith) e) root found)
    (λ isnt.
    let rest : slice_get (cut_from (front ++ flat ∷ []) flats (r ∷ roots)) root ≡ Some block = rw isnt at found in
    rw isnt (cut_lengths flats (front ++ flat ∷ []) (r ∷ roots) first (start + 1) root block (omega (arith, here, one_longer front flat)) rest))

begin_is : (scopes : List (List Bool)) (root : ℕ) → block_start scopes root ≡ begins 0 (root_documents scopes) root
begin_is scopes zero = refl
begin_is scopes (suc root) =
    let e : suc root - 1 ≡ root = omega arith in
    let later : (suc root == 0) ≡ false = split (suc root == 0) (λ is. absurd (omega (arith, eqb-true (suc root) 0 is))) (λ isnt. isnt) in
    rw (later, e) refl

-- ---- live documents

count_same : (n : ℕ) → count_by is_marked (replicate n true) ≡ n
count_same zero = refl
count_same (suc n) = omega (arith, count-mark true (replicate n true), count_same n)

count_none : (n : ℕ) → count_by is_marked (replicate n false) ≡ 0
count_none zero = refl
count_none (suc n) = omega (arith, count-mark false (replicate n false), count_none n)

count_both : (xs ys : List Bool) → count_by is_marked (xs ++ ys) ≡ count_by is_marked xs + count_by is_marked ys
count_both xs ys = sum_by-append (λ one. cond one 1 0) xs ys

count_live : (blocks : List (Marked BlockState)) → count_by is_marked (marks_in blocks) ≡ objects_of (map item_in (filter is_live blocks))
count_live [] = refl
count_live (block ∷ blocks) =
    let both = count_both (replicate (length block.item.flats) block.live) (marks_in blocks) in
    split block.live
    (λ is.
    let own : count_by is_marked (replicate (length block.item.flats) block.live) ≡ length block.item.flats = ap (λ b. count_by is_marked (replicate (length block.item.flats) b)) is ∙ count_same (length block.item.flats) in
    let kept : map item_in (filter is_live (block ∷ blocks)) ≡ block.item ∷ map item_in (filter is_live blocks) = rw is refl in
    omega (arith, both, own, ap objects_of kept, sum_by-cons block_objects block.item (map item_in (filter is_live blocks)), count_live blocks))
    (λ isnt.
    let own : count_by is_marked (replicate (length block.item.flats) block.live) ≡ 0 = ap (λ b. count_by is_marked (replicate (length block.item.flats) b)) isnt ∙ count_none (length block.item.flats) in
    let kept : map item_in (filter is_live (block ∷ blocks)) ≡ map item_in (filter is_live blocks) = rw isnt refl in
    omega (arith, both, own, ap objects_of kept, count_live blocks))

-- ---- a segment

module _ (columns : Columns) (own : AreColumns columns)
    (scoped : (scope doc : ℕ) → scope < length columns.scopes → doc < columns.documents → get_or (get_or columns.scopes scope []) doc false ≡ ((flat_of columns doc).scope == scope)) where
  -- all roots live
  abbrev all_live : LiveState
  all_live = record { docs = live_docs (root_flags columns.scopes) (replicate (length columns.roots) true); roots = replicate (length columns.roots) true }

  flags_count : length (root_flags columns.scopes) ≡ columns.documents
  flags_count = own.parts.head.long 0 [] own.parts.head.some

  over_all : IsLiveOver columns all_live
  unfolding live_docs
  over_all = record {
    roots = length-replicate (length columns.roots) true;
    documents = long ∙ flags_count;
    docs = refl;
  }
    where
      ranged : (from count : ℕ) → length (range_with_len from count) ≡ count
      ranged from zero = refl
      ranged from (suc count) = ap suc (ranged (from + 1) count)

      long : length (live_docs (root_flags columns.scopes) (replicate (length columns.roots) true)) ≡ length (root_flags columns.scopes)
      long = length-map (range_with_len 0 (length (root_flags columns.scopes))) _ ∙ ranged 0 (length (root_flags columns.scopes))

  pub roots_whole : block_roots (blocks_of columns) ≡ roots_of columns
  unfolding blocks_of
  roots_whole = (covered_from columns all_live own over_all scoped (flats_of columns) refl).cut.same

  pub lengths_whole : (root : ℕ) (block : BlockState) → slice_get (blocks_of columns) root ≡ Some block → block_start columns.scopes root + length block.flats ≡ block_end columns.scopes root
  unfolding blocks_of root_documents
  lengths_whole root block at =
      let places : root_documents columns.scopes ≡ marked_places 0 (map is_root (flats_of columns)) = ap (marked_places 0) (flags_are columns all_live own over_all scoped) in
      let more = cut_lengths (flats_of columns) [] (roots_of columns) 0 0 root block refl at in
      let begin : block_start columns.scopes root ≡ begins 0 (marked_places 0 (map is_root (flats_of columns))) root = begin_is columns.scopes root ∙ ap (λ ps. begins 0 ps root) places in
      let end : get_or (root_documents columns.scopes) root 0 ≡ get_or (marked_places 0 (map is_root (flats_of columns))) root 0 = ap (λ ps. get_or ps root 0) places in
      omega (arith, more, begin, end)

  pub live_whole : (live : LiveState) → IsLiveOver columns live → count_by is_marked live.docs ≡ objects_of (map item_in (filter is_live (marked_by (blocks_of columns) live.roots)))
  unfolding blocks_of
  live_whole live over =
      let covered = covered_from columns live own over scoped (flats_of columns) refl in
      ap (count_by is_marked) (docs_are columns live own over scoped ∙ sym covered.marks) ∙ count_live (marked_by (blocks_of columns) live.roots)

  pub marks_whole : (live : LiveState) → IsLiveOver columns live → live.docs ≡ marks_in (marked_by (blocks_of columns) live.roots)
  unfolding blocks_of
  marks_whole live over = docs_are columns live own over scoped ∙ sym (covered_from columns live own over scoped (flats_of columns) refl).marks
