-- An entry whose blocks are those of marked trees stands for these trees.
use Rattle.std.proofs.Common.{◌≡◌, ℕ, zero, suc, ◌+◌, ◌-◌, ◌<◌, ◌≤◌, ◌==◌, Bool, true, false, cond, if◌then◌else◌, List, [], ◌∷◌, ◌++◌, length, map, take, drop, get_or, replicate, slice_index_or, refl, sym, ap, subst, ◌∙◌, append_assoc, append-nil, arith}
use Rattle.std.specs.List.{count_by, flat_map, range_with_len}
use Rattle.std.proofs.lemmas.List.{length-map}
use Rattle.std.proofs.lemmas.List.FromFn.{fill_by_all}
use Rattle.block_bits.specs.Flags.{is_marked}
use Rattle.flattener.specs.Block.{BlockState, block_of, flats_of_tree}
use Rattle.flattener.specs.Fits.{is_root}
use Rattle.flattener.specs.Flat.{flat_of as flat_of_object}
use Rattle.flattener.specs.StandsFor.{Marked, flat_at, live_mark, EntryStandsFor}
use Rattle.mapping.specs.IsMapping.{IsMapping}
use Rattle.mapping.specs.Mapping.{Mapping}
use Rattle.segment.specs.Agree.{AreColumns}
use Rattle.segment.specs.Flat.{FlatDocument, FlatRoot, flat_of, flats_of, roots_of, flat_root}
use Rattle.segment.specs.Live.{LiveState, IsLiveOver, live_docs}
use Rattle.segment.specs.Marks.{count-mark}
use Rattle.segment.specs.Parts.{root_flags}
use Rattle.segment_parts.specs.declared.columns.Columns.{Columns}
use Rattle.tree_objects.specs.Object.{Object, block_objects}
use Rattle.tree_objects.specs.Tree.{Tree}
use Rattle.segment_builder.specs.Blocks.{cut_from, blocks_of, marked_by, block_of_marked}
use Rattle.segment_builder.proofs.Assembled.{map_twice}
use Rattle.segment_builder.proofs.Keys.{split}

-- ---- the roots among documents

abbrev roots_in : List FlatDocument → ℕ
roots_in [] = 0
roots_in (flat ∷ flats) = cond (is_root flat) 1 0 + roots_in flats

count_is : (flats : List FlatDocument) → count_by is_marked (map is_root flats) ≡ roots_in flats
count_is [] = refl
count_is (flat ∷ flats) = count-mark (is_root flat) (map is_root flats) ∙ ap (λ n. cond (is_root flat) 1 0 + n) (count_is flats)

-- the last document, if there is one, is a root
abbrev EndsWell : List FlatDocument → Type 0
EndsWell [] = Unit {0}
EndsWell (flat ∷ []) = is_root flat ≡ true
EndsWell (flat ∷ next ∷ flats) = EndsWell (next ∷ flats)

ends_well : (flat : FlatDocument) (flats : List FlatDocument) → get_or (map is_root (flat ∷ flats)) (length flats) false ≡ true → EndsWell (flat ∷ flats)
ends_well flat [] last = last
ends_well flat (next ∷ flats) last = ends_well next flats last

some_root : (flat : FlatDocument) (flats : List FlatDocument) → EndsWell (flat ∷ flats) → 1 ≤ roots_in (flat ∷ flats)
some_root flat [] ends = rw ends (omega arith)
some_root flat (next ∷ flats) ends = let later : 1 ≤ roots_in (next ∷ flats) = some_root next flats ends in omega (arith, later)

-- ---- cut, they are covered

abbrev pub flats_in : List BlockState → List FlatDocument
flats_in blocks = flat_map (λ (block : BlockState). block.flats) blocks

abbrev pub block_roots : List BlockState → List FlatRoot
block_roots blocks = map (λ (block : BlockState). block.root) blocks

pub record AreCut (front flats : List FlatDocument) (roots : List FlatRoot) : Type 0 where
  pub documents : flats_in (cut_from front flats roots) ≡ front ++ flats
  pub same : block_roots (cut_from front flats roots) ≡ roots

cut_all : (flat : FlatDocument) (flats front : List FlatDocument) (roots : List FlatRoot) → EndsWell (flat ∷ flats) → roots_in (flat ∷ flats) ≡ length roots → AreCut front (flat ∷ flats) roots
cut_all flat flats front [] ends count = absurd (omega (arith, some_root flat flats ends, count))
cut_all flat [] front (root ∷ roots) ends count =
    let is : (flat.scope == 0) ≡ true = ends in
    let none : roots ≡ [] = no_more roots (omega (arith, rw ends at count)) in
    record {
      documents = rw is (append-nil (front ++ flat ∷ []));
      same = rw is (ap (λ rs. root ∷ rs) (sym none));
    }
  where
    no_more : (rs : List FlatRoot) → length rs ≡ 0 → rs ≡ []
    no_more [] h = refl
    no_more (r ∷ rs) h = absurd (omega (arith, h))
cut_all flat (next ∷ flats) front (root ∷ roots) ends count =
    split (is_root flat)
    (λ is.
    let less : roots_in (next ∷ flats) ≡ length roots = omega (arith, rw is at count) in
    let rest : AreCut [] (next ∷ flats) roots = cut_all next flats [] roots ends less in
    record {
      documents = rw is (ap (λ fs. (front ++ flat ∷ []) ++ fs) rest.documents ∙ append_assoc front (flat ∷ []) (next ∷ flats));
      same = rw is (ap (λ rs. root ∷ rs) rest.same);
    })
    (λ isnt.
    let rest : AreCut (front ++ flat ∷ []) (next ∷ flats) (root ∷ roots) = cut_all next flats (front ++ flat ∷ []) (root ∷ roots) ends (omega (arith, rw isnt at count)) in
    record {
      documents = rw isnt (rest.documents ∙ append_assoc front (flat ∷ []) (next ∷ flats));
      same = rw isnt rest.same;
    })

-- ---- which documents are live, root by root

map_same : {A B : Type 0} (f g : A → B) → ((x : A) → f x ≡ g x) → (xs : List A) → map f xs ≡ map g xs
map_same f g same [] = refl
map_same f g same (x ∷ xs) = rw (same x, map_same f g same xs) refl

shifted : {B : Type 0} (f : ℕ → B) (a n : ℕ) → map f (range_with_len (a + 1) n) ≡ map (λ x. f (x + 1)) (range_with_len a n)
shifted f a zero = refl
shifted f a (suc n) = ap (λ rest. f (a + 1) ∷ rest) (shifted f (a + 1) n)

abbrev live_by : List Bool → List Bool → List Bool
live_by [] marks = []
live_by (flag ∷ flags) marks = get_or marks 0 true ∷ live_by flags (if flag then drop 1 marks else marks)

abbrev mark_at : List Bool → List Bool → ℕ → Bool
mark_at flags marks doc = get_or marks (count_by is_marked (take doc flags)) true

get_next : (marks : List Bool) (k : ℕ) → get_or marks (1 + k) true ≡ get_or (drop 1 marks) k true
get_next [] k = refl
get_next (mark ∷ marks) k = let e : 1 + k ≡ suc k = omega arith in rw e refl

next_mark : (flag : Bool) (flags marks : List Bool) (doc : ℕ) → mark_at (flag ∷ flags) marks (doc + 1) ≡ mark_at flags (if flag then drop 1 marks else marks) doc
next_mark true flags marks doc =
    let e : doc + 1 ≡ suc doc = omega arith in
    rw (e, count-mark true (take doc flags)) (get_next marks (count_by is_marked (take doc flags)))
next_mark false flags marks doc =
    let e : doc + 1 ≡ suc doc = omega arith in
    let zero_more : 0 + count_by is_marked (take doc flags) ≡ count_by is_marked (take doc flags) = omega arith in
    rw (e, count-mark false (take doc flags), zero_more) refl

live_is : (flags marks : List Bool) → map (mark_at flags marks) (range_with_len 0 (length flags)) ≡ live_by flags marks
live_is [] marks = refl
live_is (flag ∷ flags) marks =
    ap (λ rest. get_or marks 0 true ∷ rest)
    (shifted (mark_at (flag ∷ flags) marks) 0 (length flags)
    ∙ map_same (λ doc. mark_at (flag ∷ flags) marks (doc + 1)) (mark_at flags (if flag then drop 1 marks else marks)) (next_mark flag flags marks) (range_with_len 0 (length flags))
    ∙ live_is flags (if flag then drop 1 marks else marks))

abbrev pub marks_in : List (Marked BlockState) → List Bool
marks_in blocks = flat_map (λ (block : Marked BlockState). replicate (length block.item.flats) block.live) blocks

replicate_more : (n : ℕ) (mark : Bool) (rest : List Bool) → replicate (n + 1) mark ++ rest ≡ replicate n mark ++ (mark ∷ rest)
replicate_more zero mark rest = refl
replicate_more (suc n) mark rest =
    let e : suc n + 1 ≡ suc (n + 1) = omega arith in
    rw e (ap (λ more. mark ∷ more) (replicate_more n mark rest))

one_longer : (front : List FlatDocument) (flat : FlatDocument) → length (front ++ flat ∷ []) ≡ length front + 1
one_longer [] flat = refl
one_longer (first ∷ front) flat = omega (arith, one_longer front flat)

marks_cut : (flat : FlatDocument) (flats front : List FlatDocument) (roots : List FlatRoot) (marks : List Bool) → length marks ≡ length roots → roots_in (flat ∷ flats) ≡ length roots → EndsWell (flat ∷ flats)
    → marks_in (marked_by (cut_from front (flat ∷ flats) roots) marks) ≡ replicate (length front) (get_or marks 0 true) ++ live_by (map is_root (flat ∷ flats)) marks
marks_cut flat flats front [] marks long count ends = absurd (omega (arith, some_root flat flats ends, count))
marks_cut flat flats front (root ∷ roots) [] long count ends = absurd (omega (arith, long))
marks_cut flat [] front (root ∷ roots) (mark ∷ marks) long count ends =
    let is : (flat.scope == 0) ≡ true = ends in
    rw (is, one_longer front flat) (replicate_more (length front) mark [])
marks_cut flat (next ∷ flats) front (root ∷ roots) (mark ∷ marks) long count ends =
    split (is_root flat)
    (λ is.
    let rest : marks_in (marked_by (cut_from [] (next ∷ flats) roots) marks) ≡ live_by (map is_root (next ∷ flats)) marks =
    marks_cut next flats [] roots marks (omega (arith, long)) (omega (arith, rw is at count)) ends in
    rw (is, one_longer front flat, rest) (replicate_more (length front) mark (live_by (map is_root (next ∷ flats)) marks)))
    (λ isnt.
    let rest : marks_in (marked_by (cut_from (front ++ flat ∷ []) (next ∷ flats) (root ∷ roots)) (mark ∷ marks)) ≡ replicate (length (front ++ flat ∷ [])) mark ++ live_by (map is_root (next ∷ flats)) (mark ∷ marks) =
    marks_cut next flats (front ++ flat ∷ []) (root ∷ roots) (mark ∷ marks) long (omega (arith, rw isnt at count)) ends in
    rw isnt (rest ∙ ap (λ n. replicate n mark ++ live_by (map is_root (next ∷ flats)) (mark ∷ marks)) (one_longer front flat) ∙ replicate_more (length front) mark (live_by (map is_root (next ∷ flats)) (mark ∷ marks))))

-- ---- blocks with their marks

items : (blocks : List BlockState) (marks : List Bool) → length blocks ≡ length marks → map (λ (block : Marked BlockState). block.item) (marked_by blocks marks) ≡ blocks
items [] marks long = refl
items (block ∷ blocks) [] long = absurd (omega (arith, long))
items (block ∷ blocks) (mark ∷ marks) long = ap (λ rest. block ∷ rest) (items blocks marks (omega (arith, long)))

marks_again : (blocks : List BlockState) (marks : List Bool) → length blocks ≡ length marks → map (λ (block : Marked BlockState). block.live) (marked_by blocks marks) ≡ marks
marks_again [] [] long = refl
marks_again [] (mark ∷ marks) long = absurd (omega (arith, long))
marks_again (block ∷ blocks) [] long = absurd (omega (arith, long))
marks_again (block ∷ blocks) (mark ∷ marks) long = ap (λ rest. mark ∷ rest) (marks_again blocks marks (omega (arith, long)))

flat_map_twice : {A B C : Type 0} (f : B → List C) (g : A → B) (xs : List A) → flat_map f (map g xs) ≡ flat_map (λ x. f (g x)) xs
flat_map_twice f g [] = refl
flat_map_twice f g (x ∷ xs) = ap (λ rest. f (g x) ++ rest) (flat_map_twice f g xs)

flat_map_same : {A B : Type 0} (f g : A → List B) → ((x : A) → f x ≡ g x) → (xs : List A) → flat_map f xs ≡ flat_map g xs
flat_map_same f g same [] = refl
flat_map_same f g same (x ∷ xs) = rw (same x, flat_map_same f g same xs) refl

one_mark : (mark : Bool) (m : Mapping) (os : List Object) → replicate (length (map (flat_of_object m) os)) mark ≡ map (live_mark mark) os
one_mark mark m [] = refl
one_mark mark m (o ∷ os) = ap (λ rest. mark ∷ rest) (one_mark mark m os)

tree_marks : (m : Mapping) (tree : Marked Tree) → replicate (length (block_of m tree.item).flats) tree.live ≡ map (live_mark tree.live) (block_objects m tree.item)
unfolding flats_of_tree
tree_marks m tree = one_mark tree.live m (block_objects m tree.item)

tree_flats : (m : Mapping) (tree : Marked Tree) → (block_of m tree.item).flats ≡ map (flat_at m tree.live) (block_objects m tree.item)
unfolding flats_of_tree
tree_flats m tree = refl

-- ---- the entry

module _ (columns : Columns) (live : LiveState) (own : AreColumns columns) (over : IsLiveOver columns live)
    (scoped : (scope doc : ℕ) → scope < length columns.scopes → doc < columns.documents → slice_index_or (slice_index_or columns.scopes scope []) doc false ≡ ((flat_of columns doc).scope == scope)) where
  abbrev pub flags : List Bool
  flags = root_flags columns.scopes

  pub flags_long : length flags ≡ columns.documents
  flags_long = own.parts.head.long 0 [] own.parts.head.some

  pub flags_are : flags ≡ map is_root (flats_of columns)
  flags_are =
      fill_by_all (λ doc. is_root (flat_of columns doc)) flags columns.documents false flags_long (λ doc inside. scoped 0 doc own.parts.head.some inside)
      ∙ sym (map_twice is_root (flat_of columns) (range_with_len 0 columns.documents))

  roots_count : roots_in (flats_of columns) ≡ length (roots_of columns)
  roots_count =
      sym (count_is (flats_of columns)) ∙ sym (ap (count_by is_marked) flags_are) ∙ sym own.parts.rooted ∙ sym (length-map columns.roots flat_root)

  marks_long : length live.roots ≡ length (roots_of columns)
  marks_long = over.roots ∙ sym (length-map columns.roots flat_root)

  last_flag : get_or (map is_root (flats_of columns)) (columns.documents - 1) false ≡ true
  last_flag = ap (λ fs. get_or fs (columns.documents - 1) false) (sym flags_are) ∙ own.rooted.last

  pub docs_are : live.docs ≡ live_by (map is_root (flats_of columns)) live.roots
  unfolding live_docs
  docs_are = over.docs ∙ live_is flags live.roots ∙ ap (λ fs. live_by fs live.roots) flags_are

  pub record IsCovered : Type 0 where
    pub cut : AreCut [] (flats_of columns) (roots_of columns)
    pub marks : marks_in (marked_by (cut_from [] (flats_of columns) (roots_of columns)) live.roots) ≡ live_by (map is_root (flats_of columns)) live.roots

  pub covered_from : (flats : List FlatDocument) → flats ≡ flats_of columns → IsCovered
  covered_from [] is = absurd (omega (arith, ap length is, ap length flags_are, length-map (flats_of columns) is_root, flags_long, own.parts.head.some_documents))
  covered_from (flat ∷ flats) is =
      let long : length (flat ∷ flats) ≡ columns.documents = omega (arith, ap length is, ap length flags_are, length-map (flats_of columns) is_root, flags_long) in
      let place : columns.documents - 1 ≡ length flats = omega (arith, long) in
      let last : get_or (map is_root (flat ∷ flats)) (length flats) false ≡ true = ap (λ fs. get_or (map is_root fs) (length flats) false) is ∙ ap (λ n. get_or (map is_root (flats_of columns)) n false) (sym place) ∙ last_flag in
      let ends : EndsWell (flat ∷ flats) = ends_well flat flats last in
      let count : roots_in (flat ∷ flats) ≡ length (roots_of columns) = ap roots_in is ∙ roots_count in
      record {
        cut = subst (λ fs. AreCut [] fs (roots_of columns)) is (cut_all flat flats [] (roots_of columns) ends count);
        marks = subst (λ fs. marks_in (marked_by (cut_from [] fs (roots_of columns)) live.roots) ≡ live_by (map is_root fs) live.roots) is (marks_cut flat flats [] (roots_of columns) live.roots marks_long count ends);
      }

  pub stands_by_blocks : (m : Mapping) (trees : List (Marked Tree)) → IsMapping m → marked_by (blocks_of columns) live.roots ≡ map (block_of_marked m) trees → EntryStandsFor m columns live trees
  unfolding blocks_of
  stands_by_blocks m trees mapping is =
      let blocks : List BlockState = cut_from [] (flats_of columns) (roots_of columns) in
      let covered : IsCovered = covered_from (flats_of columns) refl in
      let long : length blocks ≡ length live.roots = sym (length-map blocks (λ (block : BlockState). block.root)) ∙ ap length covered.cut.same ∙ sym marks_long in
      let own_items : blocks ≡ map (λ (block : Marked BlockState). block.item) (map (block_of_marked m) trees) = sym (items blocks live.roots long) ∙ ap (map (λ (block : Marked BlockState). block.item)) is in
      let items_are : blocks ≡ map (λ (tree : Marked Tree). block_of m tree.item) trees = own_items ∙ map_twice (λ (block : Marked BlockState). block.item) (block_of_marked m) trees in
      record {
        mapping = mapping;
        flats = sym covered.cut.documents ∙ ap flats_in items_are ∙ flat_map_twice (λ (block : BlockState). block.flats) (λ (tree : Marked Tree). block_of m tree.item) trees
            ∙ flat_map_same (λ (tree : Marked Tree). (block_of m tree.item).flats) (λ (tree : Marked Tree). map (flat_at m tree.live) (block_objects m tree.item)) (tree_flats m) trees;
        roots = sym covered.cut.same ∙ ap block_roots items_are ∙ map_twice (λ (block : BlockState). block.root) (λ (tree : Marked Tree). block_of m tree.item) trees;
        live = docs_are ∙ sym covered.marks ∙ ap marks_in is ∙ flat_map_twice (λ (block : Marked BlockState). replicate (length block.item.flats) block.live) (block_of_marked m) trees
            ∙ flat_map_same (λ (tree : Marked Tree). replicate (length (block_of m tree.item).flats) tree.live) (λ (tree : Marked Tree). map (live_mark tree.live) (block_objects m tree.item)) (tree_marks m) trees;
        live_roots = sym (marks_again blocks live.roots long) ∙ ap (map (λ (block : Marked BlockState). block.live)) is ∙ map_twice (λ (block : Marked BlockState). block.live) (block_of_marked m) trees;
      }
