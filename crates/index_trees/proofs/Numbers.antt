-- Trees whose numbers ascend, and whose blocks have ids of their own, are a live list.
use Rattle.std.proofs.Common.{◌≡◌, ℕ, ◌+◌, ◌<◌, Bool, true, false, cond, List, [], ◌∷◌, ◌++◌, map, filter, count_by, refl, sym, ap, subst, ◌∙◌, arith}
use Rattle.std.proofs.lemmas.List.{map-append}
use Rattle.std.proofs.lemmas.List.Sums.{sum_by-cons}
use Rattle.std.proofs.lemmas.Slice.Eq.{bytes_eq-Decides}
use Rattle.std.specs.List.{flat_map}
use Rattle.std.specs.Str.{bytes_eq}
use Rattle.flattener.specs.Block.{BlockState, root_of_tree}
use Rattle.index_core.specs.Kept.{HaveOwnIds, has_block_id, numbers_in}
use Rattle.layout.proofs.Ascending.{ascend_end, ascend_filter}
use Rattle.layout.specs.As.{marked_as, segment_as}
use Rattle.layout.specs.Ascending.{Ascend}
use Rattle.layout.specs.Layout.{Marked, SegmentOf, is_live, item_in, live_in}
use Rattle.machine.specs.State.{AreBelow}
use Rattle.mapping.specs.Mapping.{Mapping}
use Rattle.tree_objects.specs.Tree.{ComesFirst, IsLiveList, Tree, has_id}
use Rattle.index_trees.specs.Faithful.{Indexed, block_in, tree_in}
use Rattle.index_trees.proofs.Blocks.{map-map}

-- ---- the numbers of what is live

abbrev pub number_in : (m : Mapping) → Indexed m → ℕ
number_in m it = it.tree.number

abbrev number_of : (m : Mapping) → Marked (Indexed m) → ℕ
number_of m marked = marked.item.tree.number

abbrev items_in : (m : Mapping) → SegmentOf (Indexed m) → List (Marked (Indexed m))
items_in m segment = segment.items

numbers_by : (m : Mapping) (items : List (Marked (Indexed m))) → map (λ (block : Marked BlockState). block.item.root.number) (map (marked_as (block_in m)) items) ≡ map (number_of m) items
unfolding root_of_tree
numbers_by m items = map-map (λ (block : Marked BlockState). block.item.root.number) (marked_as (block_in m)) items

numbers_are : (m : Mapping) (segments : List (SegmentOf (Indexed m))) → flat_map numbers_in (map (segment_as (block_in m)) segments) ≡ map (number_of m) (flat_map (items_in m) segments)
numbers_are m [] = refl
numbers_are m (segment ∷ segments) =
    (λ i. numbers_by m segment.items i ++ numbers_are m segments i) ∙ sym (map-append (number_of m) segment.items (flat_map (items_in m) segments))

live_both : {A : Type 0} (xs ys : List (Marked A)) → map item_in (filter is_live (xs ++ ys)) ≡ map item_in (filter is_live xs) ++ map item_in (filter is_live ys)
live_both {A} [] ys = refl
live_both {A} (x ∷ xs) ys = by x.live (live_both xs ys)
  where
    by : (b : Bool) → map item_in (filter is_live (xs ++ ys)) ≡ map item_in (filter is_live xs) ++ map item_in (filter is_live ys)
        → map item_in (cond b (x ∷ filter is_live (xs ++ ys)) (filter is_live (xs ++ ys))) ≡ map item_in (cond b (x ∷ filter is_live xs) (filter is_live xs)) ++ map item_in (filter is_live ys)
    by true more = ap (λ (rest : List A). x.item ∷ rest) more
    by false more = more

live_are : (m : Mapping) (segments : List (SegmentOf (Indexed m))) → map item_in (filter is_live (flat_map (items_in m) segments)) ≡ flat_map live_in segments
live_are m [] = refl
live_are m (segment ∷ segments) =
    live_both segment.items (flat_map (items_in m) segments) ∙ ap (λ (rest : List (Indexed m)). live_in segment ++ rest) (live_are m segments)

-- where the numbers of all blocks ascend, those of the live trees do
pub live_ascend : (m : Mapping) (segments : List (SegmentOf (Indexed m))) (from end : ℕ) → Ascend from (flat_map numbers_in (map (segment_as (block_in m)) segments)) end
    → Ascend from (map (number_in m) (flat_map live_in segments)) end
live_ascend m segments from end is =
    let items = flat_map (items_in m) segments in
    let all : Ascend from (map (number_of m) items) end = subst (λ (numbers : List ℕ). Ascend from numbers end) (numbers_are m segments) is in
    let live : Ascend from (map (number_of m) (filter is_live items)) end = ascend_filter (number_of m) is_live items from end all in
    subst (λ (its : List (Indexed m)). Ascend from (map (number_in m) its) end) (live_are m segments)
    (subst (λ (numbers : List ℕ). Ascend from numbers end) (sym (map-map (number_in m) item_in (filter is_live items))) live)

-- ---- a live list

abbrev one_if : Bool → ℕ
one_if b = cond b 1 0

one_more : (m : Mapping) (id : List ℕ) (it : Indexed m) (its : List (Indexed m))
    → count_by (has_block_id id) (map (block_in m) (it ∷ its)) ≡ cond (has_id id it.tree) 1 0 + count_by (has_block_id id) (map (block_in m) its)
unfolding root_of_tree
one_more m id it its = sum_by-cons (λ (block : BlockState). cond (has_block_id id block) 1 0) (block_in m it) (map (block_in m) its)

same_id : (id : List ℕ) → bytes_eq id id ≡ true
same_id id = (bytes_eq-Decides id id).1 refl

not_true : false ≡ true → ⊥
not_true e = cc

comes_first : (m : Mapping) (first : Tree) (its : List (Indexed m)) (from end : ℕ) → first.number < from → Ascend from (map (number_in m) its) end
    → count_by (has_block_id first.id) (map (block_in m) its) ≡ 0 → ComesFirst first (map (tree_in m) its)
comes_first m first [] from end older is none = tt
comes_first m first (it ∷ its) from end older is none =
    by (has_id first.id it.tree) refl (one_more m first.id it its) (λ rest. comes_first m first its (it.tree.number + 1) end (omega (arith, older, is.0)) is.1 rest)
  where
    by : (b : Bool) → has_id first.id it.tree ≡ b
        → count_by (has_block_id first.id) (map (block_in m) (it ∷ its)) ≡ cond (has_id first.id it.tree) 1 0 + count_by (has_block_id first.id) (map (block_in m) its)
        → (count_by (has_block_id first.id) (map (block_in m) its) ≡ 0 → ComesFirst first (map (tree_in m) its))
        → ComesFirst first (map (tree_in m) (it ∷ its))
    by true has more rest = absurd (omega (arith, none, more, ap one_if has))
    by false has more rest = (
      (omega (arith, older, is.0), λ same. not_true (sym has ∙ ap (λ (id : List ℕ). bytes_eq id first.id) (sym same) ∙ same_id first.id)),
      rest (let e = ap one_if has in omega (arith, none, more, e)),
    )

pub live_list : (m : Mapping) (its : List (Indexed m)) (from end : ℕ) → Ascend from (map (number_in m) its) end → HaveOwnIds (map (block_in m) its) → IsLiveList (map (tree_in m) its)
live_list m [] from end is own = tt
live_list m (it ∷ its) from end is own = (
  comes_first m it.tree its (it.tree.number + 1) end (omega arith) is.1
      (let e = ap one_if (same_id it.tree.id) in omega (arith, own it.tree.id, one_more m it.tree.id it its, e)),
  live_list m its (it.tree.number + 1) end is.1 (λ id. omega (arith, own id, one_more m id it its)),
)

pub below_end : (m : Mapping) (its : List (Indexed m)) (from end : ℕ) → Ascend from (map (number_in m) its) end → AreBelow end (map (tree_in m) its)
below_end m [] from end is = tt
below_end m (it ∷ its) from end is = (omega (arith, ascend_end (map (number_in m) its) (it.tree.number + 1) end is.1), below_end m its (it.tree.number + 1) end is.1)
