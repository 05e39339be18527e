-- A layout has no item of its own: what holds of all items still holds after what is done to them.
use Rattle.std.proofs.Common.{◌≡◌, ℕ, ◌+◌, nat_le, nat_lt, Bool, true, false, cond, List, [], ◌∷◌, ◌++◌, length, map, filter, take, drop, Contains, refl, subst}
use Rattle.std.specs.List.{AllByRecursion, flat_map}
use Rattle.std.proofs.lemmas.List.Elements.{All-contains_itself, recursion_from_All, All-from_recursion, All-take, All-drop}
use Rattle.layout.proofs.Goes.{split}
use Rattle.layout.proofs.Merging.{all_first, all_second, all_both, all_filter, settled_by}
use Rattle.layout.specs.Layout.{Marked, SegmentOf, OpenMerge, Layout, is_live, item_in, live_in, live_items, alive, segment_of, merged_range, live_of_range, remade, with_buffer_last, sealed, staying, killed_if, killed_in, with_room, buffer_size, with_change}
use Rattle.layout.specs.Merges.{closed, finished, forced, forced_from, forced_count, with_merge}
use Rattle.layout_ids.specs.Items.{items_in, items_of}

module _ {A : Type 0} (P : A → Type 0) where
  -- of all items of a segment, and of all those of a layout
  abbrev Within : SegmentOf A → Type 0
  Within segment = AllByRecursion P (items_in segment)

  pub record AreAll (layout : Layout A) : Type 0 where
    pub segments : AllByRecursion Within layout.segments
    pub buffer : AllByRecursion P layout.buffer

  in_flat : (segments : List (SegmentOf A)) → AllByRecursion Within segments → AllByRecursion P (flat_map items_in segments)
  in_flat [] all = tt
  in_flat (segment ∷ segments) all = all_both P (items_in segment) (flat_map items_in segments) all.0 (in_flat segments all.1)

  of_flat : (segments : List (SegmentOf A)) → AllByRecursion P (flat_map items_in segments) → AllByRecursion Within segments
  of_flat [] all = tt
  of_flat (segment ∷ segments) all =
      (all_first P (items_in segment) (flat_map items_in segments) all, of_flat segments (all_second P (items_in segment) (flat_map items_in segments) all))

  pub are_all : (layout : Layout A) → AllByRecursion P (items_of layout) → AreAll layout
  are_all layout all = record {
    segments = of_flat layout.segments (all_first P (flat_map items_in layout.segments) layout.buffer all);
    buffer = all_second P (flat_map items_in layout.segments) layout.buffer all;
  }

  pub of_all : (layout : Layout A) → AreAll layout → AllByRecursion P (items_of layout)
  of_all layout all = all_both P (flat_map items_in layout.segments) layout.buffer (in_flat layout.segments all.segments) all.buffer

  -- ---- a range gives way to one segment

  live_within : (items : List (Marked A)) → AllByRecursion P (map item_in items) → AllByRecursion P (map item_in (filter is_live items))
  live_within [] all = tt
  live_within (marked ∷ items) all =
      split (is_live marked)
      (λ live. rw live (all.0, live_within items all.1))
      (λ dead. rw dead (live_within items all.1))

  live_flat : (segments : List (SegmentOf A)) → AllByRecursion Within segments → AllByRecursion P (flat_map live_in segments)
  live_flat [] all = tt
  live_flat (segment ∷ segments) all = all_both P (live_in segment) (flat_map live_in segments) (live_within segment.items all.0) (live_flat segments all.1)

  pub live_all : (layout : Layout A) → AllByRecursion P (items_of layout) → AllByRecursion P (live_items layout)
  live_all layout all =
      let own = are_all layout all in
      all_both P (flat_map live_in layout.segments) layout.buffer (live_flat layout.segments own.segments) own.buffer

  alive_within : (xs : List A) → AllByRecursion P xs → AllByRecursion P (map item_in (map alive xs))
  alive_within [] all = tt
  alive_within (x ∷ xs) all = (all.0, alive_within xs all.1)

  segment_within : (id : ℕ) (xs : List A) → AllByRecursion P xs → AllByRecursion Within (segment_of id xs)
  segment_within id [] all = tt
  segment_within id (x ∷ xs) all = (alive_within (x ∷ xs) all, tt)

  all_taken : (n : ℕ) (xs : List (SegmentOf A)) → AllByRecursion Within xs → AllByRecursion Within (take n xs)
  all_taken n xs all = recursion_from_All Within (take n xs) (All-take Within n xs (All-from_recursion Within xs all))

  all_dropped : (n : ℕ) (xs : List (SegmentOf A)) → AllByRecursion Within xs → AllByRecursion Within (drop n xs)
  all_dropped n xs all = recursion_from_All Within (drop n xs) (All-drop Within n xs (All-from_recursion Within xs all))

  remade_all : (from count : ℕ) (layout : Layout A) → AreAll layout → AreAll (remade from count layout)
  remade_all from count layout all =
      let range = take count (drop from layout.segments) in
      let new = merged_range from count layout in
      record {
        segments = all_both Within (take from layout.segments) (new ++ drop (from + count) layout.segments)
            (all_taken from layout.segments all.segments)
            (all_both Within new (drop (from + count) layout.segments)
            (segment_within layout.made (live_of_range from count layout) (live_flat range (all_taken count (drop from layout.segments) (all_dropped from layout.segments all.segments))))
            (all_dropped (from + count) layout.segments all.segments));
        buffer = all.buffer;
      }

  last_all : (layout : Layout A) → AreAll layout → AreAll (with_buffer_last layout)
  last_all layout all = record {
    segments = all_both Within layout.segments (segment_of layout.made layout.buffer) all.segments (segment_within layout.made layout.buffer all.buffer);
    buffer = tt;
  }

  sealed_all : (layout : Layout A) → AreAll layout → AreAll (sealed layout)
  unfolding sealed
  sealed_all layout all =
      settled_by AreAll (λ from count later own some there free. remade_all from count later own) layout.factor (with_buffer_last layout) (last_all layout all)

  room_all : (layout : Layout A) → AreAll layout → AreAll (with_room layout)
  room_all layout all = elim (nat_le buffer_size (length layout.buffer)) as (λ full. AreAll (cond full (sealed layout) layout)) [
    | true ↦ sealed_all layout all
    | false ↦ all
  ]

  -- ---- a change

  marked_still : (goes : A → Bool) (marked : Marked A) → P marked.item → P (killed_if goes marked).item
  marked_still goes marked own = elim (goes marked.item) as (λ gone. P (cond gone (record marked { live = false }) marked).item) [
    | true ↦ own
    | false ↦ own
  ]

  items_still : (goes : A → Bool) (items : List (Marked A)) → AllByRecursion P (map item_in items) → AllByRecursion P (map item_in (map (killed_if goes) items))
  items_still goes [] all = tt
  items_still goes (marked ∷ items) all = (marked_still goes marked all.0, items_still goes items all.1)

  segments_still : (goes : A → Bool) (segments : List (SegmentOf A)) → AllByRecursion Within segments → AllByRecursion Within (map (killed_in goes) segments)
  segments_still goes [] all = tt
  segments_still goes (segment ∷ segments) all = (items_still goes segment.items all.0, segments_still goes segments all.1)

  change_all : (goes : A → Bool) (new : List A) (layout : Layout A) → AllByRecursion P new → AreAll layout → AreAll (with_change goes new layout)
  unfolding with_change
  change_all goes new layout added all =
      let room = room_all layout all in
      record {
        segments = segments_still goes (with_room layout).segments room.segments;
        buffer = all_both P (filter (staying goes) (with_room layout).buffer) new (all_filter P (staying goes) (with_room layout).buffer room.buffer) added;
      }

  finish_all : (merge : OpenMerge) (layout : Layout A) → AreAll layout → AreAll (finished merge layout)
  finish_all merge layout all = remade_all merge.from merge.count (closed merge.id layout) (record { segments = all.segments; buffer = all.buffer })

  force_all : (most : ℕ) (layout : Layout A) → AreAll layout → AreAll (forced most layout)
  force_all most layout all =
      elim (nat_lt (length layout.segments) most) as (λ few. AreAll (cond few layout (remade (forced_from most) (forced_count most layout) layout))) [
        | true ↦ all
        | false ↦ remade_all (forced_from most) (forced_count most layout) layout all
      ]

-- ---- an item was there before

module _ {A : Type 0} where
  own_items : (xs : List A) → AllByRecursion (Contains xs) xs
  own_items xs = recursion_from_All (Contains xs) xs (All-contains_itself xs)

  all_own : (layout : Layout A) → AreAll (Contains (items_of layout)) layout
  all_own layout = are_all (Contains (items_of layout)) layout (own_items (items_of layout))

  at_item : (P : A → Type 0) (xs : List A) (item : A) → AllByRecursion P xs → Contains xs item → P item
  at_item P xs item all there = subst P there.2 (All-from_recursion P xs all there.0 item there.1)

  pub sealed_items : (layout : Layout A) (item : A) → Contains (items_of (sealed layout)) item → Contains (items_of layout) item
  sealed_items layout item =
      let P : A → Type 0 = Contains (items_of layout) in
      at_item P (items_of (sealed layout)) item (of_all P (sealed layout) (sealed_all P layout (all_own layout)))

  pub change_items : (goes : A → Bool) (new : List A) (layout : Layout A) (item : A) → Contains (items_of (with_change goes new layout)) item → Contains (items_of layout ++ new) item
  change_items goes new layout item =
      let both = items_of layout ++ new in
      let P : A → Type 0 = Contains both in
      let own = own_items both in
      let before = are_all P layout (all_first P (items_of layout) new own) in
      at_item P (items_of (with_change goes new layout)) item (of_all P (with_change goes new layout) (change_all P goes new layout (all_second P (items_of layout) new own) before))

  pub start_items : (from count : ℕ) (layout : Layout A) → items_of (with_merge from count layout) ≡ items_of layout
  start_items from count layout = refl

  pub finish_items : (merge : OpenMerge) (layout : Layout A) (item : A) → Contains (items_of (finished merge layout)) item → Contains (items_of layout) item
  finish_items merge layout item =
      let P : A → Type 0 = Contains (items_of layout) in
      at_item P (items_of (finished merge layout)) item (of_all P (finished merge layout) (finish_all P merge layout (all_own layout)))

  pub force_items : (most : ℕ) (layout : Layout A) (item : A) → Contains (items_of (forced most layout)) item → Contains (items_of layout) item
  force_items most layout item =
      let P : A → Type 0 = Contains (items_of layout) in
      at_item P (items_of (forced most layout)) item (of_all P (forced most layout) (force_all P most layout (all_own layout)))
