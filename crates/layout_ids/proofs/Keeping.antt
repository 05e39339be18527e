-- Segments keep their items.
use Rattle.std.proofs.Common.{◌≡◌, inl, inr, ℕ, ◌+◌, ◌<◌, ◌≤◌, nat_le, nat_lt, Bool, true, false, cond, List, [], ◌∷◌, ◌++◌, length, map, take, drop, Contains, refl, sym, ap, subst, ◌∙◌, arith}
use Rattle.std.specs.List.{AllByRecursion}
use Rattle.std.proofs.lemmas.List.Elements.{All-contains_itself, recursion_from_All, All-from_recursion, All-take, All-drop}
use Rattle.layout.proofs.Merging.{all_both, all_weaker, settled_by}
use Rattle.layout.specs.Layout.{Marked, SegmentOf, OpenMerge, Layout, item_in, segment_of, merged_range, live_of_range, remade, with_buffer_last, sealed, killed_if, killed_in, with_room, buffer_size, with_change}
use Rattle.layout.specs.Merges.{closed, finished, forced, forced_from, forced_count, with_merge}
use Rattle.layout_ids.specs.Ids.{Was, IsNewOr, HaveGivenIds, KeepsItems}

module _ {A : Type 0} where
  all_taken : (P : SegmentOf A → Type 0) (n : ℕ) (xs : List (SegmentOf A)) → AllByRecursion P xs → AllByRecursion P (take n xs)
  all_taken P n xs all = recursion_from_All P (take n xs) (All-take P n xs (All-from_recursion P xs all))

  all_dropped : (P : SegmentOf A → Type 0) (n : ℕ) (xs : List (SegmentOf A)) → AllByRecursion P xs → AllByRecursion P (drop n xs)
  all_dropped P n xs all = recursion_from_All P (drop n xs) (All-drop P n xs (All-from_recursion P xs all))

  -- ---- ids that were given

  abbrev Under : ℕ → SegmentOf A → Type 0
  Under made segment = segment.id < made

  more_given : (few many : ℕ) (xs : List (SegmentOf A)) → few ≤ many → AllByRecursion (Under few) xs → AllByRecursion (Under many) xs
  more_given few many xs less are = all_weaker (Under few) (Under many) (λ segment own. omega (arith, own, less)) xs are

  new_given : (id : ℕ) (xs : List A) → AllByRecursion (Under (id + length (segment_of id xs))) (segment_of id xs)
  new_given id [] = tt
  new_given id (x ∷ xs) = (omega arith, tt)

  remade_given : (from count : ℕ) (layout : Layout A) → HaveGivenIds layout → HaveGivenIds (remade from count layout)
  remade_given from count layout are =
      let new = merged_range from count layout in
      let made = layout.made + length new in
      let more : AllByRecursion (Under made) layout.segments = more_given layout.made made layout.segments (omega arith) are in
      all_both (Under made) (take from layout.segments) (new ++ drop (from + count) layout.segments)
      (all_taken (Under made) from layout.segments more)
      (all_both (Under made) new (drop (from + count) layout.segments)
      (new_given layout.made (live_of_range from count layout))
      (all_dropped (Under made) (from + count) layout.segments more))

  last_given : (layout : Layout A) → HaveGivenIds layout → HaveGivenIds (with_buffer_last layout)
  last_given layout are =
      let new = segment_of layout.made layout.buffer in
      let made = layout.made + length new in
      all_both (Under made) layout.segments new (more_given layout.made made layout.segments (omega arith) are) (new_given layout.made layout.buffer)

  killed_given : (goes : A → Bool) (made : ℕ) (segments : List (SegmentOf A)) → AllByRecursion (Under made) segments → AllByRecursion (Under made) (map (killed_in goes) segments)
  killed_given goes made [] are = tt
  killed_given goes made (segment ∷ segments) are = (are.0, killed_given goes made segments are.1)

  -- ---- items

  -- a segment stands for itself
  pub keeps_itself : (layout : Layout A) → KeepsItems layout layout
  keeps_itself layout = record {
    made = omega arith;
    each = all_weaker (Contains layout.segments) (IsNewOr layout) (λ segment there. inr (record { before = segment; there = there; id = refl; items = refl })) layout.segments
        (recursion_from_All (Contains layout.segments) layout.segments (All-contains_itself layout.segments));
    given = λ are. are;
  }

  pub keeps_left : (before after : Layout A) → after.segments ≡ before.segments → after.made ≡ before.made → KeepsItems before after
  keeps_left before after segments made =
      let own = keeps_itself before in
      record {
        made = omega (arith, made);
        each = subst (AllByRecursion (IsNewOr before)) (sym segments) own.each;
        given = λ are. subst (AllByRecursion (Under after.made)) (sym segments) (subst (λ (made : ℕ). AllByRecursion (Under made) before.segments) (sym made) are);
      }

  -- the segment that is made last has an id that none had
  new_segment : (base : Layout A) (id : ℕ) (xs : List A) → base.made ≤ id → AllByRecursion (IsNewOr base) (segment_of id xs)
  new_segment base id [] later = tt
  new_segment base id (x ∷ xs) later = (inl later, tt)

  pub remade_keeps : (base : Layout A) (from count : ℕ) (layout : Layout A) → KeepsItems base layout → KeepsItems base (remade from count layout)
  remade_keeps base from count layout keeps =
      let new = merged_range from count layout in
      record {
        made = omega (arith, keeps.made);
        each = all_both (IsNewOr base) (take from layout.segments) (new ++ drop (from + count) layout.segments)
            (all_taken (IsNewOr base) from layout.segments keeps.each)
            (all_both (IsNewOr base) new (drop (from + count) layout.segments)
            (new_segment base layout.made (live_of_range from count layout) keeps.made)
            (all_dropped (IsNewOr base) (from + count) layout.segments keeps.each));
        given = λ are. remade_given from count layout (keeps.given are);
      }

  last_keeps : (layout : Layout A) → KeepsItems layout (with_buffer_last layout)
  last_keeps layout =
      let own = keeps_itself layout in
      record {
        made = omega arith;
        each = all_both (IsNewOr layout) layout.segments (segment_of layout.made layout.buffer) own.each (new_segment layout layout.made layout.buffer own.made);
        given = last_given layout;
      }

  pub sealed_keeps : (layout : Layout A) → KeepsItems layout (sealed layout)
  unfolding sealed
  sealed_keeps layout =
      settled_by (KeepsItems layout) (λ from count later keeps some there free. remade_keeps layout from count later keeps) layout.factor (with_buffer_last layout) (last_keeps layout)

  room_keeps : (layout : Layout A) → KeepsItems layout (with_room layout)
  room_keeps layout = elim (nat_le buffer_size (length layout.buffer)) as (λ full. KeepsItems layout (cond full (sealed layout) layout)) [
    | true ↦ sealed_keeps layout
    | false ↦ keeps_itself layout
  ]

  -- marks of items don't count
  marked_alike : (goes : A → Bool) (marked : Marked A) → (killed_if goes marked).item ≡ marked.item
  marked_alike goes marked = elim (goes marked.item) as (λ gone. (cond gone (record marked { live = false }) marked).item ≡ marked.item) [
    | true ↦ refl
    | false ↦ refl
  ]

  items_alike : (goes : A → Bool) (items : List (Marked A)) → map item_in (map (killed_if goes) items) ≡ map item_in items
  items_alike goes [] = refl
  items_alike goes (marked ∷ items) =
      ap (λ (x : A). x ∷ map item_in (map (killed_if goes) items)) (marked_alike goes marked) ∙ ap (λ (xs : List A). marked.item ∷ xs) (items_alike goes items)

  still_was : (goes : A → Bool) (base : Layout A) (segment : SegmentOf A) → IsNewOr base segment → IsNewOr base (killed_in goes segment)
  still_was goes base segment (inl new) = inl new
  still_was goes base segment (inr was) =
      inr (record { before = was.before; there = was.there; id = was.id; items = was.items ∙ sym (items_alike goes segment.items) })

  each_killed : (goes : A → Bool) (base : Layout A) (segments : List (SegmentOf A)) → AllByRecursion (IsNewOr base) segments → AllByRecursion (IsNewOr base) (map (killed_in goes) segments)
  each_killed goes base [] each = tt
  each_killed goes base (segment ∷ segments) each = (still_was goes base segment each.0, each_killed goes base segments each.1)

  pub change_keeps : (goes : A → Bool) (new : List A) (layout : Layout A) → KeepsItems layout (with_change goes new layout)
  unfolding with_change
  change_keeps goes new layout =
      let room = room_keeps layout in
      record {
        made = room.made;
        each = each_killed goes layout (with_room layout).segments room.each;
        given = λ are. killed_given goes (with_room layout).made (with_room layout).segments (room.given are);
      }

  pub start_keeps : (from count : ℕ) (layout : Layout A) → KeepsItems layout (with_merge from count layout)
  start_keeps from count layout = keeps_left layout (with_merge from count layout) refl refl

  pub finish_keeps : (merge : OpenMerge) (layout : Layout A) → KeepsItems layout (finished merge layout)
  finish_keeps merge layout =
      remade_keeps layout merge.from merge.count (closed merge.id layout) (keeps_left layout (closed merge.id layout) refl refl)

  pub force_keeps : (most : ℕ) (layout : Layout A) → KeepsItems layout (forced most layout)
  force_keeps most layout =
      elim (nat_lt (length layout.segments) most) as (λ few. KeepsItems layout (cond few layout (remade (forced_from most) (forced_count most layout) layout))) [
        | true ↦ keeps_itself layout
        | false ↦ remade_keeps layout (forced_from most) (forced_count most layout) layout (keeps_itself layout)
      ]

  -- ---- two steps

  module _ (one two : Layout A) (first : KeepsItems one two) where
    at_before : (segment : SegmentOf A) (was : Was two.segments segment) → IsNewOr one was.before → IsNewOr one segment
    at_before segment was (inl new) = inl (omega (arith, new, was.id))
    at_before segment was (inr earlier) =
        inr (record { before = earlier.before; there = earlier.there; id = earlier.id ∙ was.id; items = earlier.items ∙ was.items })

    on_two : (segment : SegmentOf A) → IsNewOr two segment → IsNewOr one segment
    on_two segment (inl new) = inl (omega (arith, new, first.made))
    on_two segment (inr was) =
        let each = All-from_recursion (IsNewOr one) two.segments first.each in
        at_before segment was (subst (IsNewOr one) was.there.2 (each was.there.0 was.before was.there.1))

  pub keeps_both : (one two three : Layout A) → KeepsItems one two → KeepsItems two three → KeepsItems one three
  keeps_both one two three first second = record {
    made = omega (arith, first.made, second.made);
    each = all_weaker (IsNewOr two) (IsNewOr one) (on_two one two first) three.segments second.each;
    given = λ are. second.given (first.given are);
  }
