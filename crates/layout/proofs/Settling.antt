-- What sealing keeps of a layout with open merges, whatever the factor.
use Rattle.std.proofs.Common.{◌≡◌, ℕ, ◌+◌, ◌<◌, ◌≤◌, nat_le, List, [], ◌∷◌, ◌++◌, length, map, take, drop, zero, suc, Option, refl, sym, ap, subst, ◌∙◌, append-nil, arith}
use Rattle.std.specs.List.{AllByRecursion, flat_map}
use Rattle.std.proofs.lemmas.List.{length-append}
use Rattle.std.proofs.lemmas.List.Concat.{flat_map-append}
use Rattle.layout.proofs.Ascending.{ascend_first, ascend_second, ascend_both}
use Rattle.layout.proofs.Goes.{split}
use Rattle.layout.proofs.Merging.{HaveIds, are_clear, all_weaker, last_ids, length_remade, numbers_in, one_segment, ranges_of, remade_ascends, remade_ids, settled_by, shifted_open, shifted_ranges, AreFree}
use Rattle.layout.specs.Ascending.{Ascend}
use Rattle.layout.specs.Layout.{SegmentOf, OpenMerge, Layout, segment_of, merged_range, remade, settled, with_buffer_last, sealed, with_room, buffer_size}
use Rattle.layout.specs.Merges.{AreOpen, IsWithin}

module _ {A : Type 0} (number : A → ℕ) where
  abbrev pub numbers_of : Layout A → List ℕ
  numbers_of layout = flat_map (numbers_in number) layout.segments ++ map number layout.buffer

  -- merges are open, segments have ids of their own, and the numbers of items ascend
  pub record IsSound (end : ℕ) (layout : Layout A) : Type 0 where
    pub open_are : AreOpen (length layout.segments) layout.started layout.merges
    pub ids : HaveIds layout.segments layout.made
    pub ascending : Ascend 0 (numbers_of layout) end

  -- another layout after it: sound, with the same segments in each merge
  pub record IsAfter (base : Layout A) (end : ℕ) (layout : Layout A) : Type 0 where
    pub sound : IsSound end layout
    pub ranges : ranges_of layout.segments layout.merges ≡ ranges_of base.segments base.merges
    pub started : layout.started ≡ base.started
    pub made : base.made ≤ layout.made

  pub after_same : (end : ℕ) (layout : Layout A) → IsSound end layout → IsAfter layout end layout
  after_same end layout is = record { sound = is; ranges = refl; started = refl; made = omega arith }

  remade_after : (base : Layout A) (end from count : ℕ) (layout : Layout A) → IsAfter base end layout → 0 < count → from + count ≤ length layout.segments → AreFree from count layout → IsAfter base end (remade from count layout)
  remade_after base end from count layout is some there free =
      let sound = is.sound in
      let clear = are_clear from count layout some sound.open_are free in
      let by = length (merged_range from count layout) in
      let long = length_remade from count layout there in
      let all = ascend_first (flat_map (numbers_in number) layout.segments) (map number layout.buffer) 0 end sound.ascending in
      let last = ascend_second (flat_map (numbers_in number) layout.segments) (map number layout.buffer) 0 end sound.ascending in
      record {
        sound = record {
          open_are = subst (λ (n : ℕ). AreOpen n layout.started (remade from count layout).merges) (sym long) (shifted_open from count by (length layout.segments) layout.started layout.merges there clear sound.open_are);
          ids = remade_ids from count layout sound.ids;
          ascending = ascend_both (flat_map (numbers_in number) (remade from count layout).segments) (map number layout.buffer) 0 _ end (remade_ascends number from count layout 0 _ all) last;
        };
        ranges = shifted_ranges from count layout.segments (merged_range from count layout) layout.merges (length layout.segments) there clear sound.open_are.within ∙ is.ranges;
        started = is.started;
        made = omega (arith, is.made);
      }

  settled_after : (end : ℕ) (layout : Layout A) → IsSound end layout → IsAfter layout end (settled layout.factor layout)
  settled_after end layout is = settled_by (IsAfter layout end) (λ from count l p some there free. remade_after layout end from count l p some there free) layout.factor layout (after_same end layout is)

  -- ---- the buffer becomes the last segment

  range_same : (xs new : List (SegmentOf A)) (at count : ℕ) → at + count ≤ length xs → take count (drop at (xs ++ new)) ≡ take count (drop at xs)
  range_same [] new at zero h = refl
  range_same [] new at (suc count) h = absurd (omega (arith, h))
  range_same (x ∷ xs) new zero zero h = refl
  range_same (x ∷ xs) new zero (suc count) h = ap (λ ys. x ∷ ys) (range_same xs new zero count (omega (arith, h)))
  range_same (x ∷ xs) new (suc at) count h = range_same xs new at count (omega (arith, h))

  ranges_same : (xs new : List (SegmentOf A)) (ms : List OpenMerge) → AllByRecursion (IsWithin (length xs)) ms → ranges_of (xs ++ new) ms ≡ ranges_of xs ms
  ranges_same xs new [] within = refl
  ranges_same xs new (m ∷ ms) within = rw (range_same xs new m.from m.count within.0.within, ranges_same xs new ms within.1) refl

  open_more : (few many started : ℕ) (ms : List OpenMerge) → few ≤ many → AreOpen few started ms → AreOpen many started ms
  open_more few many started ms less is = record {
    within = all_weaker (IsWithin few) (IsWithin many) (λ m own. record { some = own.some; within = omega (arith, own.within, less) }) ms is.within;
    apart = is.apart;
    ids = is.ids;
    few = is.few;
  }

  last_numbers : (layout : Layout A) → numbers_of (with_buffer_last layout) ≡ numbers_of layout
  last_numbers layout =
      append-nil (flat_map (numbers_in number) (layout.segments ++ segment_of layout.made layout.buffer))
      ∙ flat_map-append (numbers_in number) layout.segments (segment_of layout.made layout.buffer)
      ∙ ap (λ ns. flat_map (numbers_in number) layout.segments ++ ns) (one_segment number layout.made layout.buffer)

  pub last_after : (end : ℕ) (layout : Layout A) → IsSound end layout → IsAfter layout end (with_buffer_last layout)
  last_after end layout is =
      let new = segment_of layout.made layout.buffer in
      record {
        sound = record {
          open_are = open_more (length layout.segments) (length (layout.segments ++ new)) layout.started layout.merges (omega (arith, length-append layout.segments new)) is.open_are;
          ids = last_ids layout is.ids;
          ascending = subst (λ ns. Ascend 0 ns end) (sym (last_numbers layout)) is.ascending;
        };
        ranges = ranges_same layout.segments new layout.merges is.open_are.within;
        started = refl;
        made = omega arith;
      }

  after_both : (base layout later : Layout A) (end : ℕ) → IsAfter base end layout → IsAfter layout end later → IsAfter base end later
  after_both base layout later end one two = record { sound = two.sound; ranges = two.ranges ∙ one.ranges; started = two.started ∙ one.started; made = omega (arith, one.made, two.made) }

  -- sealing keeps a layout sound, and each merge its segments
  pub sealed_after : (end : ℕ) (layout : Layout A) → IsSound end layout → IsAfter layout end (sealed layout)
  unfolding sealed
  sealed_after end layout is =
      let one = last_after end layout is in
      after_both layout (with_buffer_last layout) (settled layout.factor (with_buffer_last layout)) end one (settled_after end (with_buffer_last layout) one.sound)

  pub room_after : (end : ℕ) (layout : Layout A) → IsSound end layout → IsAfter layout end (with_room layout)
  room_after end layout is =
      split (nat_le buffer_size (length layout.buffer))
      (λ full. rw full (sealed_after end layout is))
      (λ room. rw room (after_same end layout is))

-- ---- what settling leaves as it is

pub record IsRest {A : Type 0} (base layout : Layout A) : Type 0 where
  pub buffer : layout.buffer ≡ base.buffer
  pub started : layout.started ≡ base.started
  pub factor : layout.factor ≡ base.factor

settled_rest : {A : Type 0} (factor : Option ℕ) (layout : Layout A) → IsRest layout (settled factor layout)
settled_rest factor layout =
    settled_by (IsRest layout) (λ from count l p some there free. record { buffer = p.buffer; started = p.started; factor = p.factor }) factor layout (record { buffer = refl; started = refl; factor = refl })

-- after sealing the buffer is empty, and the factor and the number of merges are as before
pub record IsEmptied {A : Type 0} (base layout : Layout A) : Type 0 where
  pub buffer : layout.buffer ≡ []
  pub started : layout.started ≡ base.started
  pub factor : layout.factor ≡ base.factor

pub sealed_emptied : {A : Type 0} (layout : Layout A) → IsEmptied layout (sealed layout)
unfolding sealed
sealed_emptied layout =
    let rest = settled_rest layout.factor (with_buffer_last layout) in
    record { buffer = rest.buffer; started = rest.started; factor = rest.factor }
