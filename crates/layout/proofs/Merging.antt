-- Open merges while other segments give way: each keeps its segments and stays open.
use Rattle.std.proofs.Common.{◌≡◌, ◌≢◌, ◌⊎◌, inl, inr, ℕ, zero, suc, ◌+◌, ◌-◌, ◌<◌, ◌≤◌, nat_le, nat_lt, Bool, true, false, not, ◌&&◌, cond, List, [], ◌∷◌, ◌++◌, length, map, filter, take, drop, Option, Some, None, refl, sym, ap, subst, ◌∙◌, append-nil, drop-drop, take-append-drop, arith}
use Rattle.std.specs.List.{AllByRecursion, flat_map, list_any}
use Rattle.std.proofs.lemmas.Bool.{leb-true, leb-false, ltb-true, ltb-false}
use Rattle.std.proofs.lemmas.List.{length-append, length-map, length-take, length-drop, map-append}
use Rattle.std.proofs.lemmas.List.Concat.{flat_map-append}
use Rattle.layout.proofs.Ascending.{middle, ascend_first, ascend_second, ascend_both, ascend_filter}
use Rattle.layout.proofs.Goes.{split, true_false}
use Rattle.layout.specs.Ascending.{Ascend}
use Rattle.layout.specs.Layout.{Marked, SegmentOf, OpenMerge, Layout, is_live, item_in, live_in, alive, segment_of, live_of_range, shifted, merged_range, remade, covers, is_free, is_spent, is_half_dead, are_uneven, each_remade, last_below, last_uneven, evened_at, evened, all_remade, all_evened, settled, with_buffer_last}
use Rattle.layout.specs.Merges.{AreAllApart, AreApart, AreOpen, IsWithin, merge_id}

-- ---- what holds of all of a list

module _ {A : Type 0} (P : A → Type 0) where
  pub all_first : (xs ys : List A) → AllByRecursion P (xs ++ ys) → AllByRecursion P xs
  all_first [] ys all = tt
  all_first (x ∷ xs) ys all = (all.0, all_first xs ys all.1)

  pub all_second : (xs ys : List A) → AllByRecursion P (xs ++ ys) → AllByRecursion P ys
  all_second [] ys all = all
  all_second (x ∷ xs) ys all = all_second xs ys all.1

  pub all_both : (xs ys : List A) → AllByRecursion P xs → AllByRecursion P ys → AllByRecursion P (xs ++ ys)
  all_both [] ys one two = two
  all_both (x ∷ xs) ys one two = (one.0, all_both xs ys one.1 two)

  pub all_filter : (test : A → Bool) (xs : List A) → AllByRecursion P xs → AllByRecursion P (filter test xs)
  all_filter test [] all = tt
  all_filter test (x ∷ xs) all = split (test x) (λ stays. rw stays (all.0, all_filter test xs all.1)) (λ goes. rw goes (all_filter test xs all.1))

pub all_weaker : {A : Type 0} (P Q : A → Type 0) → ((x : A) → P x → Q x) → (xs : List A) → AllByRecursion P xs → AllByRecursion Q xs
all_weaker P Q weaker [] all = tt
all_weaker P Q weaker (x ∷ xs) all = (weaker x all.0, all_weaker P Q weaker xs all.1)

pub all_of_map : {A B : Type 0} (P : B → Type 0) (f : A → B) (xs : List A) → AllByRecursion (λ x. P (f x)) xs → AllByRecursion P (map f xs)
all_of_map P f [] all = tt
all_of_map P f (x ∷ xs) all = (all.0, all_of_map P f xs all.1)

-- ---- a merge beside a range that gives way

-- the merge has no segment of the range
abbrev pub IsClear : ℕ → ℕ → OpenMerge → Type 0
IsClear from count merge = (merge.from + merge.count ≤ from) ⊎ (from + count ≤ merge.from)

pub shifted_before : (from count by : ℕ) (m : OpenMerge) → 0 < m.count → m.from + m.count ≤ from → shifted from count by m ≡ m
shifted_before from count by m some before =
    split (nat_le (from + count) m.from)
    (λ yes. absurd (omega (arith, some, before, leb-true (from + count) m.from yes)))
    (λ no. rw no refl)

pub shifted_behind : (from count by : ℕ) (m : OpenMerge) → from + count ≤ m.from → shifted from count by m ≡ record m { from = m.from - count + by }
shifted_behind from count by m behind =
    split (nat_le (from + count) m.from)
    (λ yes. rw yes refl)
    (λ no. absurd (omega (arith, behind, leb-false (from + count) m.from no)))

abbrev pub IsMoved : ℕ → ℕ → ℕ → OpenMerge → OpenMerge → Type 0
IsMoved from count by m n = ((n.from ≡ m.from) × (m.from + m.count ≤ from)) ⊎ ((n.from + count ≡ m.from + by) × (from + count ≤ m.from))

-- where a merge stands afterwards
pub record IsShifted (from count by : ℕ) (m n : OpenMerge) : Type 0 where
  pub id : n.id ≡ m.id
  pub count_is : n.count ≡ m.count
  pub place : IsMoved from count by m n

pub shifted_is : (from count by : ℕ) (m : OpenMerge) → 0 < m.count → IsClear from count m → IsShifted from count by m (shifted from count by m)
shifted_is from count by m some (inl before) =
    let same = shifted_before from count by m some before in
    record { id = ap (λ (n : OpenMerge). n.id) same; count_is = ap (λ (n : OpenMerge). n.count) same; place = inl (ap (λ (n : OpenMerge). n.from) same, before) }
shifted_is from count by m some (inr behind) =
    let same = shifted_behind from count by m behind in
    record { id = ap (λ (n : OpenMerge). n.id) same; count_is = ap (λ (n : OpenMerge). n.count) same; place = inr (omega (arith, behind, ap (λ (n : OpenMerge). n.from) same), behind) }

moved_apart : (from count by : ℕ) (one other one' other' : OpenMerge) → 0 < one.count → 0 < other.count → one'.count ≡ one.count → other'.count ≡ other.count
    → IsMoved from count by one one' → IsMoved from count by other other' → AreApart one other → AreApart one' other'
moved_apart from count by one other one' other' some some' c d (inl p) (inl q) (inl apart) = inl (omega (arith, c, p.0, q.0, apart))
moved_apart from count by one other one' other' some some' c d (inl p) (inl q) (inr apart) = inr (omega (arith, d, p.0, q.0, apart))
moved_apart from count by one other one' other' some some' c d (inl p) (inr q) apart = inl (omega (arith, c, p.0, p.1, q.0, q.1))
moved_apart from count by one other one' other' some some' c d (inr p) (inl q) apart = inr (omega (arith, d, p.0, p.1, q.0, q.1))
moved_apart from count by one other one' other' some some' c d (inr p) (inr q) (inl apart) = inl (omega (arith, c, p.0, p.1, q.0, q.1, apart))
moved_apart from count by one other one' other' some some' c d (inr p) (inr q) (inr apart) = inr (omega (arith, d, p.0, p.1, q.0, q.1, apart))

apart_each : (from count by : ℕ) (m : OpenMerge) (ms : List OpenMerge) (segments : ℕ) → 0 < m.count → IsClear from count m → AllByRecursion (IsClear from count) ms → AllByRecursion (IsWithin segments) ms
    → AllByRecursion (AreApart m) ms → AllByRecursion (AreApart (shifted from count by m)) (map (shifted from count by) ms)
apart_each from count by m [] segments some clear clears within apart = tt
apart_each from count by m (n ∷ ms) segments some clear clears within apart =
    let one = shifted_is from count by m some clear in
    let two = shifted_is from count by n within.0.some clears.0 in (
      moved_apart from count by m n (shifted from count by m) (shifted from count by n) some within.0.some one.count_is two.count_is one.place two.place apart.0,
      apart_each from count by m ms segments some clear clears.1 within.1 apart.1,
    )

apart_all : (from count by : ℕ) (ms : List OpenMerge) (segments : ℕ) → AllByRecursion (IsClear from count) ms → AllByRecursion (IsWithin segments) ms → AreAllApart ms → AreAllApart (map (shifted from count by) ms)
apart_all from count by [] segments clears within apart = tt
apart_all from count by (m ∷ ms) segments clears within apart =
    (apart_each from count by m ms segments within.0.some clears.0 clears.1 within.1 apart.0, apart_all from count by ms segments clears.1 within.1 apart.1)

moved_within : (from count by segments : ℕ) (m n : OpenMerge) → from + count ≤ segments → n.count ≡ m.count → IsMoved from count by m n → IsWithin segments m → IsWithin (segments - count + by) n
moved_within from count by segments m n there c (inl p) is = record { some = omega (arith, c, is.some); within = omega (arith, c, p.0, p.1, there) }
moved_within from count by segments m n there c (inr p) is = record { some = omega (arith, c, is.some); within = omega (arith, c, p.0, p.1, there, is.within) }

within_all : (from count by segments : ℕ) (ms : List OpenMerge) → from + count ≤ segments → AllByRecursion (IsClear from count) ms → AllByRecursion (IsWithin segments) ms → AllByRecursion (IsWithin (segments - count + by)) (map (shifted from count by) ms)
within_all from count by segments [] there clears within = tt
within_all from count by segments (m ∷ ms) there clears within =
    let one = shifted_is from count by m within.0.some clears.0 in
    (moved_within from count by segments m (shifted from count by m) there one.count_is one.place within.0, within_all from count by segments ms there clears.1 within.1)

shifted_id : (from count by : ℕ) (m : OpenMerge) → merge_id (shifted from count by m) ≡ merge_id m
shifted_id from count by m = elim (nat_le (from + count) m.from) as (λ b. merge_id (cond b (record m { from = m.from - count + by }) m) ≡ merge_id m) [
  | true ↦ refl
  | false ↦ refl
]

pub shifted_ids : (from count by : ℕ) (ms : List OpenMerge) → map merge_id (map (shifted from count by) ms) ≡ map merge_id ms
shifted_ids from count by [] = refl
shifted_ids from count by (m ∷ ms) = rw (shifted_id from count by m, shifted_ids from count by ms) refl

-- merges stay open where a range that none of them has gives way
pub shifted_open : (from count by segments started : ℕ) (ms : List OpenMerge) → from + count ≤ segments → AllByRecursion (IsClear from count) ms → AreOpen segments started ms → AreOpen (segments - count + by) started (map (shifted from count by) ms)
shifted_open from count by segments started ms there clears is = record {
  within = within_all from count by segments ms there clears is.within;
  apart = apart_all from count by ms segments clears is.within is.apart;
  ids = subst (λ ns. Ascend 1 ns (started + 1)) (sym (shifted_ids from count by ms)) is.ids;
  few = omega (arith, is.few, length-map ms (shifted from count by));
}

-- ---- the segments of a merge

module _ {A : Type 0} where
  abbrev pub range_of : List A → OpenMerge → List A
  range_of segments m = take m.count (drop m.from segments)

  abbrev pub ranges_of : List A → List OpenMerge → List (List A)
  ranges_of segments merges = map (range_of segments) merges

  prefix_same : (count from : ℕ) (xs rest : List A) → count ≤ from → from ≤ length xs → take count (take from xs ++ rest) ≡ take count xs
  prefix_same zero from xs rest h k = refl
  prefix_same (suc count) zero xs rest h k = absurd (omega (arith, h))
  prefix_same (suc count) (suc from) [] rest h k = absurd (omega (arith, k))
  prefix_same (suc count) (suc from) (x ∷ xs) rest h k = ap (λ ys. x ∷ ys) (prefix_same count from xs rest (omega (arith, h)) (omega (arith, k)))

  before_same : (at count from : ℕ) (xs rest : List A) → at + count ≤ from → from ≤ length xs → take count (drop at (take from xs ++ rest)) ≡ take count (drop at xs)
  before_same zero count from xs rest h k = prefix_same count from xs rest (omega (arith, h)) k
  before_same (suc at) count zero xs rest h k = absurd (omega (arith, h))
  before_same (suc at) count (suc from) [] rest h k = absurd (omega (arith, k))
  before_same (suc at) count (suc from) (x ∷ xs) rest h k = before_same at count from xs rest (omega (arith, h)) (omega (arith, k))

  drop_past : (more : ℕ) (xs ys : List A) → drop (length xs + more) (xs ++ ys) ≡ drop more ys
  drop_past more [] ys = let e : 0 + more ≡ more = omega arith in ap (λ k. drop k ys) e
  drop_past more (x ∷ xs) ys = let e : suc (length xs) + more ≡ suc (length xs + more) = omega arith in rw e (drop_past more xs ys)

  -- behind a range that gave way
  behind_same : (from count more : ℕ) (xs new : List A) → from ≤ length xs → drop (from + (length new + more)) (take from xs ++ (new ++ drop (from + count) xs)) ≡ drop (from + count + more) xs
  behind_same zero count more xs new h =
      let e : 0 + (length new + more) ≡ length new + more = omega arith in
      let f : 0 + count ≡ count = omega arith in
      rw (e, f) (drop_past more new (drop count xs) ∙ drop-drop more count xs)
  behind_same (suc from) count more [] new h = absurd (omega (arith, h))
  behind_same (suc from) count more (x ∷ xs) new h =
      let e : suc from + (length new + more) ≡ suc (from + (length new + more)) = omega arith in
      let f : suc from + count ≡ suc (from + count) = omega arith in
      let g : suc (from + count) + more ≡ suc (from + count + more) = omega arith in
      rw (e, f, g) (behind_same from count more xs new (omega (arith, h)))

  moved_range : (from count : ℕ) (xs new : List A) (m n : OpenMerge) → from + count ≤ length xs → n.count ≡ m.count → IsMoved from count (length new) m n
      → range_of (take from xs ++ (new ++ drop (from + count) xs)) n ≡ range_of xs m
  moved_range from count xs new m n there c (inl p) = rw (c, p.0) (before_same m.from m.count from xs (new ++ drop (from + count) xs) p.1 (omega (arith, there)))
  moved_range from count xs new m n there c (inr p) =
      let more = m.from - (from + count) in
      let at : n.from ≡ from + (length new + more) = omega (arith, p.0, p.1) in
      let was : m.from ≡ from + count + more = omega (arith, p.1) in
      rw (c, at) (ap (take m.count) (behind_same from count more xs new (omega (arith, there)) ∙ ap (λ k. drop k xs) (sym was)))

  -- each merge keeps its segments
  pub shifted_ranges : (from count : ℕ) (xs new : List A) (ms : List OpenMerge) (segments : ℕ) → from + count ≤ length xs → AllByRecursion (IsClear from count) ms → AllByRecursion (IsWithin segments) ms
      → ranges_of (take from xs ++ (new ++ drop (from + count) xs)) (map (shifted from count (length new)) ms) ≡ ranges_of xs ms
  shifted_ranges from count xs new [] segments there clears within = refl
  shifted_ranges from count xs new (m ∷ ms) segments there clears within =
      let one = shifted_is from count (length new) m within.0.some clears.0 in
      rw (moved_range from count xs new m (shifted from count (length new) m) there one.count_is one.place, shifted_ranges from count xs new ms segments there clears.1 within.1) refl

-- ---- ids of segments

abbrev pub segment_id : {A : Type 0} → SegmentOf A → ℕ
segment_id {A} segment = segment.id

-- no number stands twice
abbrev pub AreDistinct : List ℕ → Type 0
AreDistinct [] = Unit {0}
AreDistinct (n ∷ ns) = AllByRecursion (λ other. n ≢ other) ns × AreDistinct ns

abbrev pub AreUnder : ℕ → List ℕ → Type 0
AreUnder end ns = AllByRecursion (λ n. n < end) ns

distinct_last : (xs ys : List ℕ) → AreDistinct (xs ++ ys) → AreDistinct ys
distinct_last [] ys is = is
distinct_last (x ∷ xs) ys is = distinct_last xs ys is.1

without_middle : (xs ys zs : List ℕ) → AreDistinct (xs ++ (ys ++ zs)) → AreDistinct (xs ++ zs)
without_middle [] ys zs is = distinct_last ys zs is
without_middle (x ∷ xs) ys zs is =
    let P : ℕ → Type 0 = λ other. x ≢ other in
    (all_both P xs zs (all_first P xs (ys ++ zs) is.0) (all_second P ys zs (all_second P xs (ys ++ zs) is.0)), without_middle xs ys zs is.1)

with_middle : (xs zs : List ℕ) (new : ℕ) → AreUnder new (xs ++ zs) → AreDistinct (xs ++ zs) → AreDistinct (xs ++ new ∷ zs)
with_middle [] zs new under is = (all_weaker (λ n. n < new) (λ n. new ≢ n) (λ n less same. omega (arith, less, same)) zs under, is)
with_middle (x ∷ xs) zs new under is =
    let P : ℕ → Type 0 = λ other. x ≢ other in
    let apart : x ≢ new = λ same. omega (arith, under.0, same) in
    (all_both P xs (new ∷ zs) (all_first P xs zs is.0) (apart, all_second P xs zs is.0), with_middle xs zs new under.1 is.1)

-- an id of its own for each segment, below those that come
pub record HaveIds {A : Type 0} (segments : List (SegmentOf A)) (made : ℕ) : Type 0 where
  pub distinct : AreDistinct (map segment_id segments)
  pub under : AreUnder made (map segment_id segments)

module _ {A : Type 0} where
  middle_ids : (xs zs : List (SegmentOf A)) (ys : List ℕ) (made : ℕ) (items : List A) → AreDistinct (map segment_id xs ++ (ys ++ map segment_id zs)) → AreUnder made (map segment_id xs ++ (ys ++ map segment_id zs))
      → HaveIds (xs ++ (segment_of made items ++ zs)) (made + length (segment_of made items))
  middle_ids xs zs ys made [] distinct under =
      let P : ℕ → Type 0 = λ n. n < made in
      let same : map segment_id (xs ++ zs) ≡ map segment_id xs ++ map segment_id zs = map-append segment_id xs zs in
      let e : made + 0 ≡ made = omega arith in
      record {
        distinct = subst AreDistinct (sym same) (without_middle (map segment_id xs) ys (map segment_id zs) distinct);
        under = rw e (subst (AreUnder made) (sym same) (all_both P (map segment_id xs) (map segment_id zs) (all_first P (map segment_id xs) (ys ++ map segment_id zs) under) (all_second P ys (map segment_id zs) (all_second P (map segment_id xs) (ys ++ map segment_id zs) under))));
      }
  middle_ids xs zs ys made (item ∷ items) distinct under =
      let P : ℕ → Type 0 = λ n. n < made in
      let both : AreUnder made (map segment_id xs ++ map segment_id zs) = all_both P (map segment_id xs) (map segment_id zs) (all_first P (map segment_id xs) (ys ++ map segment_id zs) under) (all_second P ys (map segment_id zs) (all_second P (map segment_id xs) (ys ++ map segment_id zs) under)) in
      let more : AreUnder (made + 1) (map segment_id xs ++ map segment_id zs) = all_weaker P (λ n. n < made + 1) (λ n less. omega (arith, less)) (map segment_id xs ++ map segment_id zs) both in
      let Q : ℕ → Type 0 = λ n. n < made + 1 in
      let own : made < made + 1 = omega arith in
      let same : map segment_id (xs ++ (segment_of made (item ∷ items) ++ zs)) ≡ map segment_id xs ++ made ∷ map segment_id zs = map-append segment_id xs (segment_of made (item ∷ items) ++ zs) in
      record {
        distinct = subst AreDistinct (sym same) (with_middle (map segment_id xs) (map segment_id zs) made both (without_middle (map segment_id xs) ys (map segment_id zs) distinct));
        under = subst (AreUnder (made + 1)) (sym same) (all_both Q (map segment_id xs) (made ∷ map segment_id zs) (all_first Q (map segment_id xs) (map segment_id zs) more) (own, all_second Q (map segment_id xs) (map segment_id zs) more));
      }

  -- segments before, in and behind a range
  pub in_three : (from count : ℕ) (xs : List (SegmentOf A)) → xs ≡ take from xs ++ (take count (drop from xs) ++ drop (from + count) xs)
  in_three from count xs =
      sym (take-append-drop from xs) ∙ ap (λ ys. take from xs ++ ys) (sym (take-append-drop count (drop from xs)) ∙ ap (λ ys. take count (drop from xs) ++ ys) (drop-drop count from xs))

  pub remade_ids : (from count : ℕ) (layout : Layout A) → HaveIds layout.segments layout.made → HaveIds (remade from count layout).segments (remade from count layout).made
  remade_ids from count layout are =
      let xs = take from layout.segments in
      let ys = take count (drop from layout.segments) in
      let zs = drop (from + count) layout.segments in
      let parts : map segment_id layout.segments ≡ map segment_id xs ++ (map segment_id ys ++ map segment_id zs) =
      ap (map segment_id) (in_three from count layout.segments) ∙ map-append segment_id xs (ys ++ zs) ∙ ap (λ ns. map segment_id xs ++ ns) (map-append segment_id ys zs) in
      middle_ids xs zs (map segment_id ys) layout.made (live_of_range from count layout) (subst AreDistinct parts are.distinct) (subst (AreUnder layout.made) parts are.under)

  pub last_ids : (layout : Layout A) → HaveIds layout.segments layout.made → HaveIds (with_buffer_last layout).segments (with_buffer_last layout).made
  last_ids layout are =
      let e : map segment_id layout.segments ≡ map segment_id layout.segments ++ ([] ++ []) = sym (append-nil (map segment_id layout.segments)) in
      let own = middle_ids layout.segments [] [] layout.made layout.buffer (subst AreDistinct e are.distinct) (subst (AreUnder layout.made) e are.under) in
      subst (λ (segments : List (SegmentOf A)). HaveIds (layout.segments ++ segments) (layout.made + length (segment_of layout.made layout.buffer))) (append-nil (segment_of layout.made layout.buffer)) own

-- ---- numbers

module _ {A : Type 0} (number : A → ℕ) where
  abbrev pub item_number : Marked A → ℕ
  item_number m = number m.item

  abbrev pub numbers_in : SegmentOf A → List ℕ
  numbers_in segment = map item_number segment.items

  live_numbers : (ms : List (Marked A)) → map number (map item_in (filter is_live ms)) ≡ map item_number (filter is_live ms)
  live_numbers [] = refl
  live_numbers (m ∷ ms) = split m.live (λ is. rw is (ap (λ ns. number m.item ∷ ns) (live_numbers ms))) (λ isnt. rw isnt (live_numbers ms))

  range_ascends : (segments : List (SegmentOf A)) (from end : ℕ) → Ascend from (flat_map numbers_in segments) end → Ascend from (map number (flat_map live_in segments)) end
  range_ascends [] from end is = is
  range_ascends (segment ∷ segments) from end is =
      let mid = middle from (numbers_in segment) in
      let one = ascend_first (numbers_in segment) (flat_map numbers_in segments) from end is in
      let two = range_ascends segments mid end (ascend_second (numbers_in segment) (flat_map numbers_in segments) from end is) in
      let live : Ascend from (map number (live_in segment)) mid = subst (λ ns. Ascend from ns mid) (sym (live_numbers segment.items)) (ascend_filter item_number is_live segment.items from mid one) in
      subst (λ ns. Ascend from ns end) (sym (map-append number (live_in segment) (flat_map live_in segments))) (ascend_both (map number (live_in segment)) (map number (flat_map live_in segments)) from mid end live two)

  pub one_segment : (id : ℕ) (xs : List A) → flat_map numbers_in (segment_of id xs) ≡ map number xs
  one_segment id [] = refl
  one_segment id (x ∷ xs) = append-nil (number x ∷ map item_number (map alive xs)) ∙ ap (λ rest. number x ∷ rest) (all_alive xs)
    where
      all_alive : (ys : List A) → map item_number (map alive ys) ≡ map number ys
      all_alive [] = refl
      all_alive (y ∷ ys) = ap (λ rest. number y ∷ rest) (all_alive ys)

  -- numbers ascend still where a range gives way
  pub remade_ascends : (from count : ℕ) (layout : Layout A) (low end : ℕ) → Ascend low (flat_map numbers_in layout.segments) end → Ascend low (flat_map numbers_in (remade from count layout).segments) end
  remade_ascends from count layout low end is =
      let xs = take from layout.segments in
      let ys = take count (drop from layout.segments) in
      let zs = drop (from + count) layout.segments in
      let parts : flat_map numbers_in layout.segments ≡ flat_map numbers_in xs ++ (flat_map numbers_in ys ++ flat_map numbers_in zs) =
      ap (flat_map numbers_in) (in_three from count layout.segments) ∙ flat_map-append numbers_in xs (ys ++ zs) ∙ ap (λ ns. flat_map numbers_in xs ++ ns) (flat_map-append numbers_in ys zs) in
      let now : flat_map numbers_in (remade from count layout).segments ≡ flat_map numbers_in xs ++ (map number (live_of_range from count layout) ++ flat_map numbers_in zs) =
      flat_map-append numbers_in xs (merged_range from count layout ++ zs) ∙ ap (λ ns. flat_map numbers_in xs ++ ns) (flat_map-append numbers_in (merged_range from count layout) zs ∙ ap (λ ns. ns ++ flat_map numbers_in zs) (one_segment layout.made (live_of_range from count layout))) in
      let all : Ascend low (flat_map numbers_in xs ++ (flat_map numbers_in ys ++ flat_map numbers_in zs)) end = subst (λ ns. Ascend low ns end) parts is in
      let one = middle low (flat_map numbers_in xs) in
      let rest = ascend_second (flat_map numbers_in xs) (flat_map numbers_in ys ++ flat_map numbers_in zs) low end all in
      let two = middle one (flat_map numbers_in ys) in
      let range = range_ascends ys one two (ascend_first (flat_map numbers_in ys) (flat_map numbers_in zs) one end rest) in
      subst (λ ns. Ascend low ns end) (sym now)
      (ascend_both (flat_map numbers_in xs) (map number (live_of_range from count layout) ++ flat_map numbers_in zs) low one end (ascend_first (flat_map numbers_in xs) (flat_map numbers_in ys ++ flat_map numbers_in zs) low end all)
      (ascend_both (map number (live_of_range from count layout)) (flat_map numbers_in zs) one two end range (ascend_second (flat_map numbers_in ys) (flat_map numbers_in zs) one end rest)))

-- ---- what settling keeps

clear_one : (from count : ℕ) (m : OpenMerge) (segments : ℕ) → 0 < count → IsWithin segments m → ((index : ℕ) → from ≤ index → index < from + count → covers index m ≡ false) → IsClear from count m
clear_one from count m segments some is free =
    split (nat_le (m.from + m.count) from)
    (λ before. inl (leb-true (m.from + m.count) from before))
    (λ later. split (nat_le (from + count) m.from)
    (λ behind. inr (leb-true (from + count) m.from behind))
    (λ earlier.
    let h = leb-false (m.from + m.count) from later in
    let k = leb-false (from + count) m.from earlier in
    -- the greater of the two beginnings is in both
    split (nat_le m.from from)
    (λ first. absurd (uncovered from m (leb-true m.from from first) h (free from (omega arith) (omega (arith, some)))))
    (λ second.
    let g = leb-false m.from from second in
    absurd (uncovered m.from m (omega arith) (omega (arith, is.some)) (free m.from (omega (arith, g)) k)))))
  where
    both : (b c : Bool) → b ≡ true → c ≡ true → (b && c) ≡ true
    both b c e f = rw (e, f) refl

    uncovered : (index : ℕ) (n : OpenMerge) → n.from ≤ index → index < n.from + n.count → covers index n ≡ false → ⊥
    uncovered index n low high out =
        split (nat_le n.from index)
        (λ one. split (nat_lt index (n.from + n.count))
        (λ two. true_false (sym (both (nat_le n.from index) (nat_lt index (n.from + n.count)) one two) ∙ out))
        (λ two. omega (arith, high, ltb-false index (n.from + n.count) two)))
        (λ one. omega (arith, low, leb-false n.from index one))

not_any : {X : Type 0} (test : X → Bool) (x : X) (xs : List X) → not (list_any test (x ∷ xs)) ≡ true → (test x ≡ false) × (not (list_any test xs) ≡ true)
not_any test x xs free = split (test x) (λ is. true_false (sym (sym (rw is refl) ∙ free))) (λ isnt. (isnt, sym (rw isnt refl) ∙ free))

clear_all : (from count : ℕ) (ms : List OpenMerge) (segments : ℕ) → 0 < count → AllByRecursion (IsWithin segments) ms → ((index : ℕ) → from ≤ index → index < from + count → not (list_any (covers index) ms) ≡ true) → AllByRecursion (IsClear from count) ms
clear_all from count [] segments some within free = tt
clear_all from count (m ∷ ms) segments some within free = (
  clear_one from count m segments some within.0 (λ index low high. (not_any (covers index) m ms (free index low high)).0),
  clear_all from count ms segments some within.1 (λ index low high. (not_any (covers index) m ms (free index low high)).1),
)

module _ {A : Type 0} where
  -- none of a range is in an open merge
  abbrev pub AreFree : ℕ → ℕ → Layout A → Type 0
  AreFree from count layout = (index : ℕ) → from ≤ index → index < from + count → is_free layout index ≡ true

  pub are_clear : (from count : ℕ) (layout : Layout A) → 0 < count → AreOpen (length layout.segments) layout.started layout.merges → AreFree from count layout → AllByRecursion (IsClear from count) layout.merges
  are_clear from count layout some is free = clear_all from count layout.merges (length layout.segments) some is.within free

  pub length_remade : (from count : ℕ) (layout : Layout A) → from + count ≤ length layout.segments → length (remade from count layout).segments ≡ length layout.segments - count + length (merged_range from count layout)
  length_remade from count layout there =
      let xs = take from layout.segments in
      let new = merged_range from count layout in
      let zs = drop (from + count) layout.segments in
      omega (arith, there, length-append xs (new ++ zs), length-append new zs, length-take from layout.segments, length-drop (from + count) layout.segments)

  -- What holds of a layout still holds after it has settled, where it holds after each range that no open merge has gives way.
  module _ (P : Layout A → Type 0) (step : (from count : ℕ) (layout : Layout A) → P layout → 0 < count → from + count ≤ length layout.segments → AreFree from count layout → P (remade from count layout)) where
    one_free : (index : ℕ) (layout : Layout A) → is_free layout index ≡ true → AreFree index 1 layout
    one_free index layout free at low high = let e : at ≡ index = omega (arith, low, high) in rw e free

    each_by : (test : Layout A → ℕ → Bool) → ((layout : Layout A) (index : ℕ) → test layout index ≡ true → is_free layout index ≡ true) → (n : ℕ) (layout : Layout A) → n ≤ length layout.segments → P layout → P (each_remade test n layout)
    each_by test frees zero layout few p = p
    each_by test frees (suc n) layout few p =
        split (test layout n)
        (λ yes. rw yes (each_by test frees n (remade n 1 layout) (omega (arith, few, length_remade n 1 layout (omega (arith, few))))
        (step n 1 layout p (omega arith) (omega (arith, few)) (one_free n layout (frees layout n yes)))))
        (λ no. rw no (each_by test frees n layout (omega (arith, few)) p))

    found_below : (test : ℕ → Bool) (n index : ℕ) → last_below test n ≡ Some index → (index < n) × (test index ≡ true)
    found_below test zero index e = absurd (cc (e))
    found_below test (suc n) index e =
        split (test n)
        (λ yes.
        let same : n ≡ index = some_is n index (sym (rw yes refl) ∙ e) in
        (omega (arith, same), subst (λ k. test k ≡ true) same yes))
        (λ no.
        let rest = found_below test n index (sym (rw no refl) ∙ e) in
        (omega (arith, rest.0), rest.1))
      where
        some_is : (x y : ℕ) → Some x ≡ Some y → x ≡ y
        some_is x y h = cc (h)

    and_first : (b c : Bool) → (b && c) ≡ true → b ≡ true
    and_first true c e = refl
    and_first false c e = true_false (sym e)

    and_second : (b c : Bool) → (b && c) ≡ true → c ≡ true
    and_second true c e = e
    and_second false c e = true_false (sym e)

    two_free : (factor : ℕ) (layout : Layout A) (index : ℕ) → are_uneven factor layout index ≡ true → AreFree index 2 layout
    two_free factor layout index uneven at low high =
        let first = and_first (is_free layout index) _ uneven in
        let second = and_first (is_free layout (index + 1)) _ (and_second (is_free layout index) _ uneven) in
        split (nat_lt index at)
        (λ next. let e : at ≡ index + 1 = omega (arith, high, ltb-true index at next) in rw e second)
        (λ here. let e : at ≡ index = omega (arith, low, ltb-false index at here) in rw e first)

    evened_by : (steps factor : ℕ) (layout : Layout A) → P layout → P (evened steps factor layout)
    evened_by zero factor layout p = p
    evened_by (suc steps) factor layout p = evened_by steps factor (evened_at (last_uneven factor layout) layout) (at (last_uneven factor layout) refl)
      where
        at : (o : Option ℕ) → last_uneven factor layout ≡ o → P (evened_at o layout)
        at None e = p
        at (Some index) e =
            let found = found_below (are_uneven factor layout) (length layout.segments - 1) index e in
            step index 2 layout p (omega arith) (omega (arith, found.0)) (two_free factor layout index found.1)

    pub settled_by : (factor : Option ℕ) (layout : Layout A) → P layout → P (settled factor layout)
    settled_by None layout p = p
    settled_by (Some factor) layout p =
        let one = each_by is_spent (λ l index yes. and_first (is_free l index) _ yes) (length layout.segments) layout (omega arith) p in
        let two = evened_by (length (all_remade is_spent layout).segments) factor (all_remade is_spent layout) one in
        each_by is_half_dead (λ l index yes. and_first (is_free l index) _ yes) (length (all_evened factor (all_remade is_spent layout)).segments) (all_evened factor (all_remade is_spent layout)) (omega arith) two
