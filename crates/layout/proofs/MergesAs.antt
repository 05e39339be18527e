-- Merges that are asked for: they are refused and done alike to a layout of other items, and leave what is live.
use Rattle.std.proofs.Common.{◌≡◌, ℕ, ◌+◌, ◌-◌, ◌==◌, nat_lt, Bool, true, false, ◌||◌, cond, List, [], ◌∷◌, ◌++◌, length, map, find, get_or, Some, None, refl, sym, ap, ◌∙◌}
use Rattle.std.specs.List.{sum_by}
use Rattle.std.proofs.lemmas.List.{length-map}
use Rattle.std.proofs.lemmas.List.Sums.{sum_by-cons}
use Rattle.layout.specs.As.{marked_as, segment_as, layout_as}
use Rattle.layout.specs.Layout.{Marked, SegmentOf, OpenMerge, Layout, item_in, live_items, live_of_range, remade}
use Rattle.layout.specs.Merges.{bad_range, shares, overlapping, overlap_fault, crowded_fault, fault_or, start_fault, force_fault, forced_from, forced_count, forced, merge_of, with_merge, closed, finished, summary_of, summaries_of}
use Rattle.layout.proofs.Images.{remade_as, live_of_range_as, live_count_as, dead_count_as}
use Rattle.layout.proofs.Keeps.{remade_keeps}

-- ---- refusals

pub start_fault_as : {A B : Type 0} (f : A → B) (from count : ℕ) (layout : Layout A) → start_fault from count (layout_as f layout) ≡ start_fault from count layout
start_fault_as f from count layout =
    ap (λ n. cond ((count == 0) || nat_lt n (from + count)) (Some bad_range) (fault_or (overlap_fault (overlapping from count layout)) (crowded_fault layout)))
    (length-map layout.segments (segment_as f))

pub forced_count_as : {A B : Type 0} (f : A → B) (most : ℕ) (layout : Layout A) → forced_count most (layout_as f layout) ≡ forced_count most layout
forced_count_as f most layout = ap (λ n. n - forced_from most) (length-map layout.segments (segment_as f))

pub force_fault_as : {A B : Type 0} (f : A → B) (most : ℕ) (layout : Layout A) → force_fault most (layout_as f layout) ≡ force_fault most layout
force_fault_as f most layout =
    ap (λ n. cond (nat_lt n most) None (overlap_fault (find (shares (forced_from most) (n - forced_from most)) layout.merges))) (length-map layout.segments (segment_as f))

-- ---- what is done

merge_of_as : {A B : Type 0} (f : A → B) (from count : ℕ) (layout : Layout A) → merge_of from count (layout_as f layout) ≡ merge_of from count layout
merge_of_as f from count layout =
    ap (λ n. record { id = layout.started + 1; from = from; count = count; left = n })
    (ap length (live_of_range_as f from count layout) ∙ length-map (live_of_range from count layout) f)

pub with_merge_as : {A B : Type 0} (f : A → B) (from count : ℕ) (layout : Layout A) → with_merge from count (layout_as f layout) ≡ layout_as f (with_merge from count layout)
with_merge_as f from count layout =
    λ i. record (layout_as f layout) { merges = layout.merges ++ merge_of_as f from count layout i ∷ []; started = layout.started + 1 }

pub finished_as : {A B : Type 0} (f : A → B) (merge : OpenMerge) (layout : Layout A) → finished merge (layout_as f layout) ≡ layout_as f (finished merge layout)
finished_as f merge layout = remade_as f merge.from merge.count (closed merge.id layout)

forced_by : {A B : Type 0} (f : A → B) (from count : ℕ) (few : Bool) (layout : Layout A)
    → cond few (layout_as f layout) (remade from count (layout_as f layout)) ≡ layout_as f (cond few layout (remade from count layout))
forced_by f from count true layout = refl
forced_by f from count false layout = remade_as f from count layout

pub forced_as : {A B : Type 0} (f : A → B) (most : ℕ) (layout : Layout A) → forced most (layout_as f layout) ≡ layout_as f (forced most layout)
forced_as f most layout =
    ap (λ n. cond (nat_lt n most) (layout_as f layout) (remade (forced_from most) (n - forced_from most) (layout_as f layout))) (length-map layout.segments (segment_as f))
    ∙ forced_by f (forced_from most) (forced_count most layout) (nat_lt (length layout.segments) most) layout

-- ---- rows

items_as : {A B : Type 0} (f : A → B) (xs : List (Marked A)) → map item_in (map (marked_as f) xs) ≡ map f (map item_in xs)
items_as f [] = refl
items_as f (x ∷ xs) = ap (λ ys. f x.item ∷ ys) (items_as f xs)

numbers_as : {A B : Type 0} (f : A → B) (number : B → ℕ) (xs : List A) → map number (map f xs) ≡ map (λ a. number (f a)) xs
numbers_as f number [] = refl
numbers_as f number (x ∷ xs) = ap (λ ns. number (f x) ∷ ns) (numbers_as f number xs)

sum_as : {A B : Type 0} (f : A → B) (objects : B → ℕ) (xs : List A) → sum_by objects (map f xs) ≡ sum_by (λ a. objects (f a)) xs
sum_as f objects [] = refl
sum_as f objects (x ∷ xs) =
    sum_by-cons objects (f x) (map f xs) ∙ ap (λ n. objects (f x) + n) (sum_as f objects xs) ∙ sym (sum_by-cons (λ a. objects (f a)) x xs)

summary_as : {A B : Type 0} (f : A → B) (objects number : B → ℕ) (segment : SegmentOf A)
    → summary_of objects number (segment_as f segment) ≡ summary_of (λ a. objects (f a)) (λ a. number (f a)) segment
summary_as f objects number segment =
    let items = items_as f segment.items in
    let numbers = ap (map number) items ∙ numbers_as f number (map item_in segment.items) in
    λ i. record {
      dead = dead_count_as f segment i;
      first = get_or (numbers i) 0 0;
      last = get_or (numbers i) (length-map segment.items (marked_as f) i - 1) 0;
      live = live_count_as f segment i;
      objects = (ap (sum_by objects) items ∙ sum_as f objects (map item_in segment.items)) i;
    }

rows_as : {A B : Type 0} (f : A → B) (objects number : B → ℕ) (segments : List (SegmentOf A))
    → map (summary_of objects number) (map (segment_as f) segments) ≡ map (summary_of (λ a. objects (f a)) (λ a. number (f a))) segments
rows_as f objects number [] = refl
rows_as f objects number (segment ∷ segments) = λ i. summary_as f objects number segment i ∷ rows_as f objects number segments i

pub summaries_as : {A B : Type 0} (f : A → B) (objects number : B → ℕ) (layout : Layout A)
    → summaries_of objects number (layout_as f layout) ≡ summaries_of (λ a. objects (f a)) (λ a. number (f a)) layout
summaries_as f objects number layout = rows_as f objects number layout.segments

-- ---- what is live

pub finished_keeps : {A : Type 0} (merge : OpenMerge) (layout : Layout A) → live_items (finished merge layout) ≡ live_items layout
finished_keeps merge layout = remade_keeps merge.from merge.count (closed merge.id layout)

forced_kept : {A : Type 0} (from count : ℕ) (few : Bool) (layout : Layout A) → live_items (cond few layout (remade from count layout)) ≡ live_items layout
forced_kept from count true layout = refl
forced_kept from count false layout = remade_keeps from count layout

pub forced_keeps : {A : Type 0} (most : ℕ) (layout : Layout A) → live_items (forced most layout) ≡ live_items layout
forced_keeps most layout = forced_kept (forced_from most) (forced_count most layout) (nat_lt (length layout.segments) most) layout
