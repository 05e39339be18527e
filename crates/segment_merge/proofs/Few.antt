-- A key has no more rows in columns of parts than the parts have live documents.
use Rattle.std.proofs.Common.{◌≡◌, ℕ, suc, ◌+◌, ◌-◌, ◌<◌, ◌≤◌, Bool, true, false, cond, List, [], ◌∷◌, length, map, get_or, drop, take, refl, sym, ap, subst, ◌∙◌, arith, inl, inr}
use Rattle.std.specs.List.{AllByRecursion, count_by, flat_map}
use Rattle.std.specs.List.Sorted.{IsStrictlyIncreasing, IsStrictlySortedBy}
use Rattle.std.specs.Cmp.{IsTotalOrder}
use Rattle.std.specs.Ordering.{eq_by_cmp}
use Rattle.std.specs.declared.cmp.Ordering.{Ordering}
use Rattle.std.specs.declared.cmp.Ordering.TheVariants.{Less}
use Rattle.std.proofs.lemmas.Bool.{cases_lt}
use Rattle.std.proofs.lemmas.List.{drop-drop, drop_more, get_or_past, length-append, length-map, take-append-drop}
use Rattle.std.proofs.lemmas.List.Sums.{sum_by-append, sum_by-cons}
use Rattle.std.proofs.lemmas.Map.Keys.{sorted_head, sorted_tail}
use Rattle.block_bits.specs.Flags.{is_marked}
use Rattle.segment_builder.specs.Groups.{in_groups, keys}
use Rattle.segment_parts.specs.Marks.{count-mark}
use Rattle.segment_merge.specs.Merged.{kept, kept_columns, live_count, renumbered}
use Rattle.segment_merge.specs.Numbering.{PartState, live_in}
use Rattle.segment_merge.proofs.Gathering.{groups_append, none_behind, split}

-- rows by ascending document, the first at `from` or later
abbrev pub Rise : {X : Type 0} → ℕ → List (ℕ × X) → Type 0
Rise from [] = Unit {0}
Rise from (row ∷ rows) = (from ≤ row.0) × Rise (row.0 + 1) rows

pub rise_from : {X : Type 0} (from : ℕ) (rows : List (ℕ × X)) → (0 < length rows → from ≤ get_or (map (λ (row : ℕ × X). row.0) rows) 0 0) → IsStrictlyIncreasing (map (λ (row : ℕ × X). row.0) rows) → Rise from rows
rise_from from [] first up = tt
rise_from {X} from (row ∷ rows) first up = (
  first (omega arith),
  rise_from (row.0 + 1) rows
      (λ some. omega (arith, up 0 (omega (arith, some, length-map rows (λ (row : ℕ × X). row.0)))))
      (λ k below.
      let on : suc k + 1 ≡ suc (k + 1) = omega arith in
      subst (λ n. get_or (map (λ (row : ℕ × X). row.0) (row ∷ rows)) (suc k) 0 < get_or (map (λ (row : ℕ × X). row.0) (row ∷ rows)) n 0) on (up (suc k) (omega (arith, below)))),
)

-- ---- live rows

count_drop : (k : ℕ) (flags : List Bool) → count_by is_marked (drop k flags) ≤ count_by is_marked flags
count_drop k flags =
    omega (arith, sum_by-append (λ (flag : Bool). cond flag 1 0) (take k flags) (drop k flags), ap (count_by is_marked) (take-append-drop k flags))

count_from : (flags : List Bool) (from to : ℕ) → from ≤ to → count_by is_marked (drop to flags) ≤ count_by is_marked (drop from flags)
count_from flags from to h =
    let on : from + (to - from) ≡ to = omega (arith, h) in
    let same : drop (to - from) (drop from flags) ≡ drop to flags = drop-drop (to - from) from flags ∙ ap (λ n. drop n flags) on in
    omega (arith, count_drop (to - from) (drop from flags), ap (count_by is_marked) same)

count_at : (flags : List Bool) (from at : ℕ) → from ≤ at → get_or flags at false ≡ true → count_by is_marked (drop (at + 1) flags) + 1 ≤ count_by is_marked (drop from flags)
count_at flags from at h is =
    elim (cases_lt at (length flags)) [
      | inl inside ↦
          let here : drop at flags ≡ true ∷ drop (at + 1) flags = drop_more flags at false inside ∙ ap (λ (flag : Bool). flag ∷ drop (at + 1) flags) is in
          omega (arith, count_from flags from at h, ap (count_by is_marked) here, count-mark true (drop (at + 1) flags))
      | inr past ↦ absurd (let no : true ≡ false = sym is ∙ get_or_past flags at false past in cc (no))
    ]

pub kept_few : {X : Type 0} (base : ℕ) (live : List Bool) (from : ℕ) (rows : List (ℕ × X)) → Rise from rows → length (kept base live rows) ≤ count_by is_marked (drop from live)
kept_few base live from [] up = omega arith
kept_few {X} base live from (row ∷ rows) up =
    split (get_or live row.0 false)
    (λ is. rw is (let one : length ((renumbered base live row.0, row.1) ∷ kept base live rows) ≡ 1 + length (kept base live rows) = omega arith in omega (arith, one, kept_few base live (row.0 + 1) rows up.1, count_at live from row.0 up.0 is)))
    (λ isnt. rw isnt (omega (arith, kept_few base live (row.0 + 1) rows up.1, count_from live from (row.0 + 1) (omega (arith, up.0)))))

-- ---- columns

module _ {K X : Type 0} (cmp : K → K → Ordering) (o : IsTotalOrder cmp) where
  keys_kept : (base : ℕ) (live : List Bool) (columns : List (K × List (ℕ × X))) → keys (kept_columns base live columns) ≡ keys columns
  keys_kept base live [] = refl
  keys_kept base live (column ∷ columns) = ap (λ (rest : List K). column.0 ∷ rest) (keys_kept base live columns)

  pub in_few : (base : ℕ) (live : List Bool) (key : K) (columns : List (K × List (ℕ × X))) → IsStrictlySortedBy cmp (keys columns) → AllByRecursion (λ (column : K × List (ℕ × X)). Rise 0 column.1) columns
      → length (in_groups cmp key (kept_columns base live columns)) ≤ count_by is_marked live
  in_few base live key [] up rise = omega arith
  in_few base live key (column ∷ columns) up rise =
      split (eq_by_cmp cmp key column.0)
      (λ is.
      let behind : AllByRecursion (λ k. cmp column.0 k ≡ Less) (keys (kept_columns base live columns)) = subst (AllByRecursion (λ k. cmp column.0 k ≡ Less)) (sym (keys_kept base live columns)) (sorted_head cmp column.0 (keys columns) up) in
      rw is (omega (arith, length-append (kept base live column.1) (in_groups cmp key (kept_columns base live columns)), ap length (none_behind cmp o key column.0 (kept_columns base live columns) is behind), kept_few base live 0 column.1 rise.0)))
      (λ isnt. rw isnt (in_few base live key columns (sorted_tail cmp column.0 (keys columns) up) rise.1))

  -- columns by strictly ascending key, each by ascending document
  abbrev pub AreUp : List (K × List (ℕ × X)) → Type 0
  AreUp columns = IsStrictlySortedBy cmp (keys columns) × AllByRecursion (λ (column : K × List (ℕ × X)). Rise 0 column.1) columns

  pub all_few : (get : PartState → List (K × List (ℕ × X))) (key : K) (parts : List PartState) → AllByRecursion (λ (part : PartState). AreUp (get part)) parts
      → length (in_groups cmp key (flat_map (λ (part : PartState). kept_columns part.base part.entry.live.docs (get part)) parts)) ≤ live_in parts
  all_few get key [] up = omega arith
  all_few get key (part ∷ parts) up =
      let first : List (K × List (ℕ × X)) = kept_columns part.base part.entry.live.docs (get part) in
      let rest : List (K × List (ℕ × X)) = flat_map (λ (part : PartState). kept_columns part.base part.entry.live.docs (get part)) parts in
      omega (arith, ap length (groups_append cmp o key first rest), length-append (in_groups cmp key first) (in_groups cmp key rest), in_few part.base part.entry.live.docs key (get part) up.0.0 up.0.1, all_few get key parts up.1, sum_by-cons (λ (part : PartState). live_count part.entry) part parts)
