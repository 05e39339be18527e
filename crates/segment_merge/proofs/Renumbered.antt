-- Rows of documents of which some are live: with the new numbers they are the rows of the live documents.
use Rattle.std.proofs.Common.{◌≡◌, ℕ, suc, ◌+◌, Bool, true, false, List, [], ◌∷◌, ◌++◌, length, map, take, slice_index_or, refl, sym, ap, ◌∙◌, append_assoc, arith}
use Rattle.std.specs.List.{count_by}
use Rattle.std.specs.Ordering.{eq_by_cmp}
use Rattle.std.specs.declared.cmp.Ordering.{Ordering}
use Rattle.block_bits.specs.Flags.{is_marked}
use Rattle.segment.specs.Flat.{FlatDocument}
use Rattle.segment.specs.Marks.{count-mark}
use Rattle.segment_builder.specs.Groups.{in_groups, of_key}
use Rattle.segment_builder.specs.Parts.{entries_from, tagged}
use Rattle.segment_merge.specs.Merged.{kept, kept_columns, kept_places, renumbered, where_marked}
use Rattle.segment_merge.proofs.Cases.{split}

-- ---- lists where flags are set

pub where_map : {X Y : Type 0} (f : X → Y) (flags : List Bool) (items : List X) → where_marked flags (map f items) ≡ map f (where_marked flags items)
where_map f [] items = refl
where_map f (flag ∷ flags) [] = refl
where_map f (true ∷ flags) (item ∷ items) = ap (λ rest. f item ∷ rest) (where_map f flags items)
where_map f (false ∷ flags) (item ∷ items) = where_map f flags items

pub where_count : {X : Type 0} (flags : List Bool) (items : List X) → length flags ≡ length items → length (where_marked flags items) ≡ count_by is_marked flags
where_count [] items long = refl
where_count (flag ∷ flags) [] long = absurd (omega (arith, long))
where_count (true ∷ flags) (item ∷ items) long = omega (arith, count-mark true flags, where_count flags items (omega (arith, long)))
where_count (false ∷ flags) (item ∷ items) long = omega (arith, count-mark false flags, where_count flags items (omega (arith, long)))

-- ---- at a key

module _ {K P : Type 0} (cmp : K → K → Ordering) where
  pub of_append : (key : K) (xs ys : List (K × P)) → of_key cmp key (xs ++ ys) ≡ of_key cmp key xs ++ of_key cmp key ys
  of_append key [] ys = refl
  of_append key (x ∷ xs) ys =
      split (eq_by_cmp cmp key x.0)
      (λ is. rw (is, of_append key xs ys) refl)
      (λ isnt. rw (isnt, of_append key xs ys) refl)

  pub in_append : (key : K) (xs ys : List (K × List P)) → in_groups cmp key (xs ++ ys) ≡ in_groups cmp key xs ++ in_groups cmp key ys
  in_append key [] ys = refl
  in_append key (x ∷ xs) ys =
      split (eq_by_cmp cmp key x.0)
      (λ is. rw (is, in_append key xs ys) (sym (append_assoc x.1 (in_groups cmp key xs) (in_groups cmp key ys))))
      (λ isnt. rw (isnt, in_append key xs ys) refl)

pub entries_append : {K P : Type 0} (get : FlatDocument → List (K × P)) (n : ℕ) (xs ys : List FlatDocument) → entries_from get n (xs ++ ys) ≡ entries_from get n xs ++ entries_from get (n + length xs) ys
entries_append get n [] ys = let e : n + 0 ≡ n = omega arith in rw e refl
entries_append get n (x ∷ xs) ys =
    let e : n + 1 + length xs ≡ n + length (x ∷ xs) = omega arith in
    ap (λ rest. tagged n (get x) ++ rest) (entries_append get (n + 1) xs ys)
    ∙ ap (λ k. tagged n (get x) ++ (entries_from get (n + 1) xs ++ entries_from get k ys)) e
    ∙ sym (append_assoc (tagged n (get x)) (entries_from get (n + 1) xs) (entries_from get (n + length (x ∷ xs)) ys))

-- ---- rows that are kept

module _ {X : Type 0} (base : ℕ) (live : List Bool) where
  pub kept_append : (xs ys : List (ℕ × X)) → kept base live (xs ++ ys) ≡ kept base live xs ++ kept base live ys
  kept_append [] ys = refl
  kept_append (x ∷ xs) ys =
      split (slice_index_or live x.0 false)
      (λ is. rw (is, kept_append xs ys) refl)
      (λ isnt. rw (isnt, kept_append xs ys) refl)

  pub kept_in : {K : Type 0} (cmp : K → K → Ordering) (key : K) (groups : List (K × List (ℕ × X))) → in_groups cmp key (kept_columns base live groups) ≡ kept base live (in_groups cmp key groups)
  kept_in cmp key [] = refl
  kept_in cmp key (group ∷ groups) =
      split (eq_by_cmp cmp key group.0)
      (λ is. rw (is, kept_in cmp key groups) (sym (kept_append group.1 (in_groups cmp key groups))))
      (λ isnt. rw (isnt, kept_in cmp key groups) refl)

-- rows whose values are seen as others
pub kept_as : {X Y : Type 0} (g : X → Y) (base : ℕ) (live : List Bool) (rows : List (ℕ × X)) → kept base live (map (λ (row : ℕ × X). (row.0, g row.1)) rows) ≡ map (λ (row : ℕ × X). (row.0, g row.1)) (kept base live rows)
kept_as g base live [] = refl
kept_as g base live (row ∷ rows) =
    split (slice_index_or live row.0 false)
    (λ is. rw (is, kept_as g base live rows) refl)
    (λ isnt. rw (isnt, kept_as g base live rows) refl)

-- documents alone
pub places_kept : {X : Type 0} (base : ℕ) (live : List Bool) (rows : List (ℕ × X)) → kept_places base live (map (λ (row : ℕ × X). row.0) rows) ≡ map (λ (row : ℕ × X). row.0) (kept base live rows)
places_kept base live [] = refl
places_kept base live (row ∷ rows) =
    split (slice_index_or live row.0 false)
    (λ is. rw (is, places_kept base live rows) refl)
    (λ isnt. rw (isnt, places_kept base live rows) refl)

places_append : (base : ℕ) (live : List Bool) (xs ys : List ℕ) → kept_places base live (xs ++ ys) ≡ kept_places base live xs ++ kept_places base live ys
places_append base live [] ys = refl
places_append base live (x ∷ xs) ys =
    split (slice_index_or live x false)
    (λ is. rw (is, places_append base live xs ys) refl)
    (λ isnt. rw (isnt, places_append base live xs ys) refl)

pub places_in : {A K : Type 0} (cmp : K → K → Ordering) (docs : A → List ℕ) (base : ℕ) (live : List Bool) (key : K) (columns : List (K × A))
    → in_groups cmp key (map (λ (column : K × A). (column.0, kept_places base live (docs column.1))) columns) ≡ kept_places base live (in_groups cmp key (map (λ (column : K × A). (column.0, docs column.1)) columns))
places_in cmp docs base live key [] = refl
places_in {A} {K} cmp docs base live key (column ∷ columns) =
    split (eq_by_cmp cmp key column.0)
    (λ is. rw (is, places_in cmp docs base live key columns) (sym (places_append base live (docs column.1) (in_groups cmp key (map (λ (c : K × A). (c.0, docs c.1)) columns)))))
    (λ isnt. rw (isnt, places_in cmp docs base live key columns) refl)

-- ---- what documents carry at a key

module _ {K X : Type 0} (cmp : K → K → Ordering) (get : FlatDocument → List (K × X)) (key : K) (base : ℕ) (live : List Bool) where
  of_live : (n : ℕ) (entries : List (K × X)) → slice_index_or live n false ≡ true → kept base live (of_key cmp key (tagged n entries)) ≡ of_key cmp key (tagged (renumbered base live n) entries)
  of_live n [] is = refl
  of_live n (entry ∷ entries) is =
      split (eq_by_cmp cmp key entry.0)
      (λ here. rw (here, is) (ap (λ (rest : List (ℕ × X)). (renumbered base live n, entry.1) ∷ rest) (of_live n entries is)))
      (λ other. rw other (of_live n entries is))

  of_dead : (n : ℕ) (entries : List (K × X)) → slice_index_or live n false ≡ false → kept base live (of_key cmp key (tagged n entries)) ≡ []
  of_dead n [] isnt = refl
  of_dead n (entry ∷ entries) isnt =
      split (eq_by_cmp cmp key entry.0)
      (λ here. rw (here, isnt) (of_dead n entries isnt))
      (λ other. rw other (of_dead n entries isnt))

  of_none : (flats : List FlatDocument) (n : ℕ) → ((k : ℕ) → slice_index_or live (n + k) false ≡ false) → kept base live (of_key cmp key (entries_from get n flats)) ≡ []
  of_none [] n dead = refl
  of_none (flat ∷ flats) n dead =
      let here : n + 0 ≡ n = omega arith in
      let first : slice_index_or live n false ≡ false = (rw here at (dead 0)) in
      ap (kept base live) (of_append cmp key (tagged n (get flat)) (entries_from get (n + 1) flats))
      ∙ kept_append base live (of_key cmp key (tagged n (get flat))) (of_key cmp key (entries_from get (n + 1) flats))
      ∙ ap (λ rest. rest ++ kept base live (of_key cmp key (entries_from get (n + 1) flats))) (of_dead n (get flat) first)
      ∙ of_none flats (n + 1) (λ k. (let e : n + 1 + k ≡ n + suc k = omega arith in ap (λ j. slice_index_or live j false) e ∙ dead (suc k)))

  -- from a document on: its number, its flag and those behind it, and its new number
  of_rest : (flats : List FlatDocument) (flags : List Bool) (n r : ℕ) → ((k : ℕ) → slice_index_or live (n + k) false ≡ slice_index_or flags k false)
      → ((k : ℕ) → renumbered base live (n + k) ≡ r + count_by is_marked (take k flags))
      → kept base live (of_key cmp key (entries_from get n flats)) ≡ of_key cmp key (entries_from get r (where_marked flags flats))
  of_rest [] [] n r flag number = refl
  of_rest [] (mark ∷ flags) n r flag number = refl
  of_rest (flat ∷ flats) [] n r flag number = of_none (flat ∷ flats) n flag
  of_rest (flat ∷ flats) (true ∷ flags) n r flag number =
      let here : n + 0 ≡ n = omega arith in
      let is : slice_index_or live n false ≡ true = (rw here at (flag 0)) in
      let new : renumbered base live n ≡ r + 0 = (rw here at (number 0)) in
      let first : kept base live (of_key cmp key (tagged n (get flat))) ≡ of_key cmp key (tagged r (get flat)) =
      of_live n (get flat) is ∙ ap (λ j. of_key cmp key (tagged j (get flat))) (omega (arith, new)) in
      ap (kept base live) (of_append cmp key (tagged n (get flat)) (entries_from get (n + 1) flats))
      ∙ kept_append base live (of_key cmp key (tagged n (get flat))) (of_key cmp key (entries_from get (n + 1) flats))
      ∙ ap (λ rest. rest ++ kept base live (of_key cmp key (entries_from get (n + 1) flats))) first
      ∙ ap (λ rest. of_key cmp key (tagged r (get flat)) ++ rest)
      (of_rest flats flags (n + 1) (r + 1)
      (λ k. (let e : n + 1 + k ≡ n + suc k = omega arith in ap (λ j. slice_index_or live j false) e ∙ flag (suc k)))
      (λ k. (let e : n + 1 + k ≡ n + suc k = omega arith in ap (renumbered base live) e ∙ omega (arith, number (suc k), count-mark true (take k flags)))))
      ∙ sym (of_append cmp key (tagged r (get flat)) (entries_from get (r + 1) (where_marked flags flats)))
  of_rest (flat ∷ flats) (false ∷ flags) n r flag number =
      let here : n + 0 ≡ n = omega arith in
      let dead : slice_index_or live n false ≡ false = (rw here at (flag 0)) in
      ap (kept base live) (of_append cmp key (tagged n (get flat)) (entries_from get (n + 1) flats))
      ∙ kept_append base live (of_key cmp key (tagged n (get flat))) (of_key cmp key (entries_from get (n + 1) flats))
      ∙ ap (λ rest. rest ++ kept base live (of_key cmp key (entries_from get (n + 1) flats))) (of_dead n (get flat) dead)
      ∙ of_rest flats flags (n + 1) r
      (λ k. (let e : n + 1 + k ≡ n + suc k = omega arith in ap (λ j. slice_index_or live j false) e ∙ flag (suc k)))
      (λ k. (let e : n + 1 + k ≡ n + suc k = omega arith in ap (renumbered base live) e ∙ omega (arith, number (suc k), count-mark false (take k flags))))

  pub of_kept : (flats : List FlatDocument) → kept base live (of_key cmp key (entries_from get 0 flats)) ≡ of_key cmp key (entries_from get base (where_marked live flats))
  of_kept flats =
      of_rest flats live 0 base
      (λ k. (let e : 0 + k ≡ k = omega arith in ap (λ j. slice_index_or live j false) e))
      (λ k. (let e : 0 + k ≡ k = omega arith in ap (renumbered base live) e))
