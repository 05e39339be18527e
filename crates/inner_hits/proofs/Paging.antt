-- A page of hits is a page of the rows that they are.
use Rattle.std.proofs.Common.{◌≡◌, ℕ, zero, suc, ◌+◌, ◌<◌, ◌≤◌, ℤ, pos, List as Seq, [], ◌∷◌, length, map, filter, get_or, take, drop, Bool, true, false, None, refl, sym, ap, subst, ◌∙◌, arith}
use Rattle.std.specs.List.{All, AllByRecursion, Contains, range_with_len}
use Rattle.std.proofs.lemmas.List.Elements.{All-from_recursion, Contains-get_or}
use Rattle.std.proofs.lemmas.List.{drop-map, take-map}
use Rattle.std.proofs.lemmas.Simd.{map-map}
use Rattle.flattener.specs.StandsFor.{Marked}
use Rattle.hit_order.specs.Table.{KeyTable, directions_of, keys_of_row, number_of_row, place_at, row_at as table_row, table_of}
use Rattle.hit_order.specs.declared.column.Column.{Column}
use Rattle.hit_order.specs.declared.column.RowPlace.{RowPlace}
use Rattle.mapping.specs.Mapping.{Mapping}
use Rattle.query_ast.specs.Compare.{in_order, placed}
use Rattle.query_ast.specs.Page.{comes_after, comes_before, direction_of, page_of}
use Rattle.query_ast.specs.Rows.{Row, keys_of, number_of, paged}
use Rattle.query_ast.specs.SortKey.{sort_key}
use Rattle.query_ast.specs.declared.sort.Direction.{Direction}
use Rattle.query_ast.specs.declared.sort.Key.{Key}
use Rattle.query_ast.specs.declared.sort.KeyRow.{KeyRow}
use Rattle.query_ast.specs.declared.sort.Sort.{Sort}
use Rattle.tree_objects.specs.Object.{tree_of}
use Rattle.tree_objects.specs.Tree.{Tree}
use Rattle.view_objects.specs.Hits.{live_trees, object_at}
use Rattle.view_objects.specs.declared.hit.Hit.{Hit}
use Rattle.inner_hits.specs.Hits.{row_at}
use Rattle.nested_sort.specs.Listed.{AreKeyed, no_hit}

pub by_test : {G : Type 0} (t : Bool) → (t ≡ true → G) → (t ≡ false → G) → G
by_test true held failed = held refl
by_test false held failed = failed refl

-- ---- a page goes along with a map of its rows

module _ {S T : Type 0} (f : S → T) where
  placed_map : (lt : T → T → Bool) (x : S) (xs : Seq S) → placed lt (f x) (map f xs) ≡ map f (placed (λ a b. lt (f a) (f b)) x xs)
  placed_map lt x [] = refl
  placed_map lt x (y ∷ ys) =
      by_test (lt (f y) (f x))
      (λ yes. rw yes (ap (λ zs. f y ∷ zs) (placed_map lt x ys)))
      (λ no. rw no refl)

  in_order_map : (lt : T → T → Bool) (xs : Seq S) → in_order lt (map f xs) ≡ map f (in_order (λ a b. lt (f a) (f b)) xs)
  in_order_map lt [] = refl
  in_order_map lt (x ∷ xs) = ap (placed lt (f x)) (in_order_map lt xs) ∙ placed_map lt x (in_order (λ a b. lt (f a) (f b)) xs)

  filter_map_after : (p : T → Bool) (xs : Seq S) → filter p (map f xs) ≡ map f (filter (λ x. p (f x)) xs)
  filter_map_after p [] = refl
  filter_map_after p (x ∷ xs) = by_test (p (f x)) (λ yes. rw yes (ap (λ zs. f x ∷ zs) (filter_map_after p xs))) (λ no. rw no (filter_map_after p xs))

  module _ (keys : T → Seq Key) (number : T → ℤ) (ds : Seq Direction) where
    pub page_map : (from size : ℕ) (xs : Seq S) → page_of keys number ds None from size (map f xs) ≡ map f (page_of (λ x. keys (f x)) (λ x. number (f x)) ds None from size xs)
    unfolding page_of
    page_map from size xs =
        ap (λ (l : Seq T). take size (drop from (filter (comes_after keys number ds None) l))) (in_order_map (comes_before keys number ds) xs)
        ∙ ap (λ (l : Seq T). take size (drop from l)) (filter_map_after (comes_after keys number ds None) (in_order (comes_before (λ x. keys (f x)) (λ x. number (f x)) ds) xs))
        ∙ ap (take size) (drop-map f from (filter (comes_after (λ x. keys (f x)) (λ x. number (f x)) ds None) (in_order (comes_before (λ x. keys (f x)) (λ x. number (f x)) ds) xs)))
        ∙ take-map f size (drop from (filter (comes_after (λ x. keys (f x)) (λ x. number (f x)) ds None) (in_order (comes_before (λ x. keys (f x)) (λ x. number (f x)) ds) xs)))

-- ---- maps of ranges

range_same : {B : Type 0} (f g : ℕ → B) (from n : ℕ) → ((k : ℕ) → k < n → f (from + k) ≡ g (from + k)) → map f (range_with_len from n) ≡ map g (range_with_len from n)
range_same f g from zero same = refl
range_same f g from (suc n) same =
    let here : from + 0 ≡ from = omega arith in
    let first : f from ≡ g from = rw here at (same 0 (omega arith)) in
    ap (λ b. b ∷ map f (range_with_len (from + 1) n)) first
    ∙ ap (λ l. g from ∷ l) (range_same f g (from + 1) n (λ k low. let e : from + suc k ≡ from + 1 + k = omega arith in rw e at (same (suc k) (omega (arith, low)))))

range_reads : {A : Type 0} (g : ℕ → A) (xs : Seq A) (from : ℕ) (d : A) → ((j : ℕ) → j < length xs → g (from + j) ≡ get_or xs j d) → map g (range_with_len from (length xs)) ≡ xs
range_reads g [] from d reads = refl
range_reads g (x ∷ xs) from d reads =
    let here : from + 0 ≡ from = omega arith in
    let first : g from ≡ x = rw here at (reads 0 (omega arith)) in
    ap (λ b. b ∷ map g (range_with_len (from + 1) (length xs))) first
    ∙ ap (λ l. x ∷ l) (range_reads g xs (from + 1) d (λ j low. let e : from + suc j ≡ from + 1 + j = omega arith in rw e at (reads (suc j) (omega (arith, low)))))

-- ---- rows of hits by their indexes

module _ (m : Mapping) (trees : Seq (Seq (Marked Tree))) (sorts : Seq Sort) (hits : Seq Hit) (columns : Seq Column) (places : Seq RowPlace) where
  abbrev hit_of : ℕ → Hit
  hit_of k = get_or hits k no_hit

  abbrev own : ℕ → KeyRow
  own k = record {
    keys = map (sort_key m (live_trees trees) (hit_of k).score (object_at m trees (hit_of k).place (hit_of k).doc)) sorts;
    place = k;
    doc = (place_at places k).doc;
    number = pos (tree_of (object_at m trees (hit_of k).place (hit_of k).doc)).number;
  }

  abbrev pick : KeyRow → Hit
  pick row = get_or hits row.place no_hit

  -- what is known of the places of rows
  pub record Placed : Type 0 where
    pub long : length places ≡ length hits
    pub index : (k : ℕ) → k < length hits → (place_at places k).place ≡ k
    pub number : (k : ℕ) → k < length hits → (place_at places k).number ≡ pos (tree_of (object_at m trees (hit_of k).place (hit_of k).doc)).number

  row_is : AreKeyed m trees sorts hits columns → Placed → (k : ℕ) → k < length hits → table_row columns places k ≡ own k
  row_is keyed placed k low =
      ap (λ (keys : Seq Key). record { keys = keys; place = (place_at places k).place; doc = (place_at places k).doc; number = (place_at places k).number }) (keyed.keys k low)
      ∙ ap (λ (n : ℕ). record { keys = (own k).keys; place = n; doc = (place_at places k).doc; number = (place_at places k).number }) (placed.index k low)
      ∙ ap (λ (z : ℤ). record { keys = (own k).keys; place = k; doc = (place_at places k).doc; number = z }) (placed.number k low)

  abbrev chosen_indexes : ℕ → ℕ → Seq ℕ
  chosen_indexes from size = page_of (λ k. (own k).keys) (λ k. (own k).number) (map direction_of sorts) None from size (range_with_len 0 (length hits))

  pub page_is : (keyed : AreKeyed m trees sorts hits columns) → Placed → (from size : ℕ) (chosen : Seq Hit)
      → chosen ≡ map pick (page_of keys_of_row number_of_row (map direction_of sorts) None from size (map (table_row columns places) (range_with_len 0 (length places))))
      → map (row_at m trees sorts) chosen ≡ paged sorts None from size (map (row_at m trees sorts) hits)
  page_is keyed placed from size chosen is =
      let rows : map (table_row columns places) (range_with_len 0 (length places)) ≡ map own (range_with_len 0 (length hits)) =
      ap (λ n. map (table_row columns places) (range_with_len 0 n)) placed.long
      ∙ range_same (table_row columns places) own 0 (length hits) (λ k low. let e : 0 + k ≡ k = omega arith in rw e (row_is keyed placed k low)) in
      let read : map hit_of (range_with_len 0 (length hits)) ≡ hits = range_reads hit_of hits 0 no_hit (λ j low. let e : 0 + j ≡ j = omega arith in rw e refl) in
      ap (map (row_at m trees sorts))
      (is
      ∙ ap (λ (l : Seq KeyRow). map pick (page_of keys_of_row number_of_row (map direction_of sorts) None from size l)) rows
      ∙ ap (map pick) (page_map own keys_of_row number_of_row (map direction_of sorts) from size (range_with_len 0 (length hits)))
      ∙ map-map pick own (chosen_indexes from size))
      ∙ map-map (row_at m trees sorts) hit_of (chosen_indexes from size)
      ∙ sym (page_map (λ k. row_at m trees sorts (hit_of k)) keys_of number_of (map direction_of sorts) from size (range_with_len 0 (length hits)))
      ∙ ap (λ (l : Seq Row). page_of keys_of number_of (map direction_of sorts) None from size l) (sym (map-map (row_at m trees sorts) hit_of (range_with_len 0 (length hits))))
      ∙ ap (λ (l : Seq Hit). paged sorts None from size (map (row_at m trees sorts) l)) read

-- ---- a page has no other rows

module _ {A : Type 0} (P : A → Type 0) where
  placed_all : (lt : A → A → Bool) (x : A) (xs : Seq A) → P x → AllByRecursion P xs → AllByRecursion P (placed lt x xs)
  placed_all lt x [] own all = (own, tt)
  placed_all lt x (y ∷ ys) own all =
      by_test (lt y x)
      (λ yes. rw yes ((all.0, placed_all lt x ys own all.1)))
      (λ no. rw no ((own, (all.0, all.1))))

  in_order_all : (lt : A → A → Bool) (xs : Seq A) → AllByRecursion P xs → AllByRecursion P (in_order lt xs)
  in_order_all lt [] all = tt
  in_order_all lt (x ∷ xs) all = placed_all lt x (in_order lt xs) all.0 (in_order_all lt xs all.1)

  filter_all : (test : A → Bool) (xs : Seq A) → AllByRecursion P xs → AllByRecursion P (filter test xs)
  filter_all test [] all = tt
  filter_all test (x ∷ xs) all = by_test (test x) (λ yes. rw yes ((all.0, filter_all test xs all.1))) (λ no. rw no (filter_all test xs all.1))

  drop_all : (k : ℕ) (xs : Seq A) → AllByRecursion P xs → AllByRecursion P (drop k xs)
  drop_all zero xs all = all
  drop_all (suc k) [] all = tt
  drop_all (suc k) (x ∷ xs) all = drop_all k xs all.1

  take_all : (k : ℕ) (xs : Seq A) → AllByRecursion P xs → AllByRecursion P (take k xs)
  take_all zero xs all = tt
  take_all (suc k) [] all = tt
  take_all (suc k) (x ∷ xs) all = (all.0, take_all k xs all.1)

  pub page_all : (keys : A → Seq Key) (number : A → ℤ) (ds : Seq Direction) (from size : ℕ) (xs : Seq A) → AllByRecursion P xs → AllByRecursion P (page_of keys number ds None from size xs)
  unfolding page_of
  page_all keys number ds from size xs all =
      take_all size (drop from (filter (comes_after keys number ds None) (in_order (comes_before keys number ds) xs)))
      (drop_all from (filter (comes_after keys number ds None) (in_order (comes_before keys number ds) xs))
      (filter_all (comes_after keys number ds None) (in_order (comes_before keys number ds) xs) (in_order_all (comes_before keys number ds) xs all)))

range_all : {B : Type 0} (P : B → Type 0) (f : ℕ → B) (from n : ℕ) → ((k : ℕ) → from ≤ k → k < from + n → P (f k)) → AllByRecursion P (map f (range_with_len from n))
range_all P f from zero each = tt
range_all P f from (suc n) each = (each from (omega arith) (omega arith), range_all P f (from + 1) n (λ k low high. each k (omega (arith, low)) (omega (arith, high))))

-- each row of a page is that of a hit
pub chosen_among : (hits : Seq Hit) (columns : Seq Column) (places : Seq RowPlace) (ds : Seq Direction) (from size : ℕ) (chosen : Seq Hit) → length places ≡ length hits → ((k : ℕ) → k < length hits → (place_at places k).place ≡ k)
    → chosen ≡ map (λ (row : KeyRow). get_or hits row.place no_hit) (page_of keys_of_row number_of_row ds None from size (map (table_row columns places) (range_with_len 0 (length places)))) → All (Contains hits) chosen
chosen_among hits columns places ds from size chosen long index is =
    All-from_recursion (Contains hits) chosen
    (subst (AllByRecursion (Contains hits)) (sym is)
    (each (page_of keys_of_row number_of_row ds None from size (map (table_row columns places) (range_with_len 0 (length places))))
    (page_all (λ (row : KeyRow). row.place < length hits) keys_of_row number_of_row ds from size (map (table_row columns places) (range_with_len 0 (length places)))
    (range_all (λ (row : KeyRow). row.place < length hits) (table_row columns places) 0 (length places)
    (λ k low high. let there : k < length hits = omega (arith, high, long) in let same : (place_at places k).place ≡ k = index k there in omega (arith, there, same))))))
  where
    each : (rows : Seq KeyRow) → AllByRecursion (λ (row : KeyRow). row.place < length hits) rows → AllByRecursion (Contains hits) (map (λ (row : KeyRow). get_or hits row.place no_hit) rows)
    each [] all = tt
    each (row ∷ rows) all = (Contains-get_or hits row.place no_hit all.0, each rows all.1)

-- ---- the page of a table

table_page : (columns : Seq Column) (places : Seq RowPlace) (from size : ℕ)
    → page_of keys_of_row number_of_row (table_of columns places).directions None from size (table_of columns places).rows
    ≡ page_of keys_of_row number_of_row (directions_of columns) None from size (map (table_row columns places) (range_with_len 0 (length places)))
unfolding table_of
table_page columns places from size = refl

pub chosen_is : (hits : Seq Hit) (columns : Seq Column) (places : Seq RowPlace) (ds : Seq Direction) (rows : KeyTable) (page : Seq KeyRow) (from size : ℕ) (chosen : Seq Hit) → rows ≡ table_of columns places → directions_of columns ≡ ds
    → page ≡ page_of keys_of_row number_of_row rows.directions None from size rows.rows → chosen ≡ map (λ (row : KeyRow). get_or hits row.place no_hit) page
    → chosen ≡ map (λ (row : KeyRow). get_or hits row.place no_hit) (page_of keys_of_row number_of_row ds None from size (map (table_row columns places) (range_with_len 0 (length places))))
chosen_is hits columns places ds rows page from size chosen table same is chose =
    chose
    ∙ ap (map (λ (row : KeyRow). get_or hits row.place no_hit))
    (is
    ∙ ap (λ (t : KeyTable). page_of keys_of_row number_of_row t.directions None from size t.rows) table
    ∙ table_page columns places from size
    ∙ ap (λ (l : Seq Direction). page_of keys_of_row number_of_row l None from size (map (table_row columns places) (range_with_len 0 (length places)))) same)
