-- Counted rows are the groups of a bucket for each value.
use Rattle.std.proofs.Common.{◌≡◌, ℕ, zero, suc, ◌+◌, ◌<◌, Bool, true, false, ◌||◌, cond, nat_lt, List, [], ◌∷◌, ◌++◌, length, map, filter, reverse, take, drop, count_by, sum_by, Some, refl, sym, ap, ◌∙◌, arith}
use Rattle.std.specs.List.{flat_map, list_any}
use Rattle.std.specs.List.Sorted.{IsPermutation}
use Rattle.std.proofs.lemmas.Bool.{lt-ltb}
use Rattle.std.proofs.lemmas.List.{map-append, reverse-append}
use Rattle.std.proofs.lemmas.List.Folds.{list_any-append}
use Rattle.std.proofs.lemmas.List.Sums.{length-filter, sum_by-cons}
use Rattle.std.proofs.lemmas.List.Sorted.{list_any-IsPermutation}
use Rattle.flattener.specs.Flat.{flat_of}
use Rattle.mapping.specs.Mapping.{Mapping, kind_at}
use Rattle.mapping_body.specs.declared.kind.Kind.{Kind}
use Rattle.query_ast.specs.Buckets.{Group, all_shown, bucket_of, comes_first, count_of, group_of, groups_of, has_value, ordered, shown_by}
use Rattle.query_ast.specs.Compare.{each_once, in_order, is_less, is_same_value, placed, value_cmp}
use Rattle.query_ast.specs.Replies.{BucketPart, ReplyPart, replies_of}
use Rattle.query_ast.specs.Uses.{IsValueOf}
use Rattle.tree_objects.specs.Object.{Object}
use Rattle.tree_objects.specs.Values.{values}
use Rattle.tree_objects.specs.declared.field_value.FieldValue.{FieldValue}
use Rattle.view_objects.specs.Values.{values_shown}
use Rattle.bucket_aggs.specs.Counts.{AreCounts, KeysAscend, count_in, row_first, rows_ordered, shows, weight, weight_in}
use Rattle.bucket_aggs.specs.declared.rows.CountRow.{CountRow}
use Rattle.query_ast.proofs.Keys.{Ascend, any_key, keys_ascend, less_apart, less_back, one_ascending, same_itself}
use Rattle.query_ast.proofs.Elements.{Each, by_test, each_as}
use Rattle.bucket_aggs.proofs.Rowed.{count_mapped, count_same, sum_mapped}
use Rattle.query_ast.proofs.Values.{value_exact, value_total}
use Rattle.bucket_aggs.proofs.Weights.{Rows}

-- ---- rows that ascend

weighs_more : (v : FieldValue) (row : CountRow) (rows : Rows) → weight v (row ∷ rows) ≡ weight_in v row + weight v rows
weighs_more v row rows = sum_by-cons (weight_in v) row rows

pub none_weighs : (v : FieldValue) (rows : Rows) → Each (λ (row : CountRow). is_same_value v row.key ≡ false) rows → weight v rows ≡ 0
none_weighs v [] h = refl
none_weighs v (row ∷ rows) h = omega (arith, weighs_more v row rows, ap (λ (b : Bool). cond b row.count 0) h.0, none_weighs v rows h.1)

-- what a key weighs is the count of its row
pub counts_own : (rows : Rows) → KeysAscend rows → Each (λ (row : CountRow). weight row.key rows ≡ row.count) rows
counts_own [] a = tt
counts_own (row ∷ rows) a =
    let none : weight row.key rows ≡ 0 =
    none_weighs row.key rows (each_as (λ (later : CountRow). is_less row.key later.key ≡ true) (λ (later : CountRow). is_same_value row.key later.key ≡ false) (λ later h. less_apart value_cmp value_total value_exact row.key later.key h) rows a.0) in
    let itself : is_same_value row.key row.key ≡ true = same_itself value_cmp value_total value_exact row.key in
    (omega (arith, weighs_more row.key row rows, ap (λ (b : Bool). cond b row.count 0) itself, none), later rows (counts_own rows a.1) a.0)
  where
    later : (rest : Rows) → Each (λ (r : CountRow). weight r.key rows ≡ r.count) rest → Each (λ (r : CountRow). is_less row.key r.key ≡ true) rest → Each (λ (r : CountRow). weight r.key (row ∷ rows) ≡ r.count) rest
    later [] h g = tt
    later (r ∷ rest) h g =
        let apart : is_same_value r.key row.key ≡ false = less_back value_cmp value_total value_exact row.key r.key g.0 in
        (omega (arith, weighs_more r.key row rows, ap (λ (b : Bool). cond b row.count 0) apart, h.0), later rest h.1 g.1)

abbrev pub keys_of : Rows → List FieldValue
keys_of [] = []
keys_of (row ∷ rows) = row.key ∷ keys_of rows

abbrev pub keyed : (FieldValue → ℕ) → FieldValue → CountRow
keyed count k = record { key = k; count = count k }

rows_by : (count : FieldValue → ℕ) (rows : Rows) → Each (λ (row : CountRow). count row.key ≡ row.count) rows → rows ≡ map (keyed count) (keys_of rows)
rows_by count [] h = refl
rows_by count (row ∷ rows) h =
    ap (λ (n : ℕ). record { key = row.key; count = n } ∷ rows) (sym h.0) ∙ ap (λ (l : Rows). keyed count row.key ∷ l) (rows_by count rows h.1)

each_key : (P : FieldValue → Type 0) (rows : Rows) → Each (λ (row : CountRow). P row.key) rows → Each P (keys_of rows)
each_key P [] h = tt
each_key P (row ∷ rows) h = (h.0, each_key P rows h.1)

keys_of_ascend : (rows : Rows) → KeysAscend rows → Ascend value_cmp value_total value_exact (keys_of rows)
keys_of_ascend [] a = tt
keys_of_ascend (row ∷ rows) a = (each_key (λ (k : FieldValue). is_less row.key k ≡ true) rows a.0, keys_of_ascend rows a.1)

-- a value is a key where it weighs something
any_weighs : (v : FieldValue) (rows : Rows) → Each (λ (row : CountRow). 0 < row.count) rows → list_any (is_same_value v) (keys_of rows) ≡ nat_lt 0 (weight v rows)
any_weighs v [] h = refl
any_weighs v (row ∷ rows) h =
    by_test (is_same_value v row.key)
    (λ held.
    let some : nat_lt 0 (weight v (row ∷ rows)) ≡ true = lt-ltb 0 (weight v (row ∷ rows)) (omega (arith, weighs_more v row rows, ap (λ (b : Bool). cond b row.count 0) held, h.0)) in
    ap (λ (b : Bool). b || list_any (is_same_value v) (keys_of rows)) held ∙ sym some)
    (λ failed.
    let rest : weight v rows ≡ weight v (row ∷ rows) = omega (arith, weighs_more v row rows, ap (λ (b : Bool). cond b row.count 0) failed) in
    ap (λ (b : Bool). b || list_any (is_same_value v) (keys_of rows)) failed ∙ any_weighs v rows h.1 ∙ ap (nat_lt 0) rest)

-- ---- objects

count_filter : {A : Type 0} (one other : A → Bool) → ((x : A) → one x ≡ other x) → (xs : List A) → count_by one xs ≡ length (filter other xs)
count_filter one other same xs = count_same one other same xs ∙ sym (length-filter other xs)

some_long : {A : Type 0} (test : A → Bool) (xs : List A) → nat_lt 0 (length (filter test xs)) ≡ list_any test xs
some_long test [] = refl
some_long test (x ∷ xs) =
    by_test (test x)
    (λ held. let some : nat_lt 0 (suc (length (filter test xs))) ≡ true = lt-ltb 0 (suc (length (filter test xs))) (omega arith) in rw held some)
    (λ failed. rw failed (some_long test xs))

any_flat : {A B : Type 0} (test : B → Bool) (f : A → List B) (xs : List A) → list_any test (flat_map f xs) ≡ list_any (λ x. list_any test (f x)) xs
any_flat test f [] = refl
any_flat test f (x ∷ xs) = list_any-append test (f x) (flat_map f xs) ∙ ap (λ (b : Bool). list_any test (f x) || b) (any_flat test f xs)

module _ (m : Mapping) (f : ℕ) (shown : (o : Object) → IsPermutation (values m f o) (values_shown (kind_at m f) f (flat_of m o))) (objects : List Object) where
  abbrev kind : Kind
  kind = kind_at m f

  shows_same : (v : FieldValue) (o : Object) → shows kind f v (flat_of m o) ≡ has_value m (Some f) v o
  shows_same v o = sym (list_any-IsPermutation (is_same_value v) (values m f o) (values_shown kind f (flat_of m o)) (shown o))

  abbrev count_for : FieldValue → ℕ
  count_for v = length (filter (has_value m (Some f) v) objects)

  shown_count : (v : FieldValue) → count_by (shows kind f v) (map (flat_of m) objects) ≡ count_for v
  shown_count v = count_mapped (shows kind f v) (flat_of m) objects ∙ count_filter (λ o. shows kind f v (flat_of m o)) (has_value m (Some f) v) (shows_same v) objects

  abbrev pub keys : List FieldValue
  keys = in_order is_less (each_once is_same_value (all_shown m (Some f) objects))

  pub rows_are : (rows : Rows) → AreCounts kind f (map (flat_of m) objects) rows → rows ≡ map (keyed count_for) keys
  rows_are rows are =
      let weighs : (v : FieldValue) → weight v rows ≡ count_for v = λ v. are.counts v ∙ shown_count v in
      let same : keys_of rows ≡ keys =
      one_ascending value_cmp value_total value_exact (keys_of rows) keys (keys_of_ascend rows are.ascend) (keys_ascend value_cmp value_total value_exact (all_shown m (Some f) objects))
      (λ v.
      any_weighs v rows (each_as (λ (row : CountRow). IsValueOf kind row.key × (0 < row.count)) (λ (row : CountRow). 0 < row.count) (λ row h. h.1) rows are.keys)
      ∙ ap (nat_lt 0) (weighs v)
      ∙ some_long (has_value m (Some f) v) objects
      ∙ sym (any_flat (is_same_value v) (shown_by m (Some f)) objects)
      ∙ sym (any_key value_cmp value_total value_exact v (all_shown m (Some f) objects))) in
      rows_by count_for rows (each_as (λ (row : CountRow). weight row.key rows ≡ row.count) (λ (row : CountRow). count_for row.key ≡ row.count) (λ row h. sym (weighs row.key) ∙ h) rows (counts_own rows are.ascend))
      ∙ ap (map (keyed count_for)) same

-- ---- the order of groups and of rows is one order of keys

module _ {K : Type 0} where
  abbrev key_first : Bool → (K → ℕ) → K → K → Bool
  key_first true count a b = nat_lt (count b) (count a)
  key_first false count a b = nat_lt (count a) (count b)

  abbrev keys_ordered : Bool → Bool → (K → ℕ) → List K → List K
  keys_ordered true true count ks = reverse ks
  keys_ordered true false count ks = ks
  keys_ordered false descending count ks = in_order (key_first descending count) ks

module _ {K B : Type 0} (f : K → B) (before : B → B → Bool) where
  placed_map : (x : K) (ys : List K) → placed before (f x) (map f ys) ≡ map f (placed (λ a b. before (f a) (f b)) x ys)
  placed_map x [] = refl
  placed_map x (y ∷ ys) =
      by_test (before (f y) (f x)) (λ held. rw held (ap (λ (l : List B). f y ∷ l) (placed_map x ys))) (λ failed. rw failed refl)

  order_map : (xs : List K) → in_order before (map f xs) ≡ map f (in_order (λ a b. before (f a) (f b)) xs)
  order_map [] = refl
  order_map (x ∷ xs) = ap (placed before (f x)) (order_map xs) ∙ placed_map x (in_order (λ a b. before (f a) (f b)) xs)

map_reverse : {A B : Type 0} (f : A → B) (xs : List A) → map f (reverse xs) ≡ reverse (map f xs)
map_reverse f [] = refl
map_reverse {A} {B} f (x ∷ xs) =
    ap (map f) (reverse-append (x ∷ []) xs)
    ∙ map-append f (reverse xs) (x ∷ [])
    ∙ ap (λ (l : List B). l ++ f x ∷ []) (map_reverse f xs)
    ∙ sym (reverse-append (f x ∷ []) (map f xs))

groups_ordered : {K : Type 0} (f : K → Group) (by_key descending : Bool) (ks : List K) → ordered by_key descending (map f ks) ≡ map f (keys_ordered by_key descending (λ k. count_of (f k)) ks)
groups_ordered f true true ks = sym (map_reverse f ks)
groups_ordered f true false ks = refl
groups_ordered f false true ks = order_map f (comes_first true) ks
groups_ordered f false false ks = order_map f (comes_first false) ks

rows_in_order : {K : Type 0} (f : K → CountRow) (by_key descending : Bool) (ks : List K) → rows_ordered by_key descending (map f ks) ≡ map f (keys_ordered by_key descending (λ k. (f k).count) ks)
rows_in_order f true true ks = sym (map_reverse f ks)
rows_in_order f true false ks = refl
rows_in_order f false true ks = order_map f (row_first true) ks
rows_in_order f false false ks = order_map f (row_first false) ks

take_map : {A B : Type 0} (f : A → B) (n : ℕ) (xs : List A) → take n (map f xs) ≡ map f (take n xs)
take_map f zero xs = refl
take_map f (suc n) [] = refl
take_map {A} {B} f (suc n) (x ∷ xs) = ap (λ (l : List B). f x ∷ l) (take_map f n xs)

drop_map : {A B : Type 0} (f : A → B) (n : ℕ) (xs : List A) → drop n (map f xs) ≡ map f (drop n xs)
drop_map f zero xs = refl
drop_map f (suc n) [] = refl
drop_map f (suc n) (x ∷ xs) = drop_map f n xs

map_twice : {A B C : Type 0} (g : B → C) (f : A → B) (xs : List A) → map g (map f xs) ≡ map (λ x. g (f x)) xs
map_twice g f [] = refl
map_twice {A} {B} {C} g f (x ∷ xs) = ap (λ (l : List C). g (f x) ∷ l) (map_twice g f xs)

module _ (m : Mapping) (f : ℕ) (shown : (o : Object) → IsPermutation (values m f o) (values_shown (kind_at m f) f (flat_of m o))) (objects : List Object) (within : List Object → List ReplyPart) (size : ℕ) (by_key descending : Bool)
    (rows : Rows) (are : AreCounts (kind_at m f) f (map (flat_of m) objects) rows) where
  abbrev group : FieldValue → Group
  group k = group_of m (Some f) objects k

  abbrev order : List FieldValue
  order = keys_ordered by_key descending (λ k. count_of (group k)) (keys m f shown objects)

  abbrev row_for : FieldValue → CountRow
  row_for = keyed (λ v. length (filter (has_value m (Some f) v) objects))

  rows_order : rows_ordered by_key descending rows ≡ map row_for order
  rows_order = ap (rows_ordered by_key descending) (rows_are m f shown objects rows are) ∙ rows_in_order row_for by_key descending (keys m f shown objects)

  groups_order : ordered by_key descending (groups_of m (Some f) objects) ≡ map group order
  groups_order = groups_ordered group by_key descending (keys m f shown objects)

  -- the bucket of a row, over the objects that show its key
  abbrev bucket_for : CountRow → BucketPart
  bucket_for row = record { key = row.key; count = row.count; inner = replies_of (within (filter (has_value m (Some f) row.key) objects)) }

  pub first_buckets : map bucket_for (take size (rows_ordered by_key descending rows)) ≡ map (bucket_of within) (take size (ordered by_key descending (groups_of m (Some f) objects)))
  first_buckets =
      ap (λ (l : Rows). map bucket_for (take size l)) rows_order
      ∙ ap (map bucket_for) (take_map row_for size order)
      ∙ map_twice bucket_for row_for (take size order)
      ∙ sym (map_twice (bucket_of within) group (take size order))
      ∙ ap (map (bucket_of within)) (sym (take_map group size order))
      ∙ ap (λ (l : List Group). map (bucket_of within) (take size l)) (sym groups_order)

  pub other_counts : sum_by count_in (drop size (rows_ordered by_key descending rows)) ≡ sum_by count_of (drop size (ordered by_key descending (groups_of m (Some f) objects)))
  other_counts =
      ap (λ (l : Rows). sum_by count_in (drop size l)) rows_order
      ∙ ap (sum_by count_in) (drop_map row_for size order)
      ∙ sum_mapped count_in row_for (drop size order)
      ∙ sym (sum_mapped count_of group (drop size order))
      ∙ ap (sum_by count_of) (sym (drop_map group size order))
      ∙ ap (λ (l : List Group). sum_by count_of (drop size l)) (sym groups_order)
