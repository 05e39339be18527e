-- Documents that have a score, one after the other, and the objects that they stand for.
use Rattle.std.proofs.Common.{◌≡◌, ℕ, zero, suc, ◌+◌, ◌==◌, Bool, true, false, List, [], ◌∷◌, ◌++◌, length, map, filter, drop, count_by, sum_by, Option, Some, None, is_some, refl, sym, ap, ◌∙◌, arith, append_assoc}
use Rattle.std.specs.List.{flat_map, position_from, range_with_len}
use Rattle.std.proofs.lemmas.List.{length-append, length-map, map-append}
use Rattle.std.proofs.lemmas.List.Concat.{flat_map-append}
use Rattle.std.proofs.lemmas.List.Elements.{filter-append}
use Rattle.std.proofs.lemmas.List.Sums.{sum_by-cons}
use Rattle.std.proofs.lemmas.Option.{same_Some}
use Rattle.block_bits.specs.Flags.{is_marked}
use Rattle.block_bits.specs.Places.{next_place}
use Rattle.flattener.specs.Flat.{flat_of as flat_of_object}
use Rattle.flattener.specs.StandsFor.{Marked, ViewStandsFor, by_document, flat_at}
use Rattle.mapping.specs.Mapping.{Mapping}
use Rattle.query_eval.specs.Found.{AreLong, IsSeen, live_in, live_trees}
use Rattle.segment.specs.Flat.{FlatDocument, flat_of, flats_of}
use Rattle.segment.specs.Live.{EntryState}
use Rattle.segment_parts.specs.Text.{marked_places}
use Rattle.segment_parts.specs.declared.columns.Columns.{Columns}
use Rattle.tree_joins.specs.Seen.{at_scope, if_live, seen}
use Rattle.tree_objects.specs.Enclosing.{stands_at}
use Rattle.tree_objects.specs.Object.{Object, block_objects, scope}
use Rattle.tree_objects.specs.Tree.{Tree}
use Rattle.view_objects.specs.Hits.{live_objects}
use Rattle.bucket_aggs.specs.Counts.{documents_in, flats_in, flats_of_view, marked_count}
use Rattle.bucket_aggs.specs.Given.{is_given, objects_given}
use Rattle.bucket_aggs.proofs.Rowed.{count_cons}

abbrev pub Scores : Type 0
Scores = List (Option ℕ)

abbrev pub Trees : Type 0
Trees = List (Marked Tree)

-- ---- a walk over marked places

pub none_left : (start : ℕ) (flags : List Bool) → position_from is_marked start flags ≡ None → marked_places start flags ≡ []
none_left start [] is = refl
none_left start (true ∷ flags) is = absurd (let no : ⊥ = cc in no)
none_left start (false ∷ flags) is = none_left (start + 1) flags is

record NextMarked (start : ℕ) (flags : List Bool) (doc : ℕ) : Type 0 where
  ahead : ℕ
  place : doc ≡ start + ahead
  goes : marked_places start flags ≡ doc ∷ marked_places (doc + 1) (drop (suc ahead) flags)

next_marked : (start : ℕ) (flags : List Bool) (doc : ℕ) → position_from is_marked start flags ≡ Some doc → NextMarked start flags doc
next_marked start [] doc is = absurd (let no : ⊥ = cc in no)
next_marked start (true ∷ flags) doc is =
    let same : start ≡ doc = same_Some start doc is in
    record { ahead = 0; place = omega (arith, same); goes = ap (λ (k : ℕ). k ∷ marked_places (k + 1) flags) same }
next_marked start (false ∷ flags) doc is =
    let rest = next_marked (start + 1) flags doc is in
    record { ahead = suc rest.ahead; place = omega (arith, rest.place); goes = rest.goes }

drop_drop : {A : Type 0} (a b : ℕ) (xs : List A) → drop a (drop b xs) ≡ drop (b + a) xs
drop_drop a zero xs = ap (λ (k : ℕ). drop k xs) (omega arith)
drop_drop zero (suc b) [] = let next : suc b + 0 ≡ suc b = omega arith in rw next refl
drop_drop (suc a) (suc b) [] = let next : suc b + suc a ≡ suc (b + suc a) = omega arith in rw next refl
drop_drop a (suc b) (x ∷ xs) = let next : suc b + a ≡ suc (b + a) = omega arith in rw next (drop_drop a b xs)

-- what is left of a walk that stands at a document
abbrev pub left_of : List Bool → ℕ → List ℕ
left_of flags from = marked_places from (drop from flags)

pub walk_on : (flags : List Bool) (from doc : ℕ) → Some doc ≡ next_place is_marked from flags → left_of flags from ≡ doc ∷ left_of flags (doc + 1)
walk_on flags from doc is =
    let next = next_marked from (drop from flags) doc (sym is) in
    let behind : from + suc next.ahead ≡ doc + 1 = omega (arith, next.place) in
    next.goes ∙ ap (λ (l : List Bool). doc ∷ marked_places (doc + 1) l) (drop_drop (suc next.ahead) from flags ∙ ap (λ (k : ℕ). drop k flags) behind)

pub walk_end : (flags : List Bool) (from : ℕ) → None ≡ next_place is_marked from flags → left_of flags from ≡ []
walk_end flags from is = none_left from (drop from flags) (sym is)

-- what is made of the documents, one after the other
pub sum_on : (f : ℕ → ℕ) (flags : List Bool) (from doc : ℕ) → Some doc ≡ next_place is_marked from flags → sum_by f (left_of flags from) ≡ f doc + sum_by f (left_of flags (doc + 1))
sum_on f flags from doc is = ap (sum_by f) (walk_on flags from doc is) ∙ sum_by-cons f doc (left_of flags (doc + 1))

pub sum_off : (f : ℕ → ℕ) (flags : List Bool) (from : ℕ) → None ≡ next_place is_marked from flags → sum_by f (left_of flags from) ≡ 0
sum_off f flags from is = ap (sum_by f) (walk_end flags from is)

pub nothing_behind : {A : Type 0} (xs : List A) → xs ≡ xs ++ []
nothing_behind [] = refl
nothing_behind {A} (x ∷ xs) = ap (λ (l : List A). x ∷ l) (nothing_behind xs)

module _ {A : Type 0} (f : ℕ → List A) (flags : List Bool) (from : ℕ) where
  pub gathered_on : (doc : ℕ) (done new total : List A) → Some doc ≡ next_place is_marked from flags → done ++ flat_map f (left_of flags from) ≡ total → new ≡ done ++ f doc → new ++ flat_map f (left_of flags (doc + 1)) ≡ total
  gathered_on doc done new total is was own =
      ap (λ (l : List A). l ++ flat_map f (left_of flags (doc + 1))) own
      ∙ append_assoc done (f doc) (flat_map f (left_of flags (doc + 1)))
      ∙ ap (λ (l : List ℕ). done ++ flat_map f l) (sym (walk_on flags from doc is))
      ∙ was

  pub gathered_end : (done total : List A) → None ≡ next_place is_marked from flags → done ++ flat_map f (left_of flags from) ≡ total → done ≡ total
  gathered_end done total is was = nothing_behind done ∙ ap (λ (l : List ℕ). done ++ flat_map f l) (sym (walk_end flags from is)) ∙ was

-- ---- what stands at marked places

module _ {A : Type 0} where
  abbrev kept : List Bool → List A → List A
  kept [] xs = []
  kept (flag ∷ flags) [] = []
  kept (true ∷ flags) (x ∷ xs) = x ∷ kept flags xs
  kept (false ∷ flags) (x ∷ xs) = kept flags xs

  marked_kept : (f : ℕ → A) (start : ℕ) (flags : List Bool) → map f (marked_places start flags) ≡ kept flags (map f (range_with_len start (length flags)))
  marked_kept f start [] = refl
  marked_kept f start (true ∷ flags) = ap (λ (zs : List A). f start ∷ zs) (marked_kept f (start + 1) flags)
  marked_kept f start (false ∷ flags) = marked_kept f (start + 1) flags

-- ---- one entry

module _ {B : Type 0} (m : Mapping) (n : ℕ) (given : Object → Option ℕ) (of : Object → B) where
  abbrev told : Bool → Object → Option ℕ
  told live o = if_live (at_scope n given) live o

  abbrev owned : Bool → Object → B
  owned live o = of o

  block_live : (os : List Object) (scores : Scores) (bs : List B) → kept (map is_some (map (told true) os ++ scores)) (map of os ++ bs) ≡ map of (filter (is_given given) (filter (stands_at n) os)) ++ kept (map is_some scores) bs
  block_live [] scores bs = refl
  block_live (o ∷ os) scores bs = by (scope o == n) (given o) refl refl (block_live os scores bs)
    where
      by : (here : Bool) (score : Option ℕ) → (scope o == n) ≡ here → given o ≡ score
          → kept (map is_some (map (told true) os ++ scores)) (map of os ++ bs) ≡ map of (filter (is_given given) (filter (stands_at n) os)) ++ kept (map is_some scores) bs
          → kept (map is_some (map (told true) (o ∷ os) ++ scores)) (map of (o ∷ os) ++ bs) ≡ map of (filter (is_given given) (filter (stands_at n) (o ∷ os))) ++ kept (map is_some scores) bs
      by false score at own rest = rw at rest
      by true None at own rest = rw (at, own) rest
      by true (Some s) at own rest = rw (at, own) (ap (λ (zs : List B). of o ∷ zs) rest)

  block_dead : (os : List Object) (scores : Scores) (bs : List B) → kept (map is_some (map (told false) os ++ scores)) (map of os ++ bs) ≡ kept (map is_some scores) bs
  block_dead [] scores bs = refl
  block_dead (o ∷ os) scores bs = block_dead os scores bs

  pub given_append : (xs ys : List Tree) → objects_given m n (xs ++ ys) given ≡ objects_given m n xs given ++ objects_given m n ys given
  given_append xs ys =
      ap (filter (is_given given)) (flat_map-append (λ tree. filter (stands_at n) (block_objects m tree)) xs ys)
      ∙ filter-append (is_given given) (live_objects m n xs) (live_objects m n ys)

  kept_objects : (trees : Trees) → kept (map is_some (seen m (at_scope n given) trees)) (by_document m owned trees) ≡ map of (objects_given m n (live_in trees) given)
  kept_objects [] = refl
  kept_objects (t ∷ trees) = by t.live refl (kept_objects trees)
    where
      by : (live : Bool) → t.live ≡ live → kept (map is_some (seen m (at_scope n given) trees)) (by_document m owned trees) ≡ map of (objects_given m n (live_in trees) given)
          → kept (map is_some (seen m (at_scope n given) (t ∷ trees))) (by_document m owned (t ∷ trees)) ≡ map of (objects_given m n (live_in (t ∷ trees)) given)
      by true is rest =
          rw is (block_live (block_objects m t.item) (seen m (at_scope n given) trees) (by_document m owned trees)
          ∙ ap (λ (zs : List B). map of (filter (is_given given) (filter (stands_at n) (block_objects m t.item))) ++ zs) rest
          ∙ sym (map-append of (filter (is_given given) (filter (stands_at n) (block_objects m t.item))) (objects_given m n (live_in trees) given))
          ∙ ap (map of) (sym (filter-append (is_given given) (filter (stands_at n) (block_objects m t.item)) (live_objects m n (live_in trees)))))
      by false is rest = rw is (block_dead (block_objects m t.item) (seen m (at_scope n given) trees) (by_document m owned trees) ∙ rest)

module _ (m : Mapping) (n : ℕ) (given : Object → Option ℕ) where
  entry_flats : (c : Columns) (scores : Scores) (trees : Trees) → length scores ≡ c.documents → flats_of c ≡ by_document m (flat_at m) trees → scores ≡ seen m (at_scope n given) trees
      → flats_in c scores ≡ map (flat_of_object m) (objects_given m n (live_in trees) given)
  entry_flats c scores trees long flats is =
      let same : length (map is_some scores) ≡ c.documents = length-map scores is_some ∙ long in
      marked_kept (flat_of c) 0 (map is_some scores)
      ∙ ap (λ (k : ℕ). kept (map is_some scores) (map (flat_of c) (range_with_len 0 k))) same
      ∙ ap (kept (map is_some scores)) flats
      ∙ ap (λ (s : Scores). kept (map is_some s) (by_document m (flat_at m) trees)) is
      ∙ kept_objects m n given (flat_of_object m) trees

  -- ---- all entries

  view_flats : (view : List EntryState) (scores : List Scores) (trees : List Trees) → AreLong view scores → ViewStandsFor m view trees → scores ≡ map (λ (own : Trees). seen m (at_scope n given) own) trees
      → flats_of_view view scores ≡ map (flat_of_object m) (objects_given m n (live_trees trees) given)
  view_flats [] scores [] long stand is = refl
  view_flats [] scores (t ∷ trees) long stand is = absurd stand
  view_flats (e ∷ view) scores [] long stand is = absurd stand
  view_flats (e ∷ view) [] (t ∷ trees) long stand is = absurd long
  view_flats (e ∷ view) (s ∷ scores) (t ∷ trees) long stand is =
      let first : s ≡ seen m (at_scope n given) t = cc in
      let more : scores ≡ map (λ (own : Trees). seen m (at_scope n given) own) trees = cc in
      ap (λ (l : List FlatDocument). l ++ flats_of_view view scores) (entry_flats e.columns s t long.0 stand.0.flats first)
      ∙ ap (λ (l : List FlatDocument). map (flat_of_object m) (objects_given m n (live_in t) given) ++ l) (view_flats view scores trees long.1 stand.1 more)
      ∙ sym (map-append (flat_of_object m) (objects_given m n (live_in t) given) (objects_given m n (live_trees trees) given))
      ∙ ap (map (flat_of_object m)) (sym (given_append m n given (flat_of_object m) (live_in t) (live_trees trees)))

pub flats_are : (m : Mapping) (view : List EntryState) (n : ℕ) (given : List Tree → Object → Option ℕ) (scores : List Scores) → IsSeen m view n given scores → (trees : List Trees) → ViewStandsFor m view trees
    → flats_of_view view scores ≡ map (flat_of_object m) (objects_given m n (live_trees trees) (given (live_trees trees)))
flats_are m view n given scores is trees stand = view_flats m n (given (live_trees trees)) view scores trees is.long stand (is.are trees stand)

-- ---- how many there are

marked_long : (start : ℕ) (flags : List Bool) → count_by is_marked flags ≡ length (marked_places start flags)
marked_long start [] = refl
marked_long start (true ∷ flags) = omega (arith, count_cons is_marked true flags, marked_long (start + 1) flags)
marked_long start (false ∷ flags) = omega (arith, count_cons is_marked false flags, marked_long (start + 1) flags)

view_long : (view : List EntryState) (scores : List Scores) → AreLong view scores → sum_by marked_count scores ≡ length (flats_of_view view scores)
view_long [] [] long = refl
view_long [] (s ∷ scores) long = absurd long
view_long (e ∷ view) [] long = absurd long
view_long (e ∷ view) (s ∷ scores) long =
    omega (arith, sum_by-cons marked_count s scores, marked_long 0 (map is_some s), length-map (documents_in s) (flat_of e.columns), length-append (flats_in e.columns s) (flats_of_view view scores), view_long view scores long.1)

pub objects_count : (m : Mapping) (view : List EntryState) (n : ℕ) (given : List Tree → Object → Option ℕ) (scores : List Scores) → IsSeen m view n given scores → (trees : List Trees) → ViewStandsFor m view trees
    → sum_by marked_count scores ≡ length (objects_given m n (live_trees trees) (given (live_trees trees)))
objects_count m view n given scores is trees stand =
    let objects : List Object = objects_given m n (live_trees trees) (given (live_trees trees)) in
    view_long view scores is.long
    ∙ ap length (flats_are m view n given scores is trees stand)
    ∙ length-map objects (flat_of_object m)
