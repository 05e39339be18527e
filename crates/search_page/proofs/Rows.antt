-- The rows of a view are those of its live trees, and each is the hit of a root.
use Rattle.std.proofs.Common.{◌≡◌, ℕ, zero, suc, ◌+◌, ◌<◌, Bool, true, false, cond, List as Seq, [], ◌∷◌, ◌++◌, length, map, filter, get_or, slice_get, take, Option, Some, None, nat_le, if◌then◌else◌, refl, sym, ap, subst, ◌∙◌, append_assoc, arith}
use Rattle.std.specs.List.{AllByRecursion, cons_option, count_by, filter_map, flat_map}
use Rattle.std.specs.Option.{option_map}
use Rattle.std.proofs.Math.Seq.{take-append-add}
use Rattle.std.proofs.lemmas.Bool.Decides.{nat_tests}
use Rattle.std.proofs.lemmas.List.{get_or-append-add, get_or_at, length-append, length-map, length_push, map-append, take_at}
use Rattle.std.proofs.lemmas.List.Concat.{flat_map-append}
use Rattle.std.proofs.lemmas.List.Elements.{filter_map-append}
use Rattle.std.proofs.lemmas.List.FromFn.{length-map-range_with_len}
use Rattle.std.proofs.lemmas.List.Sums.{sum_by-append}
use Rattle.block_bits.specs.Blocks.{documents_of, has_scope}
use Rattle.block_bits.specs.Flags.{is_marked}
use Rattle.flattener.specs.Block.{root_of_tree}
use Rattle.flattener.specs.StandsFor.{EntryStandsFor, Marked, ViewStandsFor, by_document, flat_at}
use Rattle.mapping.specs.IsMapping.{IsMapping}
use Rattle.mapping.specs.Mapping.{Mapping, kids}
use Rattle.nested_sort.specs.Keyed.{keyed_row, rows_from, rows_in, scored}
use Rattle.query_ast.specs.Hit.{hit}
use Rattle.nested_sort.specs.Listed.{IsHitAt}
use Rattle.query_ast.specs.Joined.{roots}
use Rattle.query_ast.specs.Rows.{Row, number_of, row_if, row_of, rows_of}
use Rattle.query_ast.specs.Search.{hit_of}
use Rattle.query_ast.specs.declared.hit.Hit.{Hit}
use Rattle.query_ast.specs.declared.search.SearchBody.{SearchBody}
use Rattle.query_ast.specs.declared.sort.KeyRow.{KeyRow}
use Rattle.query_eval.specs.Found.{live_in, live_trees}
use Rattle.view_objects.specs.Hits.{any_object, no_object}
use Rattle.segment.specs.Flat.{FlatDocument, FlatRoot, flat_of, flat_root, flats_of}
use Rattle.segment.specs.Live.{EntryState, root_of as block_root}
use Rattle.stored_sources.specs.Roots.{no_root, root_of as stored_root}
use Rattle.tree_joins.specs.Seen.{at_scope, if_live, seen}
use Rattle.tree_objects.specs.Enclosing.{stands_at}
use Rattle.tree_objects.specs.Object.{Object, block_objects, children, objects, root, scope}
use Rattle.tree_objects.specs.Tree.{Tree}
use Rattle.search_page.specs.Hits.{hit_at, hit_in, root_at, root_marks, row_object, score_or_zero, shown_at, shown_of, stored_hit}
use Rattle.search_page.proofs.Agreeing.{Agree, agree_append}

abbrev Trees : Type 0
Trees = Seq (Marked Tree)

abbrev pub Scores : Type 0
Scores = Seq (Option ℕ)

abbrev pub OneRoot : Mapping → Type 0
OneRoot m = (tree : Tree) → IsMapping m → filter (stands_at 0) (block_objects m tree) ≡ root tree ∷ []

-- ---- lists

by_test : {G : Type 0} (t : Bool) → (t ≡ true → G) → (t ≡ false → G) → G
by_test true held failed = held refl
by_test false held failed = failed refl

get_seam : {A : Type 0} (before : Seq A) (x : A) (after : Seq A) (k : ℕ) → length before ≡ k → slice_get (before ++ x ∷ after) k ≡ Some x
get_seam [] x after zero long = refl
get_seam [] x after (suc k) long = absurd (omega (arith, long))
get_seam (y ∷ before) x after zero long = absurd (omega (arith, long))
get_seam (y ∷ before) x after (suc k) long = get_seam before x after k (omega (arith, long))

same_at : {A B C : Type 0} (f : A → C) (g : B → C) (xs : Seq A) (ys : Seq B) (k : ℕ) (y : B) (d : A) → map f xs ≡ map g ys → slice_get ys k ≡ Some y → f (get_or xs k d) ≡ g y
same_at f g xs [] k y d same at = absurd (let no : ⊥ = cc in no)
same_at f g [] (z ∷ ys) k y d same at = absurd (let no : ⊥ = cc in no)
same_at f g (x ∷ xs) (z ∷ ys) zero y d same at = let first : f x ≡ g z = cc in let own : z ≡ y = cc in first ∙ ap g own
same_at {A} {B} {C} f g (x ∷ xs) (z ∷ ys) (suc k) y d same at = let rest : map f xs ≡ map g ys = cc in same_at f g xs ys k y d rest at

not_past : (a b : ℕ) → b < a → nat_le a b ≡ false
not_past a b low = grind (arith, nat_tests)

-- ---- the root is the last of a block

abbrev stand : Object → Bool
stand o = has_scope 0 (scope o)

record EndsInRoot (os : Seq Object) (t : Tree) : Type 0 where
  pub before : Seq Object
  pub are : os ≡ before ++ (root t ∷ [])
  pub none : AllByRecursion (λ (o : Object). stand o ≡ false) before

none_before : (before : Seq Object) (t : Tree) → filter (stands_at 0) (before ++ (root t ∷ [])) ≡ root t ∷ [] → AllByRecursion (λ (o : Object). stand o ≡ false) before
none_before [] t one = tt
none_before (o ∷ before) t one =
    by_test (stand o)
    (λ yes. absurd (let e : o ∷ filter (stands_at 0) (before ++ (root t ∷ [])) ≡ root t ∷ [] = rw yes at one in let none : filter (stands_at 0) (before ++ (root t ∷ [])) ≡ [] = cc in full before none))
    (λ no. (no, none_before before t (rw no at one)))
  where
    full : (before : Seq Object) → filter (stands_at 0) (before ++ (root t ∷ [])) ≡ [] → ⊥
    full [] e = let no : ⊥ = cc in no
    full (p ∷ before) e = by_test (stand p) (λ yes. (let g : p ∷ filter (stands_at 0) (before ++ (root t ∷ [])) ≡ [] = rw yes at e in let no : ⊥ = cc in no)) (λ no. full before (rw no at e))

root_last : (m : Mapping) (t : Tree) (left : ℕ) → (before : Seq Object) × (objects m left (root t) ≡ before ++ (root t ∷ []))
root_last m t zero = ([], refl)
root_last m t (suc left) = (flat_map (λ n. flat_map (λ c. objects m left c) (children m (root t) n)) (kids m 0), refl)

ends_in_root : (m : Mapping) → OneRoot m → IsMapping m → (t : Tree) → EndsInRoot (block_objects m t) t
unfolding block_objects
ends_in_root m one is t =
    let last = root_last m t (length m.scopes) in
    record { before = last.0; are = last.1; none = none_before last.0 t (ap (filter (stands_at 0)) (sym last.1) ∙ one t is) }

-- ---- marks of roots, over the trees of an entry

abbrev mark : Bool → Object → Bool
mark live o = stand o

abbrev scope_in : FlatDocument → ℕ
scope_in document = document.scope

marks_append : (m : Mapping) (live : Bool) (os : Seq Object) (more : Seq FlatDocument) (marks : Seq Bool) → map (has_scope 0) (map scope_in more) ≡ marks
    → map (has_scope 0) (map scope_in (map (flat_at m live) os ++ more)) ≡ map (mark live) os ++ marks
marks_append m live [] more marks rest = rest
marks_append m live (o ∷ os) more marks rest = ap (λ (l : Seq Bool). stand o ∷ l) (marks_append m live os more marks rest)

marks_of_flats : (m : Mapping) (trees : Trees) → map (has_scope 0) (map scope_in (by_document m (flat_at m) trees)) ≡ by_document m mark trees
marks_of_flats m [] = refl
marks_of_flats m (t ∷ trees) = marks_append m t.live (block_objects m t.item) (by_document m (flat_at m) trees) (by_document m mark trees) (marks_of_flats m trees)

marks_are : (m : Mapping) (e : EntryState) (trees : Trees) → EntryStandsFor m e.columns e.live trees → root_marks e.columns ≡ by_document m mark trees
marks_are m e trees stands = ap (λ (flats : Seq FlatDocument). documents_of (map scope_in flats) 0) stands.flats ∙ marks_of_flats m trees

marks_long : (m : Mapping) (e : EntryState) (trees : Trees) → EntryStandsFor m e.columns e.live trees → e.columns.documents ≡ length (by_document m mark trees)
marks_long m e trees stands =
    sym (length-map (map scope_in (flats_of e.columns)) (has_scope 0) ∙ length-map (flats_of e.columns) scope_in ∙ length-map-range_with_len (flat_of e.columns) 0 e.columns.documents)
    ∙ ap length (marks_are m e trees stands)

abbrev count : Seq Bool → ℕ
count flags = count_by is_marked flags

count_append : (xs ys : Seq Bool) → count (xs ++ ys) ≡ count xs + count ys
count_append xs ys = sum_by-append (λ x. cond (is_marked x) 1 0) xs ys

count_none : (live : Bool) (os : Seq Object) → AllByRecursion (λ (o : Object). stand o ≡ false) os → count (map (mark live) os) ≡ 0
count_none live [] none = refl
count_none live (o ∷ os) none =
    ap (λ (b : Bool). count (b ∷ map (mark live) os)) none.0 ∙ count_append (false ∷ []) (map (mark live) os) ∙ (let rest : count (map (mark live) os) ≡ 0 = count_none live os none.1 in omega (arith, rest))

same_long : {A B : Type 0} (m : Mapping) (f : Bool → Object → A) (g : Bool → Object → B) (trees : Trees) → length (by_document m f trees) ≡ length (by_document m g trees)
same_long m f g [] = refl
same_long m f g (t ∷ trees) =
    let one : length (map (f t.live) (block_objects m t.item)) ≡ length (map (g t.live) (block_objects m t.item)) = length-map (block_objects m t.item) (f t.live) ∙ sym (length-map (block_objects m t.item) (g t.live)) in
    let more : length (by_document m f trees) ≡ length (by_document m g trees) = same_long m f g trees in
    omega (arith, length-append (map (f t.live) (block_objects m t.item)) (by_document m f trees), length-append (map (g t.live) (block_objects m t.item)) (by_document m g trees), one, more)

-- ---- the documents of an entry about the root of one of its trees

module _ (m : Mapping) (one_root : OneRoot m) (is : IsMapping m) where
  inside : Tree → Seq Object
  inside t = (ends_in_root m one_root is t).before

  none_inside : (t : Tree) → AllByRecursion (λ (o : Object). stand o ≡ false) (inside t)
  unfolding inside
  none_inside t = (ends_in_root m one_root is t).none

  block_is : {A : Type 0} (f : Bool → Object → A) (t : Marked Tree) → map (f t.live) (block_objects m t.item) ≡ map (f t.live) (inside t.item) ++ (f t.live (root t.item) ∷ [])
  unfolding inside
  block_is f t = ap (map (f t.live)) (ends_in_root m one_root is t.item).are ∙ map-append (f t.live) (inside t.item) (root t.item ∷ [])

  first_block : {A : Type 0} (f : Bool → Object → A) (t : Marked Tree) (ts : Trees) → by_document m f (t ∷ ts) ≡ map (f t.live) (inside t.item) ++ (f t.live (root t.item) ∷ by_document m f ts)
  first_block {A} f t ts =
      ap (λ (l : Seq A). l ++ by_document m f ts) (block_is f t)
      ∙ append_assoc (map (f t.live) (inside t.item)) (f t.live (root t.item) ∷ []) (by_document m f ts)

  about : {A : Type 0} (f : Bool → Object → A) (done : Trees) (t : Marked Tree) (ts : Trees) → by_document m f (done ++ t ∷ ts) ≡ by_document m f done ++ (map (f t.live) (inside t.item) ++ (f t.live (root t.item) ∷ by_document m f ts))
  about {A} f done t ts =
      flat_map-append (λ (t : Marked Tree). map (f t.live) (block_objects m t.item)) done (t ∷ ts)
      ∙ ap (λ (l : Seq A). by_document m f done ++ l) (first_block f t ts)

  -- the document of the root of a tree, behind those of the trees before
  abbrev root_doc : Trees → Tree → ℕ
  root_doc done t = length (by_document m mark done) + length (inside t)

  count_trees : (ts : Trees) → count (by_document m mark ts) ≡ length ts
  count_trees [] = refl
  count_trees (t ∷ ts) =
      let rest : count (by_document m mark ts) ≡ length ts = count_trees ts in
      let none : count (map (mark t.live) (inside t.item)) ≡ 0 = count_none t.live (inside t.item) (none_inside t.item) in
      let here : count (true ∷ by_document m mark ts) ≡ 1 + count (by_document m mark ts) = count_append (true ∷ []) (by_document m mark ts) in
      ap count (first_block mark t ts)
      ∙ count_append (map (mark t.live) (inside t.item)) (true ∷ by_document m mark ts)
      ∙ omega (arith, rest, none, here)

  -- as many roots come before it as trees
  root_number : (done : Trees) (t : Marked Tree) (ts : Trees) → block_root (by_document m mark (done ++ t ∷ ts)) (root_doc done t.item) ≡ length done
  root_number done t ts =
      let none : count (map (mark t.live) (inside t.item)) ≡ 0 = count_none t.live (inside t.item) (none_inside t.item) in
      let before : count (by_document m mark done) ≡ length done = count_trees done in
      ap (λ (l : Seq Bool). count (take (root_doc done t.item) l)) (about mark done t ts)
      ∙ ap count (take-append-add (by_document m mark done) (map (mark t.live) (inside t.item) ++ (true ∷ by_document m mark ts)) (length (inside t.item)))
      ∙ ap (λ (l : Seq Bool). count (by_document m mark done ++ l)) (take_at (map (mark t.live) (inside t.item)) (true ∷ by_document m mark ts) (length (inside t.item)) (length-map (inside t.item) (mark t.live)))
      ∙ count_append (by_document m mark done) (map (mark t.live) (inside t.item))
      ∙ omega (arith, none, before)

  root_within : (done : Trees) (t : Marked Tree) (ts : Trees) → root_doc done t.item < length (by_document m mark (done ++ t ∷ ts))
  root_within done t ts =
      let all : length (by_document m mark (done ++ t ∷ ts)) ≡ length (by_document m mark done) + length (map (mark t.live) (inside t.item) ++ (true ∷ by_document m mark ts)) =
      ap length (about mark done t ts) ∙ length-append (by_document m mark done) (map (mark t.live) (inside t.item) ++ (true ∷ by_document m mark ts)) in
      let own : length (map (mark t.live) (inside t.item) ++ (true ∷ by_document m mark ts)) ≡ length (map (mark t.live) (inside t.item)) + suc (length (by_document m mark ts)) =
      length-append (map (mark t.live) (inside t.item)) (true ∷ by_document m mark ts) in
      omega (arith, all, own, length-map (inside t.item) (mark t.live))

  -- what is found at it is the root's
  root_read : {A : Type 0} (f : Bool → Object → A) (d : A) (done : Trees) (t : Marked Tree) (ts : Trees) → get_or (by_document m f (done ++ t ∷ ts)) (root_doc done t.item) d ≡ f t.live (root t.item)
  root_read {A} f d done t ts =
      let long : length (by_document m mark done) ≡ length (by_document m f done) = same_long m mark f done in
      ap (λ (l : Seq A). get_or l (root_doc done t.item) d) (about f done t ts)
      ∙ ap (λ (k : ℕ). get_or (by_document m f done ++ (map (f t.live) (inside t.item) ++ (f t.live (root t.item) ∷ by_document m f ts))) (k + length (inside t.item)) d) long
      ∙ get_or-append-add (by_document m f done) (map (f t.live) (inside t.item) ++ (f t.live (root t.item) ∷ by_document m f ts)) (length (inside t.item)) d
      ∙ get_or_at (map (f t.live) (inside t.item)) (f t.live (root t.item)) (by_document m f ts) d (length (inside t.item)) (length-map (inside t.item) (f t.live))

  -- and the next tree begins behind it
  next_begins : (done : Trees) (t : Marked Tree) → length (by_document m mark (done ++ t ∷ [])) ≡ suc (root_doc done t.item)
  next_begins done t =
      let all : length (by_document m mark (done ++ t ∷ [])) ≡ length (by_document m mark done) + length (map (mark t.live) (inside t.item) ++ (true ∷ [])) =
      ap length (about mark done t []) ∙ length-append (by_document m mark done) (map (mark t.live) (inside t.item) ++ (true ∷ [])) in
      let own : length (map (mark t.live) (inside t.item) ++ (true ∷ [])) ≡ length (map (mark t.live) (inside t.item)) + 1 =
      length_push (map (mark t.live) (inside t.item)) true in
      omega (arith, all, own, length-map (inside t.item) (mark t.live))

-- ---- rows

module _ (m : Mapping) (one_root : OneRoot m) (view : Seq EntryState) (found : Seq Scores) (trees : Seq Trees) (body : SearchBody) where
  abbrev live : Seq Tree
  live = live_trees trees

  abbrev pub given : Object → Option ℕ
  given o = hit m live body.query o

  -- a row of the view and one of the live trees
  pub record Same (row : KeyRow) (own : Row) : Type 0 where
    pub keys : row.keys ≡ own.keys
    pub number : row.number ≡ number_of own
    pub object : row_object m trees row ≡ own.object
    pub at_root : IsHitAt m 0 trees row.place row.doc
    pub shown : shown_at m view found trees body row ≡ Some (hit_of m live body own)

  abbrev own_rows : Seq Tree → Seq Row
  own_rows trees = rows_of m live body.query body.sort (roots trees)

  own_rows_append : (trees more : Seq Tree) → own_rows (trees ++ more) ≡ own_rows trees ++ own_rows more
  unfolding rows_of
  own_rows_append trees more =
      ap (filter_map (row_if m live body.query body.sort)) (map-append (λ tree. root tree) trees more)
      ∙ filter_map-append (row_if m live body.query body.sort) (roots trees) (roots more)

  -- what is stored of a tree's root, with what is shown of it
  stored_is : (t : Tree) (score : ℕ) (row : KeyRow) → row.keys ≡ (row_of m live body.sort (root t) score).keys → row_object m trees row ≡ root t
      → shown_of m trees body row (stored_hit (root_of_tree m t) score row.keys) ≡ hit_of m live body (row_of m live body.sort (root t) score)
  unfolding root_of_tree
  stored_is t score row same object = rw (same, object) refl

  module _ (e : EntryState) (place : ℕ) (all : Trees) (stands : EntryStandsFor m e.columns e.live all) (at : slice_get view place ≡ Some e) (own : get_or found place [] ≡ seen m (at_scope 0 given) all) (there : get_or trees place [] ≡ all) where
    shown : (t : Marked Tree) (k doc score : ℕ) → slice_get all k ≡ Some t → block_root (by_document m mark all) doc ≡ k → doc < length (by_document m mark all) → get_or (seen m (at_scope 0 given) all) doc None ≡ Some score
        → row_object m trees (keyed_row m live body.sort place doc (root t.item, score)) ≡ root t.item
        → shown_at m view found trees body (keyed_row m live body.sort place doc (root t.item, score)) ≡ Some (hit_of m live body (row_of m live body.sort (root t.item) score))
    unfolding hit_at shown_at
    shown t k doc score among number low is object =
        let row = keyed_row m live body.sort place doc (root t.item, score) in
        let within : nat_le e.columns.documents doc ≡ false = not_past e.columns.documents doc (let long : e.columns.documents ≡ length (by_document m mark all) = marks_long m e all stands in omega (arith, long, low)) in
        let root_is : root_at e.columns doc ≡ root_of_tree m t.item =
        ap (λ (marks : Seq Bool). flat_root (stored_root e.columns.roots (block_root marks doc))) (marks_are m e all stands)
        ∙ ap (λ (n : ℕ). flat_root (stored_root e.columns.roots n)) number
        ∙ same_at flat_root (λ (t : Marked Tree). root_of_tree m t.item) e.columns.roots all k t no_root stands.roots among in
        let bare : hit_at view found row ≡ Some (stored_hit (root_of_tree m t.item) score row.keys) =
        ap (λ (o : Option EntryState). hit_in o (get_or found place []) row) at
        ∙ ap (λ (scores : Scores). hit_in (Some e) scores row) own
        ∙ ap (λ (b : Bool). if b then None else Some (stored_hit (root_at e.columns doc) (score_or_zero (get_or (seen m (at_scope 0 given) all) doc None)) row.keys)) within
        ∙ ap (λ (s : Option ℕ). Some (stored_hit (root_at e.columns doc) (score_or_zero s) row.keys)) is
        ∙ ap (λ (r : FlatRoot). Some (stored_hit r score row.keys)) root_is in
        ap (option_map (shown_of m trees body row)) bare ∙ ap (λ (h : Hit). Some h) (stored_is t.item score row refl object)

    abbrev scores_at : Bool → Object → Option (Object × ℕ)
    scores_at alive = if_live (at_scope 0 (scored given)) alive

    -- documents that are no roots have no rows
    skip : (alive : Bool) (os : Seq Object) (doc : ℕ) (rest : Seq (Option (Object × ℕ))) → AllByRecursion (λ (o : Object). stand o ≡ false) os
        → rows_from m live body.sort place doc (map (scores_at alive) os ++ rest) ≡ rows_from m live body.sort place (doc + length os) rest
    skip alive [] doc rest none = let same : doc + 0 ≡ doc = omega arith in rw same refl
    skip alive (o ∷ os) doc rest none =
        let on : suc doc + length os ≡ doc + suc (length os) = omega arith in
        ap (λ (x : Option (Object × ℕ)). rows_from m live body.sort place doc (x ∷ (map (scores_at alive) os ++ rest))) (nothing alive)
        ∙ skip alive os (suc doc) rest none.1
        ∙ ap (λ (k : ℕ). rows_from m live body.sort place k rest) on
      where
        nothing : (alive : Bool) → scores_at alive o ≡ None
        nothing true = ap (λ (b : Bool). cond b (scored given o) None) none.0
        nothing false = refl

    -- the row of a root
    last : (alive : Bool) (t : Tree) (doc : ℕ) (ts : Trees) (rest : Seq (Option (Object × ℕ)))
        → ((score : ℕ) → alive ≡ true → given (root t) ≡ Some score → Same (keyed_row m live body.sort place doc (root t, score)) (row_of m live body.sort (root t) score))
        → Agree Same (rows_from m live body.sort place (suc doc) rest) (own_rows (live_in ts))
        → Agree Same (rows_from m live body.sort place doc (scores_at alive (root t) ∷ rest)) (own_rows (live_in (record { item = t; live = alive } ∷ ts)))
    unfolding rows_of
    last false t doc ts rest here more = more
    last true t doc ts rest here more = by_score (given (root t)) refl
      where
        by_score : (x : Option ℕ) → given (root t) ≡ x
            → Agree Same (rows_from m live body.sort place doc (option_map (λ score. (root t, score)) x ∷ rest)) (cons_option (option_map (row_of m live body.sort (root t)) x) (filter_map (row_if m live body.query body.sort) (roots (live_in ts))))
        by_score None is = more
        by_score (Some score) is = (here score refl is, more)

    -- those of the trees behind some
    pub walk : (done ts : Trees) → all ≡ done ++ ts → Agree Same (rows_from m live body.sort place (length (by_document m mark done)) (seen m (at_scope 0 (scored given)) ts)) (own_rows (live_in ts))
    unfolding rows_of
    walk done [] same = tt
    walk done (t ∷ ts) same =
        let is = stands.mapping in
        let before = inside m one_root is t.item in
        let doc = root_doc m one_root is done t.item in
        let rest = seen m (at_scope 0 (scored given)) ts in
        let more : Agree Same (rows_from m live body.sort place (suc doc) rest) (own_rows (live_in ts)) =
        subst (λ (k : ℕ). Agree Same (rows_from m live body.sort place k rest) (own_rows (live_in ts))) (next_begins m one_root is done t)
        (walk (done ++ t ∷ []) ts (same ∙ sym (append_assoc done (t ∷ []) ts))) in
        let object : get_or (by_document m any_object (get_or trees place [])) doc no_object ≡ root t.item =
        ap (λ (l : Trees). get_or (by_document m any_object l) doc no_object) (there ∙ same) ∙ root_read m one_root is any_object no_object done t ts in
        let scored_at : (score : ℕ) → t.live ≡ true → given (root t.item) ≡ Some score → get_or (seen m (at_scope 0 given) all) doc None ≡ Some score =
        λ score alive scores.
        ap (λ (l : Trees). get_or (seen m (at_scope 0 given) l) doc None) same
        ∙ root_read m one_root is (if_live (at_scope 0 given)) None done t ts
        ∙ ap (λ (b : Bool). cond b (given (root t.item)) None) alive
        ∙ scores in
        let here : (score : ℕ) → t.live ≡ true → given (root t.item) ≡ Some score → Same (keyed_row m live body.sort place doc (root t.item, score)) (row_of m live body.sort (root t.item) score) =
        λ score alive scores.
        record {
          keys = refl;
          number = refl;
          object = object;
          at_root = record { given = given; score = score; is = ap (λ (l : Trees). get_or (seen m (at_scope 0 given) l) doc None) there ∙ scored_at score alive scores };
          shown = shown t (length done) doc score
              (ap (λ (l : Trees). slice_get l (length done)) same ∙ get_seam done t ts (length done) refl)
              (ap (λ (l : Trees). block_root (by_document m mark l) doc) same ∙ root_number m one_root is done t ts)
              (subst (λ (l : Trees). doc < length (by_document m mark l)) (sym same) (root_within m one_root is done t ts))
              (scored_at score alive scores)
              object;
        } in
        subst (λ (rows : Seq KeyRow). Agree Same rows (own_rows (live_in (t ∷ ts))))
        (sym (ap (rows_from m live body.sort place (length (by_document m mark done))) (first_block m one_root is scores_at t ts)
        ∙ skip t.live before (length (by_document m mark done)) (scores_at t.live (root t.item) ∷ rest) (none_inside m one_root is t.item)))
        (last t.live t.item doc ts rest here more)

  -- those of the entries behind some
  pub rows_agree : (first rest : Seq EntryState) (done more : Seq Trees) (place : ℕ) → view ≡ first ++ rest → length first ≡ place → trees ≡ done ++ more → found ≡ map (seen m (at_scope 0 given)) trees → length done ≡ place → ViewStandsFor m rest more
      → Agree Same (rows_in m 0 live body.sort given place more) (own_rows (live_trees more))
  unfolding rows_of
  rows_agree first [] done [] place entries long split scores count stand = tt
  rows_agree first [] done (ts ∷ more) place entries long split scores count stand = absurd stand
  rows_agree first (e ∷ rest) done [] place entries long split scores count stand = absurd stand
  rows_agree first (e ∷ rest) done (ts ∷ more) place entries long split scores count stand =
      let at : slice_get view place ≡ Some e = ap (λ (l : Seq EntryState). slice_get l place) entries ∙ get_seam first e rest place long in
      let own : get_or found place [] ≡ seen m (at_scope 0 given) ts =
      ap (λ (l : Seq Scores). get_or l place []) (scores ∙ ap (map (seen m (at_scope 0 given))) split ∙ map-append (seen m (at_scope 0 given)) done (ts ∷ more))
      ∙ get_or_at (map (seen m (at_scope 0 given)) done) (seen m (at_scope 0 given) ts) (map (seen m (at_scope 0 given)) more) [] place (length-map done (seen m (at_scope 0 given)) ∙ count) in
      let there : get_or trees place [] ≡ ts = ap (λ (l : Seq Trees). get_or l place []) split ∙ get_or_at done ts more [] place count in
      subst (Agree Same (rows_in m 0 live body.sort given place (ts ∷ more))) (sym (own_rows_append (live_in ts) (live_trees more)))
      (agree_append Same
      (rows_from m live body.sort place 0 (seen m (at_scope 0 (scored given)) ts)) (own_rows (live_in ts))
      (rows_in m 0 live body.sort given (suc place) more) (own_rows (live_trees more))
      (walk e place ts stand.0 at own there [] ts refl)
      (rows_agree (first ++ e ∷ []) rest (done ++ ts ∷ []) more (suc place)
      (entries ∙ sym (append_assoc first (e ∷ []) rest))
      (length_push first e ∙ (let on : length first + 1 ≡ suc place = omega (arith, long) in on))
      (split ∙ sym (append_assoc done (ts ∷ []) more))
      scores
      (length_push done ts ∙ (let on : length done + 1 ≡ suc place = omega (arith, count) in on))
      stand.1))
