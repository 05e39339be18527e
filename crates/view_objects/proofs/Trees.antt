-- The tree of a document: the one with as many roots before it.
use Rattle.std.proofs.Common.{◌≡◌, ℕ, zero, suc, ◌+◌, ◌-◌, ◌<◌, ◌≤◌, ◌==◌, List as Seq, [], ◌∷◌, ◌++◌, length, map, filter, flat_map, get_or, slice_get, take, Bool, true, false, Option, Some, None, ◌⊎◌, refl, sym, ap, ◌∙◌, inl, inr, arith}
use Rattle.std.proofs.lemmas.Bool.{cases_lt, false≢true}
use Rattle.std.proofs.lemmas.List.{length-map, length-append}
use Rattle.std.specs.List.{AllByRecursion, count_by}
use Rattle.block_bits.specs.Blocks.{documents_of, has_scope}
use Rattle.block_bits.specs.Flags.{is_marked}
use Rattle.flattener.specs.StandsFor.{EntryStandsFor, Marked, by_document, flat_at, live_mark}
use Rattle.mapping.specs.Mapping.{Mapping, kids, scope_at}
use Rattle.segment.specs.Flat.{FlatDocument, flat_of, flats_of}
use Rattle.segment.specs.Live.{LiveState, root_of}
use Rattle.segment_parts.specs.Marks.{count-mark}
use Rattle.segment_parts.specs.declared.columns.Columns.{Columns}
use Rattle.std.proofs.lemmas.List.FromFn.{length-map-range_with_len}
use Rattle.tree_joins.specs.Seen.{scope_mark, scopes_of}
use Rattle.tree_json.specs.Value.{JsonValue, is_object}
use Rattle.tree_objects.specs.Enclosing.{stands_at}
use Rattle.tree_objects.specs.Object.{Object, root, inside, scope, content, tree_of, given, numbered, children, items, objects, block_objects}
use Rattle.tree_objects.specs.Tree.{Tree}
use Rattle.view_objects.specs.Hits.{IsInTree, any_object, document_object, no_object, objects_in}
use Rattle.view_objects.proofs.Hits.{by_test}

-- ---- each object of a block is of its tree

abbrev OfTree : Tree → Seq Object → Type 0
OfTree t os = AllByRecursion (λ (o : Object). tree_of o ≡ t) os

of_append : (t : Tree) (xs ys : Seq Object) → OfTree t xs → OfTree t ys → OfTree t (xs ++ ys)
of_append t [] ys one other = other
of_append t (x ∷ xs) ys one other = (one.0, of_append t xs ys one.1 other)

of_flat : {A : Type 0} (t : Tree) (f : A → Seq Object) (xs : Seq A) → ((x : A) → OfTree t (f x)) → OfTree t (flat_map f xs)
of_flat t f [] each = tt
of_flat t f (x ∷ xs) each = of_append t (f x) (flat_map f xs) (each x) (of_flat t f xs each)

of_flat_of : (t : Tree) (f : Object → Seq Object) (os : Seq Object) → OfTree t os → ((o : Object) → tree_of o ≡ t → OfTree t (f o)) → OfTree t (flat_map f os)
of_flat_of t f [] own each = tt
of_flat_of t f (o ∷ os) own each = of_append t (f o) (flat_map f os) (each o own.0) (of_flat_of t f os own.1 each)

of_numbered : (t : Tree) (o : Object) (n offset : ℕ) (values : Seq JsonValue) → tree_of o ≡ t → OfTree t (numbered o n offset values)
of_numbered t o n offset [] own = tt
of_numbered t o n offset (v ∷ values) own = (own, of_numbered t o n (offset + 1) values own)

pub of_children : (m : Mapping) (t : Tree) (o : Object) (n : ℕ) → tree_of o ≡ t → OfTree t (children m o n)
of_children m t o n own =
    by_test (given m o n)
    (λ yes. rw yes (of_numbered t o n 0 (filter is_object (items (content o) (scope_at m n).names)) own))
    (λ no. rw no tt)

of_objects : (m : Mapping) (left : ℕ) (t : Tree) (o : Object) → tree_of o ≡ t → OfTree t (objects m left o)
of_objects m zero t o own = (own, tt)
of_objects m (suc left) t o own =
    of_append t (flat_map (λ n. flat_map (λ c. objects m left c) (children m o n)) (kids m (scope o))) (o ∷ [])
    (of_flat t (λ n. flat_map (λ c. objects m left c) (children m o n)) (kids m (scope o))
    (λ n. of_flat_of t (λ c. objects m left c) (children m o n) (of_children m t o n own) (λ c of. of_objects m left t c of)))
    (own, tt)

of_block : (m : Mapping) (t : Tree) → OfTree t (block_objects m t)
unfolding block_objects
of_block m t = of_objects m (length m.scopes) t (root t) refl

of_at : (t : Tree) (os : Seq Object) (k : ℕ) (d : Object) → OfTree t os → k < length os → tree_of (get_or os k d) ≡ t
of_at t [] k d own low = absurd (omega (arith, low))
of_at t (o ∷ os) zero d own low = own.0
of_at t (o ∷ os) (suc k) d own low = of_at t os k d own.1 (omega (arith, low))

-- ---- the root is the last of a block

record EndsInRoot (os : Seq Object) (t : Tree) : Type 0 where
  pub before : Seq Object
  pub are : os ≡ before ++ (root t ∷ [])

ends_block : (m : Mapping) (t : Tree) → EndsInRoot (block_objects m t) t
unfolding block_objects
ends_block m t = by (length m.scopes)
  where
    by : (left : ℕ) → EndsInRoot (objects m left (root t)) t
    by zero = record { before = []; are = refl }
    by (suc left) = record { before = flat_map (λ n. flat_map (λ c. objects m left c) (children m (root t) n)) (kids m 0); are = refl }

abbrev stand : Object → Bool
stand o = has_scope 0 (scope o)

none_before : (before : Seq Object) (t : Tree) → filter (stands_at 0) (before ++ (root t ∷ [])) ≡ root t ∷ [] → AllByRecursion (λ (o : Object). stand o ≡ false) before
none_before [] t one = tt
none_before (o ∷ before) t one =
    by_test (stand o)
    (λ yes. absurd (let e : o ∷ filter (stands_at 0) (before ++ (root t ∷ [])) ≡ root t ∷ [] = rw yes at one in full before (ap rest e)))
    (λ no. (no, none_before before t (rw no at one)))
  where
    rest : Seq Object → Seq Object
    rest [] = []
    rest (x ∷ xs) = xs

    full : (before : Seq Object) → filter (stands_at 0) (before ++ (root t ∷ [])) ≡ [] → ⊥
    full [] e = let no : ⊥ = cc in no
    full (p ∷ before) e = by_test (stand p) (λ yes. (let g : p ∷ filter (stands_at 0) (before ++ (root t ∷ [])) ≡ [] = rw yes at e in let no : ⊥ = cc in no)) (λ no. full before (rw no at e))

count_none : (os more : Seq Object) (k : ℕ) → AllByRecursion (λ (o : Object). stand o ≡ false) os → k ≤ length os → count_by is_marked (take k (map stand (os ++ more))) ≡ 0
count_none os more zero none low = refl
count_none [] more (suc k) none low = absurd (omega (arith, low))
count_none (o ∷ os) more (suc k) none low =
    rw none.0 (omega (arith, count-mark false (take k (map stand (os ++ more))), count_none os more k none.1 (omega (arith, low))))

count_past : (os : Seq Object) (t : Tree) (flags : Seq Bool) (k : ℕ) → AllByRecursion (λ (o : Object). stand o ≡ false) os → count_by is_marked (take (length (os ++ (root t ∷ [])) + k) (map stand (os ++ (root t ∷ [])) ++ flags)) ≡ suc (count_by is_marked (take k flags))
count_past [] t flags k none =
    let e : 1 + k ≡ suc k = omega arith in
    rw e (omega (arith, count-mark true (take k flags)))
count_past (o ∷ os) t flags k none =
    let e : suc (length (os ++ (root t ∷ []))) + k ≡ suc (length (os ++ (root t ∷ [])) + k) = omega arith in
    rw (e, none.0) (omega (arith, count-mark false (take (length (os ++ (root t ∷ [])) + k) (map stand (os ++ (root t ∷ [])) ++ flags)), count_past os t flags k none.1))

-- what stands at the root's scope is the root
roots_alone : (os : Seq Object) (t : Tree) → filter (stands_at 0) os ≡ root t ∷ [] → AllByRecursion (λ (o : Object). stand o ≡ true → o ≡ root t) os
roots_alone [] t one = tt
roots_alone (o ∷ os) t one =
    by_test (stand o)
    (λ yes.
    let e : o ∷ filter (stands_at 0) os ≡ root t ∷ [] = rw yes at one in
    let here : o ≡ root t = cc in
    let none : filter (stands_at 0) os ≡ [] = cc in
    ((λ _. here), no_more os none))
    (λ no. ((λ yes. absurd (false≢true (sym no ∙ yes))), roots_alone os t (rw no at one)))
  where
    no_more : (os : Seq Object) → filter (stands_at 0) os ≡ [] → AllByRecursion (λ (o : Object). stand o ≡ true → o ≡ root t) os
    no_more [] none = tt
    no_more (p ∷ os) none =
        by_test (stand p)
        (λ yes. absurd (let e : p ∷ filter (stands_at 0) os ≡ [] = rw yes at none in let no : ⊥ = cc in no))
        (λ no. ((λ yes. absurd (false≢true (sym no ∙ yes))), no_more os (rw no at none)))

each_at : (P : Object → Type 0) (os : Seq Object) (k : ℕ) (d : Object) → AllByRecursion P os → k < length os → P (get_or os k d)
each_at P [] k d all low = absurd (omega (arith, low))
each_at P (o ∷ os) zero d all low = all.0
each_at P (o ∷ os) (suc k) d all low = each_at P os k d all.1 (omega (arith, low))

-- ---- the trees of an entry

abbrev OneRoot : Mapping → Type 0
OneRoot m = (tree : Tree) → filter (stands_at 0) (block_objects m tree) ≡ root tree ∷ []

-- the documents of an entry, whether each is a root
abbrev stands : Bool → Object → Bool
stands live o = stand o

flags_append : (live : Bool) (os : Seq Object) (scopes : Seq ℕ) → map (has_scope 0) (map (scope_mark live) os ++ scopes) ≡ map stand os ++ map (has_scope 0) scopes
flags_append live [] scopes = refl
flags_append live (o ∷ os) scopes = ap (λ (l : Seq Bool). stand o ∷ l) (flags_append live os scopes)

flags_are : (m : Mapping) (trees : Seq (Marked Tree)) → documents_of (scopes_of m trees) 0 ≡ by_document m stands trees
flags_are m [] = refl
flags_are m (t ∷ trees) =
    flags_append t.live (block_objects m t.item) (scopes_of m trees) ∙ ap (λ (l : Seq Bool). map stand (block_objects m t.item) ++ l) (flags_are m trees)

-- an element of two lists, one behind the other
low_at : {A : Type 0} (xs ys : Seq A) (k : ℕ) (d : A) → k < length xs → get_or (xs ++ ys) k d ≡ get_or xs k d
low_at [] ys k d low = absurd (omega (arith, low))
low_at (x ∷ xs) ys zero d low = refl
low_at (x ∷ xs) ys (suc k) d low = low_at xs ys k d (omega (arith, low))

high_at : {A : Type 0} (xs ys : Seq A) (k : ℕ) (d : A) → get_or (xs ++ ys) (length xs + k) d ≡ get_or ys k d
high_at [] ys k d = let e : 0 + k ≡ k = omega arith in rw e refl
high_at (x ∷ xs) ys k d = let e : suc (length xs) + k ≡ suc (length xs + k) = omega arith in rw e (high_at xs ys k d)

take_low : {A : Type 0} (xs ys : Seq A) (k : ℕ) → k ≤ length xs → take k (xs ++ ys) ≡ take k xs
take_low xs ys zero low = refl
take_low [] ys (suc k) low = absurd (omega (arith, low))
take_low (x ∷ xs) ys (suc k) low = ap (λ zs. x ∷ zs) (take_low xs ys k (omega (arith, low)))

map_at : {A B : Type 0} (f : A → B) (xs : Seq A) (k : ℕ) (d : A) (e : B) → k < length xs → get_or (map f xs) k e ≡ f (get_or xs k d)
map_at f [] k d e low = absurd (omega (arith, low))
map_at f (x ∷ xs) zero d e low = refl
map_at f (x ∷ xs) (suc k) d e low = map_at f xs k d e (omega (arith, low))

-- the number of the tree of a document, and how the document lies in its block
record Found (m : Mapping) (trees : Seq (Marked Tree)) (doc : ℕ) : Type 0 where
  pub marked : Marked Tree
  pub at : slice_get trees (count_by is_marked (take doc (by_document m stands trees))) ≡ Some marked
  pub tree : tree_of (get_or (by_document m any_object trees) doc no_object) ≡ marked.item
  pub live : get_or (by_document m live_mark trees) doc false ≡ marked.live
  pub at_root : scope (get_or (by_document m any_object trees) doc no_object) ≡ 0 → get_or (by_document m any_object trees) doc no_object ≡ root marked.item

module _ (m : Mapping) (one : OneRoot m) where
  found : (trees : Seq (Marked Tree)) (doc : ℕ) → doc < length (by_document m any_object trees) → Found m trees doc
  found [] doc low = absurd (omega (arith, low))
  found (t ∷ trees) doc low = by (cases_lt doc (length block)) (λ k below. found trees k below)
    where
      block : Seq Object
      block = block_objects m t.item

      end : EndsInRoot block t.item
      end = ends_block m t.item

      none : AllByRecursion (λ (o : Object). stand o ≡ false) end.before
      none = none_before end.before t.item (ap (filter (stands_at 0)) (sym end.are) ∙ one t.item)

      long : length block ≡ length end.before + 1
      long = ap length end.are ∙ length-append end.before (root t.item ∷ [])

      by : (doc < length block) ⊎ (length block ≤ doc) → ((k : ℕ) → k < length (by_document m any_object trees) → Found m trees k) → Found m (t ∷ trees) doc
      by (inl here) further =
          let few : count_by is_marked (take doc (by_document m stands (t ∷ trees))) ≡ 0 =
          ap (count_by is_marked) (take_low (map stand block) (by_document m stands trees) doc (omega (arith, here, length-map block stand)))
          ∙ ap (λ os. count_by is_marked (take doc (map stand os))) end.are
          ∙ count_none end.before (root t.item ∷ []) doc none (omega (arith, here, long)) in
          record {
            marked = t;
            at = ap (slice_get (t ∷ trees)) few;
            tree = ap tree_of (low_at (map (any_object t.live) block) (by_document m any_object trees) doc no_object (omega (arith, here, length-map block (any_object t.live))))
                ∙ ap tree_of (map_at (any_object t.live) block doc no_object no_object here)
                ∙ of_at t.item block doc no_object (of_block m t.item) here;
            live = low_at (map (live_mark t.live) block) (by_document m live_mark trees) doc false (omega (arith, here, length-map block (live_mark t.live)))
                ∙ map_at (live_mark t.live) block doc no_object false here;
            at_root = λ zero_scope.
                object_here ∙ each_at (λ (o : Object). stand o ≡ true → o ≡ root t.item) block doc no_object (roots_alone block t.item (one t.item)) here
                (ap (λ s. s == 0) (sym (ap scope object_here) ∙ zero_scope));
          }
        where
          object_here : get_or (by_document m any_object (t ∷ trees)) doc no_object ≡ get_or block doc no_object
          object_here =
              low_at (map (any_object t.live) block) (by_document m any_object trees) doc no_object (omega (arith, here, length-map block (any_object t.live)))
              ∙ map_at (any_object t.live) block doc no_object no_object here
      by (inr behind) further =
          let k = doc - length block in
          let sum : doc ≡ length block + k = omega (arith, behind) in
          let count : length (by_document m any_object (t ∷ trees)) ≡ length block + length (by_document m any_object trees) =
          length-append (map (any_object t.live) block) (by_document m any_object trees) ∙ ap (λ n. n + length (by_document m any_object trees)) (length-map block (any_object t.live)) in
          let more = further k (omega (arith, low, count, behind)) in
          let many : count_by is_marked (take doc (by_document m stands (t ∷ trees))) ≡ suc (count_by is_marked (take k (by_document m stands trees))) =
          ap (λ n. count_by is_marked (take n (by_document m stands (t ∷ trees)))) sum
          ∙ ap (λ (os : Seq Object). count_by is_marked (take (length os + k) (map stand os ++ by_document m stands trees))) end.are
          ∙ count_past end.before t.item (by_document m stands trees) k none in
          record {
            marked = more.marked;
            at = ap (slice_get (t ∷ trees)) many ∙ more.at;
            tree = ap (λ n. tree_of (get_or (by_document m any_object (t ∷ trees)) n no_object)) (sum ∙ ap (λ n. n + k) (sym (length-map block (any_object t.live))))
                ∙ ap tree_of (high_at (map (any_object t.live) block) (by_document m any_object trees) k no_object)
                ∙ more.tree;
            live = ap (λ n. get_or (by_document m live_mark (t ∷ trees)) n false) (sum ∙ ap (λ n. n + k) (sym (length-map block (live_mark t.live))))
                ∙ high_at (map (live_mark t.live) block) (by_document m live_mark trees) k false
                ∙ more.live;
            at_root = λ zero_scope. object_behind ∙ more.at_root (sym (ap scope object_behind) ∙ zero_scope);
          }
        where
          object_behind : get_or (by_document m any_object (t ∷ trees)) doc no_object ≡ get_or (by_document m any_object trees) (doc - length block) no_object
          object_behind =
              ap (λ n. get_or (by_document m any_object (t ∷ trees)) n no_object) (let sum : doc ≡ length block + (doc - length block) = omega (arith, behind) in sum ∙ ap (λ n. n + (doc - length block)) (sym (length-map block (any_object t.live))))
              ∙ high_at (map (any_object t.live) block) (by_document m any_object trees) (doc - length block) no_object

  pub in_tree : (trees : Seq (Marked Tree)) (doc : ℕ) → doc < length (objects_in m trees) → IsInTree m trees doc
  in_tree trees doc low =
      let it = found trees doc low in
      record {
        marked = it.marked;
        at = ap (λ flags. slice_get trees (count_by is_marked (take doc flags))) (flags_are m trees) ∙ it.at;
        tree = it.tree;
        live = it.live;
        at_root = it.at_root;
      }

-- ---- scopes, and how many documents there are

scope_in : FlatDocument → ℕ
scope_in d = d.scope

pub scopes_are : (m : Mapping) (c : Columns) (bits : LiveState) (trees : Seq (Marked Tree)) → EntryStandsFor m c bits trees → map (λ (d : FlatDocument). d.scope) (flats_of c) ≡ scopes_of m trees
scopes_are m c bits trees stands = ap (map (λ (d : FlatDocument). d.scope)) stands.flats ∙ by trees
  where
    one : (live : Bool) (os : Seq Object) (more : Seq FlatDocument) (scopes : Seq ℕ) → map (λ (d : FlatDocument). d.scope) more ≡ scopes → map (λ (d : FlatDocument). d.scope) (map (flat_at m live) os ++ more) ≡ map (scope_mark live) os ++ scopes
    one live [] more scopes rest = rest
    one live (o ∷ os) more scopes rest = ap (λ (l : Seq ℕ). scope o ∷ l) (one live os more scopes rest)

    by : (trees : Seq (Marked Tree)) → map (λ (d : FlatDocument). d.scope) (by_document m (flat_at m) trees) ≡ scopes_of m trees
    by [] = refl
    by (t ∷ trees) = one t.live (block_objects m t.item) (by_document m (flat_at m) trees) (scopes_of m trees) (by trees)

pub objects_count : (m : Mapping) (c : Columns) (bits : LiveState) (trees : Seq (Marked Tree)) → EntryStandsFor m c bits trees → length (objects_in m trees) ≡ c.documents
objects_count m c bits trees stands = same trees ∙ sym (ap length stands.flats) ∙ length-map-range_with_len (flat_of c) 0 c.documents
  where
    same : (trees : Seq (Marked Tree)) → length (by_document m any_object trees) ≡ length (by_document m (flat_at m) trees)
    same [] = refl
    same (t ∷ trees) =
        length-append (map (any_object t.live) (block_objects m t.item)) (by_document m any_object trees)
        ∙ ap (λ n. n + length (by_document m any_object trees)) (length-map (block_objects m t.item) (any_object t.live) ∙ sym (length-map (block_objects m t.item) (flat_at m t.live)))
        ∙ ap (λ n. length (map (flat_at m t.live) (block_objects m t.item)) + n) (same trees)
        ∙ sym (length-append (map (flat_at m t.live) (block_objects m t.item)) (by_document m (flat_at m) trees))
