-- Sets made of what a segment shows are what leaves find.
use Rattle.std.proofs.Common.{◌≡◌, ◌≢◌, ℕ, Bool, true, false, ◌&&◌, List, [], ◌∷◌, length, map, filter, replicate, All, Option, Some, None, IsTrue, refl, sym, ap, subst, ◌∙◌, inl, inr, nat_lt}
use Rattle.std.specs.List.{list_any, AllByRecursion, flat_map}
use Rattle.std.specs.Str.{bytes_eq}
use Rattle.std.specs.Prelude.{is_some}
use Rattle.std.proofs.lemmas.Bool.{cases_Bool, cond-true, cond-false, lt-ltb}
use Rattle.std.proofs.lemmas.List.{length-replicate, length-map}
use Rattle.std.proofs.lemmas.List.Elements.{All-cons, All-nil, All-from_recursion}
use Rattle.std.proofs.lemmas.List.FromFn.{length-map-range_with_len}
use Rattle.mapping.specs.IsMapping.{IsMapping}
use Rattle.mapping.specs.Mapping.{Mapping, kind_at}
use Rattle.query_ast.specs.Clause.{Test, is_among, is_between, exists, begins_with, has_words, has_phrase, Leaf, match_all, match_none, ids, on_field, parent_id}
use Rattle.query_ast.specs.Compare.{is_same_value}
use Rattle.query_ast.specs.Joined.{has_relation, names_parent}
use Rattle.query_ast.specs.Leaf.{field_exists, has_phrase_in, words_are_shown, leaf_holds, begins as value_begins, is_text as is_text_kind, lies_between, terms_of, words_in}
use Rattle.query_ast.specs.Resolved.{IsLeaf, IsText}
use Rattle.query_ast.specs.Uses.{IsValueOf, uses_of}
use Rattle.mapping_body.specs.declared.kind.Kind.{Kind}
use Rattle.mapping_body.specs.declared.kind.Kind.TheVariants.{Text, Keyword, Long, Boolean, Date, Object as Plain, Nested, Join}
use Rattle.query_ast.specs.declared.query.RangeEnd.{RangeEnd}
use Rattle.segment.specs.Flat.{FlatDocument, FlatRoot, flat_of as flat_at_doc, flats_of, roots_of}
use Rattle.segment.specs.Live.{LiveState, IsLiveOver}
use Rattle.segment_parts.specs.declared.columns.Columns.{Columns}
use Rattle.tree_objects.specs.Enclosing.{stands_at}
use Rattle.tree_objects.specs.Object.{Object, root, block_objects, tree_of}
use Rattle.tree_objects.specs.Tree.{Tree}
use Rattle.tree_objects.specs.Values.{values, join_of}
use Rattle.tree_objects.specs.declared.field_value.FieldValue.{FieldValue}
use Rattle.flattener.specs.Flat.{flat_of, is_text}
use Rattle.leaf_search.specs.Found.{Finds}
use Rattle.leaf_search.specs.Keys.{FitsKey, EndFits, key_of, begins, has_value_of, has_one_of, lies_within}
use Rattle.leaf_search.specs.Roots.{is_child_of, is_joined, root_passes}
use Rattle.leaf_search.specs.declared.roots.RootTest.{RootTest}
use Rattle.leaf_search.specs.Values.{known_field, shows_part, shows_value}
use Rattle.leaf_search.specs.Words.{shows_phrase, shows_words}
use Rattle.leaf_search.specs.Sets.{Gains, Made, MadeOfRoots, cut, root_marks}
use Rattle.segment.specs.Shows.{has_term}
use Rattle.flattener.specs.Block.{root_of_tree}
use Rattle.leaf_search.proofs.Cutting.{all_flats}
use Rattle.leaf_search.proofs.Gaining.{gained}
use Rattle.leaf_search.proofs.Holds.{child_kept, joined_kept, not_root, part_exists, phrase_shown, value_exists}
use Rattle.leaf_search.proofs.Rooted.{length_roots}
use Rattle.leaf_search.proofs.Shown.{IsOf, values_are}
use Rattle.leaf_search.proofs.Phrasing.{length_cut, none_left}
use Rattle.leaf_search.proofs.Queries.{KeysAreOrdered, OfKind, among_shown, range_agrees, start_agrees, value_shown, words_shown}
use Rattle.leaf_search.proofs.TermShown.{Fit, term_shown, own_terms}
use Rattle.leaf_search.proofs.Tests.{or_false}
use Rattle.leaf_search.proofs.Trees.{entry_found, entry_roots}

-- ---- sets that are made

pub made_of : (c : Columns) (live : LiveState) (n : ℕ) (test : FlatDocument → Bool) (marks set : List Bool) → length live.docs ≡ c.documents → marks ≡ map test (flats_of c) → set ≡ cut n marks live.docs (flats_of c) → Made c live n test set
made_of c live n test marks set lives marked is =
    let many : length (flats_of c) ≡ c.documents = length-map-range_with_len (flat_at_doc c) 0 c.documents in
    let tests : length (map test (flats_of c)) ≡ c.documents = length-map (flats_of c) test ∙ many in
    let own : set ≡ cut n (map test (flats_of c)) live.docs (flats_of c) = is ∙ ap (λ (l : List Bool). cut n l live.docs (flats_of c)) marked in
    record {
      long = ap length own ∙ length_cut n (map test (flats_of c)) live.docs (flats_of c) (lives ∙ sym tests) (many ∙ sym tests) ∙ tests;
      is = own;
    }

pub made_by : (c : Columns) (live : LiveState) (n : ℕ) (test : FlatDocument → Bool) (marks set : List Bool) → length live.docs ≡ c.documents → Gains c test (replicate c.documents false) marks → set ≡ cut n marks live.docs (flats_of c) → Made c live n test set
made_by c live n test marks set lives gains is = made_of c live n test marks set lives (gained c test marks gains) is

-- as a function makes it: from an empty set
pub made_from : (c : Columns) (live : LiveState) (n : ℕ) (test : FlatDocument → Bool) (documents : ℕ) (empty marks set : List Bool) → IsLiveOver c live → documents ≡ c.documents → empty ≡ replicate documents false
    → Gains c test empty marks → set ≡ cut n marks live.docs (flats_of c) → Made c live n test set
made_from c live n test documents empty marks set over many none gains is =
    made_by c live n test marks set over.documents (subst (λ (old : List Bool). Gains c test old marks) (none ∙ ap (λ (k : ℕ). replicate k false) many) gains) is

full_marks : (flats : List FlatDocument) → replicate (length flats) true ≡ map (λ (d : FlatDocument). true) flats
full_marks [] = refl
full_marks (d ∷ flats) = ap (λ (l : List Bool). true ∷ l) (full_marks flats)

not_text : (kind : Kind) → kind ≢ Text → is_text_kind kind ≡ false
not_text Text other = absurd (other refl)
not_text Keyword other = refl
not_text Long other = refl
not_text Boolean other = refl
not_text Date other = refl
not_text Plain other = refl
not_text Nested other = refl
not_text Join other = refl

-- a tree has one root
abbrev pub OneRoot : Type 0
OneRoot = (m : Mapping) (tree : Tree) → IsMapping m → filter (stands_at 0) (block_objects m tree) ≡ root tree ∷ []

pub roots_made : (c : Columns) (live : LiveState) (n : ℕ) (test : FlatRoot → Bool) (marks set : List Bool) → IsLiveOver c live → marks ≡ root_marks test (roots_of c) (flats_of c) → set ≡ cut n marks live.docs (flats_of c) → MadeOfRoots c live n test set
roots_made c live n test marks set over marked is =
    let many : length (flats_of c) ≡ c.documents = length-map-range_with_len (flat_at_doc c) 0 c.documents in
    let rooted : length (root_marks test (roots_of c) (flats_of c)) ≡ c.documents = length_roots test (roots_of c) (flats_of c) ∙ many in
    let own : set ≡ cut n (root_marks test (roots_of c) (flats_of c)) live.docs (flats_of c) = is ∙ ap (λ (l : List Bool). cut n l live.docs (flats_of c)) marked in
    record {
      long = ap length own ∙ length_cut n (root_marks test (roots_of c) (flats_of c)) live.docs (flats_of c) (over.documents ∙ sym rooted) (many ∙ sym rooted) ∙ rooted;
      is = own;
    }

pub marks_long : (c : Columns) (test : FlatDocument → Bool) (marks : List Bool) → marks ≡ map test (flats_of c) → length marks ≡ c.documents
marks_long c test marks is = ap length is ∙ length-map (flats_of c) test ∙ length-map-range_with_len (flat_at_doc c) 0 c.documents

pub root_marks_long : (c : Columns) (test : FlatRoot → Bool) (marks : List Bool) → marks ≡ root_marks test (roots_of c) (flats_of c) → length marks ≡ c.documents
root_marks_long c test marks is = ap length is ∙ length_roots test (roots_of c) (flats_of c) ∙ length-map-range_with_len (flat_at_doc c) 0 c.documents

-- the field that was asked for, where the mapping has it
pub known_is : (m : Mapping) (field : Option ℕ) (own : ℕ) → known_field m field ≡ Some own → field ≡ Some own
known_is m None own e = absurd (let no : ⊥ = cc in no)
known_is m (Some f) own e = elim (cases_Bool (nat_lt f (length m.fields))) [
  | inl has ↦ let found : Some f ≡ Some own = rw has at e in found
  | inr past ↦ absurd (let none : None ≡ Some own = rw past at e in let no : ⊥ = cc in no)
]

-- ---- what leaves find

-- a range is asked of no text
never_ranged : (kind : Kind) → IsTrue (uses_of kind).ranged → is_text_kind kind ≡ false
never_ranged Text ranged = absurd (let no : ⊥ = cc in no)
never_ranged Keyword ranged = refl
never_ranged Long ranged = refl
never_ranged Boolean ranged = refl
never_ranged Date ranged = refl
never_ranged Plain ranged = refl
never_ranged Nested ranged = refl
never_ranged Join ranged = refl

module _ (c : Columns) (live : LiveState) (n : ℕ) (lives : length live.docs ≡ c.documents) (fit : (doc : ℕ) → Fit (flat_at_doc c doc)) (m : Mapping) where
  pub finds_by : (l : Leaf) (test : FlatDocument → Bool) (set : List Bool) → Made c live n test set → (IsLeaf m l → (o : Object) → Fit (flat_of m o) → test (flat_of m o) ≡ leaf_holds m l o) → Finds m c live n l set
  finds_by l test set made same = record {
    long = made.long;
    found = λ trees e is. made.is ∙ entry_found m c live trees n Fit test (leaf_holds m l) e (all_flats c Fit (λ doc below. fit doc)) (same is);
  }

  -- a leaf that holds nowhere
  pub finds_none : (l : Leaf) → ((o : Object) → leaf_holds m l o ≡ false) → Finds m c live n l (replicate c.documents false)
  finds_none l holds = record {
    long = length-replicate c.documents false;
    found = λ trees e is.
        none_left c n live.docs (λ d. false) lives (λ doc below. refl)
        ∙ entry_found m c live trees n Fit (λ d. false) (leaf_holds m l) e (all_flats c Fit (λ doc below. fit doc)) (λ o own. sym (holds o));
  }

  unmapped : (test : Test) (o : Object) → leaf_holds m (on_field None test) o ≡ false
  unfolding leaf_holds
  unmapped test o = refl

  pub finds_unmapped : (test : Test) → Finds m c live n (on_field None test) (replicate c.documents false)
  finds_unmapped test = finds_none (on_field None test) (unmapped test)

  -- ---- on any kind

  all_of : (f : ℕ) (given : List FieldValue) → AllByRecursion (IsValueOf (kind_at m f)) given → All FitsKey given → All (OfKind (kind_at m f)) given
  all_of f given own fits = λ k d below. (All-from_recursion (IsValueOf (kind_at m f)) given own k d below, fits k d below)

  among_holds : KeysAreOrdered → (f : ℕ) (given : List FieldValue) → All FitsKey given → IsLeaf m (on_field (Some f) (is_among given)) → (o : Object) → Fit (flat_of m o) → has_one_of f given (flat_of m o) ≡ leaf_holds m (on_field (Some f) (is_among given)) o
  unfolding leaf_holds
  among_holds keys f given fits is o own = among_shown keys m f o given is.0 own (all_of f given is.1.1 fits)

  pub finds_among : KeysAreOrdered → (f : ℕ) (given : List FieldValue) (set : List Bool) → All FitsKey given → Made c live n (has_one_of f given) set → Finds m c live n (on_field (Some f) (is_among given)) set
  finds_among keys f given set fits made = finds_by (on_field (Some f) (is_among given)) (has_one_of f given) set made (λ is o own. among_holds keys f given fits is o own)

  pub finds_term : KeysAreOrdered → (f : ℕ) (v : FieldValue) (set : List Bool) → FitsKey v → Made c live n (has_term f (bytes_eq (key_of v))) set → Finds m c live n (on_field (Some f) (is_among (v ∷ []))) set
  finds_term keys f v set fits made =
      let given : List FieldValue = v ∷ [] in
      finds_by (on_field (Some f) (is_among given)) (has_term f (bytes_eq (key_of v))) set made
      (λ is o own. sym (or_false (has_value_of f (flat_of m o) v)) ∙ among_holds keys f given (All-cons FitsKey v [] fits (All-nil FitsKey)) is o own)

  between_holds : KeysAreOrdered → (f : ℕ) (low high : RangeEnd) → EndFits low → EndFits high → IsLeaf m (on_field (Some f) (is_between low high)) → (o : Object) → Fit (flat_of m o) → has_term f (lies_within low high) (flat_of m o) ≡ leaf_holds m (on_field (Some f) (is_between low high)) o
  unfolding leaf_holds
  between_holds keys f low high fits fit2 is o own =
      term_shown m f o (lies_within low high) (lies_between low high) is.0 own (range_agrees keys (kind_at m f) low high is.1.1 is.1.2 fits fit2)
      ∙ ap (λ (b : Bool). list_any (lies_between low high) (flat_map (terms_of b) (values m f o))) (never_ranged (kind_at m f) is.1.0)
      ∙ own_terms (lies_between low high) (values m f o)

  pub finds_between : KeysAreOrdered → (f : ℕ) (low high : RangeEnd) (set : List Bool) → EndFits low → EndFits high → Made c live n (has_term f (lies_within low high)) set → Finds m c live n (on_field (Some f) (is_between low high)) set
  finds_between keys f low high set fits fit2 made = finds_by (on_field (Some f) (is_between low high)) (has_term f (lies_within low high)) set made (λ is o own. between_holds keys f low high fits fit2 is o own)

  start_holds : (f : ℕ) (start : List ℕ) → IsLeaf m (on_field (Some f) (begins_with start)) → (o : Object) → Fit (flat_of m o) → has_term f (begins start) (flat_of m o) ≡ leaf_holds m (on_field (Some f) (begins_with start)) o
  unfolding leaf_holds
  start_holds f start is o own = term_shown m f o (begins start) (value_begins start) is.0 own (start_agrees (kind_at m f) start is.1)

  pub finds_start : (f : ℕ) (start : List ℕ) (set : List Bool) → Made c live n (has_term f (begins start)) set → Finds m c live n (on_field (Some f) (begins_with start)) set
  finds_start f start set made = finds_by (on_field (Some f) (begins_with start)) (has_term f (begins start)) set made (λ is o own. start_holds f start is o own)

  pub finds_unmapped_from : (test : Test) (field : Option ℕ) (documents : ℕ) (set : List Bool) → field ≡ None → documents ≡ c.documents → set ≡ replicate documents false → Finds m c live n (on_field field test) set
  finds_unmapped_from test field documents set none many is =
      subst (λ (o : Option ℕ). Finds m c live n (on_field o test) set) (sym none)
      (subst (Finds m c live n (on_field None test)) (sym (is ∙ ap (λ (k : ℕ). replicate k false) many)) (finds_unmapped test))

  -- ---- whole objects

  all_hold : (o : Object) → true ≡ leaf_holds m match_all o
  unfolding leaf_holds
  all_hold o = refl

  none_holds : (o : Object) → leaf_holds m match_none o ≡ false
  unfolding leaf_holds
  none_holds o = refl

  pub finds_all : (documents : ℕ) (full set : List Bool) → documents ≡ c.documents → full ≡ replicate documents true → set ≡ cut n full live.docs (flats_of c) → Finds m c live n match_all set
  finds_all documents full set many is cuts =
      let marks : full ≡ map (λ (d : FlatDocument). true) (flats_of c) =
      is ∙ ap (λ (k : ℕ). replicate k true) (many ∙ sym (length-map-range_with_len (flat_at_doc c) 0 c.documents)) ∙ full_marks (flats_of c) in
      finds_by match_all (λ d. true) set (made_of c live n (λ d. true) full set lives marks cuts) (λ is o own. all_hold o)

  pub finds_nothing : (documents : ℕ) (set : List Bool) → documents ≡ c.documents → set ≡ replicate documents false → Finds m c live n match_none set
  finds_nothing documents set many is =
      subst (Finds m c live n match_none) (sym (is ∙ ap (λ (k : ℕ). replicate k false) many)) (finds_none match_none none_holds)

  -- ---- roots

  pub finds_roots : (l : Leaf) (test : FlatRoot → Bool) (set : List Bool) → OneRoot → MadeOfRoots c live n test set
      → (IsLeaf m l → (t : Tree) → test (root_of_tree m t) ≡ leaf_holds m l (root t)) → (IsLeaf m l → (o : Object) → stands_at 0 o ≡ false → leaf_holds m l o ≡ false) → Finds m c live n l set
  finds_roots l test set one made at_root elsewhere = record {
    long = made.long;
    found = λ trees e is. made.is ∙ entry_roots m c live trees n test (leaf_holds m l) e (λ t. one m t e.mapping) (at_root is) (elsewhere is);
  }

  id_holds : (listed : List (List ℕ)) (t : Tree) → list_any (bytes_eq (root_of_tree m t).id) listed ≡ leaf_holds m (ids listed) (root t)
  unfolding leaf_holds root_of_tree
  id_holds listed t = refl

  id_elsewhere : (listed : List (List ℕ)) (o : Object) → stands_at 0 o ≡ false → leaf_holds m (ids listed) o ≡ false
  unfolding leaf_holds
  id_elsewhere listed o other = ap (λ (b : Bool). b && list_any (bytes_eq (tree_of o).id) listed) (not_root o other)

  pub finds_ids : OneRoot → (listed : List (List ℕ)) (set : List Bool) → MadeOfRoots c live n (λ (r : FlatRoot). list_any (bytes_eq r.id) listed) set → Finds m c live n (ids listed) set
  finds_ids one listed set made = finds_roots (ids listed) (λ (r : FlatRoot). list_any (bytes_eq r.id) listed) set one made (λ is t. id_holds listed t) (λ is o other. id_elsewhere listed o other)

  child_holds : (test : RootTest) (r : ℕ) (id : List ℕ) (t : Tree) → ((own : FlatRoot) → root_passes test own ≡ is_child_of r id own.join) → root_passes test (root_of_tree m t) ≡ leaf_holds m (parent_id (Some r) id) (root t)
  unfolding leaf_holds root_of_tree
  child_holds test r id t says = says (root_of_tree m t) ∙ child_kept r id (join_of m t)

  child_elsewhere : (r : ℕ) (id : List ℕ) (o : Object) → stands_at 0 o ≡ false → leaf_holds m (parent_id (Some r) id) o ≡ false
  unfolding leaf_holds
  child_elsewhere r id o other = ap (λ (b : Bool). b && (has_relation (join_of m (tree_of o)) r && names_parent (join_of m (tree_of o)) id)) (not_root o other)

  pub finds_children : OneRoot → (test : RootTest) (r : ℕ) (id : List ℕ) (set : List Bool) → ((own : FlatRoot) → root_passes test own ≡ is_child_of r id own.join) → MadeOfRoots c live n (root_passes test) set → Finds m c live n (parent_id (Some r) id) set
  finds_children one test r id set says made = finds_roots (parent_id (Some r) id) (root_passes test) set one made (λ is t. child_holds test r id t says) (λ is o other. child_elsewhere r id o other)

  unknown_child : (id : List ℕ) (o : Object) → leaf_holds m (parent_id None id) o ≡ false
  unfolding leaf_holds
  unknown_child id o = refl

  pub finds_no_children : (child : Option ℕ) (id : List ℕ) (documents : ℕ) (set : List Bool) → child ≡ None → documents ≡ c.documents → set ≡ replicate documents false → Finds m c live n (parent_id child id) set
  finds_no_children child id documents set none many is =
      subst (λ (o : Option ℕ). Finds m c live n (parent_id o id) set) (sym none)
      (subst (Finds m c live n (parent_id None id)) (sym (is ∙ ap (λ (k : ℕ). replicate k false) many)) (finds_none (parent_id None id) (unknown_child id)))

  -- ---- by the field's kind

  -- a field that the mapping doesn't have is asked by no leaf that was resolved
  pub finds_unknown : (test : Test) (field : Option ℕ) (documents : ℕ) (set : List Bool) → None ≡ known_field m field → documents ≡ c.documents → set ≡ replicate documents false → Finds m c live n (on_field field test) set
  finds_unknown test None documents set none many is = finds_unmapped_from test None documents set refl many is
  finds_unknown test (Some f) documents set none many is = record {
    long = ap length (is ∙ ap (λ (k : ℕ). replicate k false) many) ∙ length-replicate c.documents false;
    found = λ trees e leaf. absurd (let inside : nat_lt f (length m.fields) ≡ true = lt-ltb f (length m.fields) leaf.0 in let some : None ≡ Some f = rw inside at none in let no : ⊥ = cc in no);
  }

  value_holds : (f : ℕ) → kind_at m f ≢ Plain → kind_at m f ≢ Join → IsLeaf m (on_field (Some f) exists) → (o : Object) → Fit (flat_of m o) → shows_value f (kind_at m f) (flat_of m o) ≡ leaf_holds m (on_field (Some f) exists) o
  unfolding leaf_holds
  value_holds f plain join is o own = value_exists m f o (kind_at m f) refl plain join is.0 own

  pub finds_value : (f : ℕ) (set : List Bool) → kind_at m f ≢ Plain → kind_at m f ≢ Join → Made c live n (shows_value f (kind_at m f)) set → Finds m c live n (on_field (Some f) exists) set
  finds_value f set plain join made = finds_by (on_field (Some f) exists) (shows_value f (kind_at m f)) set made (λ is o own. value_holds f plain join is o own)

  part_holds : (f : ℕ) → kind_at m f ≡ Plain → (o : Object) → Fit (flat_of m o) → shows_part m f (flat_of m o) ≡ leaf_holds m (on_field (Some f) exists) o
  unfolding leaf_holds
  part_holds f plain o own = part_exists m f o own ∙ sym (ap (λ (k : Kind). field_exists m f k o) plain)

  pub finds_part : (f : ℕ) (set : List Bool) → kind_at m f ≡ Plain → Made c live n (shows_part m f) set → Finds m c live n (on_field (Some f) exists) set
  finds_part f set plain made = finds_by (on_field (Some f) exists) (shows_part m f) set made (λ is o own. part_holds f plain o own)

  join_holds : (test : RootTest) (f : ℕ) → kind_at m f ≡ Join → ((own : FlatRoot) → root_passes test own ≡ is_joined own.join) → (t : Tree) → root_passes test (root_of_tree m t) ≡ leaf_holds m (on_field (Some f) exists) (root t)
  unfolding leaf_holds root_of_tree
  join_holds test f join says t =
      says (root_of_tree m t) ∙ joined_kept (join_of m t) ∙ sym (ap (λ (k : Kind). field_exists m f k (root t)) join)

  join_elsewhere : (f : ℕ) → kind_at m f ≡ Join → (o : Object) → stands_at 0 o ≡ false → leaf_holds m (on_field (Some f) exists) o ≡ false
  unfolding leaf_holds
  join_elsewhere f join o other =
      ap (λ (k : Kind). field_exists m f k o) join
      ∙ ap (λ (b : Bool). b && is_some (join_of m (tree_of o))) (not_root o other)

  pub finds_joined : OneRoot → (test : RootTest) (f : ℕ) (set : List Bool) → kind_at m f ≡ Join → ((own : FlatRoot) → root_passes test own ≡ is_joined own.join) → MadeOfRoots c live n (root_passes test) set → Finds m c live n (on_field (Some f) exists) set
  finds_joined one test f set join says made = finds_roots (on_field (Some f) exists) (root_passes test) set one made (λ is t. join_holds test f join says t) (λ is o other. join_elsewhere f join o other)

  -- ---- words

  words_hold : (f : ℕ) (v : FieldValue) (all : Bool) (asked : List (List ℕ)) → kind_at m f ≡ Text → asked ≡ words_in v → IsLeaf m (on_field (Some f) (has_words v all)) → (o : Object) → shows_words all f asked (flat_of m o) ≡ leaf_holds m (on_field (Some f) (has_words v all)) o
  unfolding leaf_holds
  words_hold f v all asked text is leaf o =
      let kind : is_text_kind (kind_at m f) ≡ true = ap is_text_kind text in
      words_shown m f o all asked leaf.0 kind
      ∙ ap (λ (ws : List (List ℕ)). words_are_shown all ws (flat_map words_in (values m f o))) is
      ∙ sym (cond-true (is_text_kind (kind_at m f)) (words_are_shown all (words_in v) (flat_map words_in (values m f o))) (list_any (is_same_value v) (values m f o)) kind)

  pub finds_words : (f : ℕ) (v : FieldValue) (all : Bool) (asked : List (List ℕ)) (set : List Bool) → kind_at m f ≡ Text → (IsText v → asked ≡ words_in v) → Made c live n (shows_words all f asked) set → Finds m c live n (on_field (Some f) (has_words v all)) set
  finds_words f v all asked set text says made = finds_by (on_field (Some f) (has_words v all)) (shows_words all f asked) set made (λ is o fits. words_hold f v all asked text (says is.1.2) is o)

  word_value_holds : KeysAreOrdered → (f : ℕ) (v : FieldValue) (all : Bool) → kind_at m f ≢ Text → FitsKey v → IsLeaf m (on_field (Some f) (has_words v all)) → (o : Object) → Fit (flat_of m o) → has_value_of f (flat_of m o) v ≡ leaf_holds m (on_field (Some f) (has_words v all)) o
  unfolding leaf_holds
  word_value_holds keys f v all other fits leaf o own =
      let kind : is_text_kind (kind_at m f) ≡ false = not_text (kind_at m f) other in
      value_shown keys m f o v leaf.0 own leaf.1.1 fits kind
      ∙ sym (cond-false (is_text_kind (kind_at m f)) (words_are_shown all (words_in v) (flat_map words_in (values m f o))) (list_any (is_same_value v) (values m f o)) kind)

  pub finds_word_value : KeysAreOrdered → (f : ℕ) (v : FieldValue) (all : Bool) (set : List Bool) → kind_at m f ≢ Text → FitsKey v → Made c live n (has_term f (bytes_eq (key_of v))) set → Finds m c live n (on_field (Some f) (has_words v all)) set
  finds_word_value keys f v all set other fits made = finds_by (on_field (Some f) (has_words v all)) (has_term f (bytes_eq (key_of v))) set made (λ is o own. word_value_holds keys f v all other fits is o own)

  phrase_holds : (f : ℕ) (v : FieldValue) (asked : List (List ℕ)) → kind_at m f ≡ Text → asked ≡ words_in v → IsLeaf m (on_field (Some f) (has_phrase v)) → (o : Object) → shows_phrase f asked (flat_of m o) ≡ leaf_holds m (on_field (Some f) (has_phrase v)) o
  unfolding leaf_holds
  phrase_holds f v asked text is leaf o =
      let kind : is_text_kind (kind_at m f) ≡ true = ap is_text_kind text in
      phrase_shown m f o leaf.0 (ap is_text text) asked (subst (λ (k : Kind). All (IsOf k) (values m f o)) text (values_are m f o))
      ∙ ap (λ (ws : List (List ℕ)). list_any (has_phrase_in ws) (values m f o)) is
      ∙ sym (cond-true (is_text_kind (kind_at m f)) (list_any (has_phrase_in (words_in v)) (values m f o)) (list_any (is_same_value v) (values m f o)) kind)

  pub finds_phrase : (f : ℕ) (v : FieldValue) (asked : List (List ℕ)) (set : List Bool) → kind_at m f ≡ Text → (IsText v → asked ≡ words_in v) → Made c live n (shows_phrase f asked) set → Finds m c live n (on_field (Some f) (has_phrase v)) set
  finds_phrase f v asked set text says made = finds_by (on_field (Some f) (has_phrase v)) (shows_phrase f asked) set made (λ is o fits. phrase_holds f v asked text (says is.1.2) is o)

  phrase_value_holds : KeysAreOrdered → (f : ℕ) (v : FieldValue) → kind_at m f ≢ Text → FitsKey v → IsLeaf m (on_field (Some f) (has_phrase v)) → (o : Object) → Fit (flat_of m o) → has_value_of f (flat_of m o) v ≡ leaf_holds m (on_field (Some f) (has_phrase v)) o
  unfolding leaf_holds
  phrase_value_holds keys f v other fits leaf o own =
      let kind : is_text_kind (kind_at m f) ≡ false = not_text (kind_at m f) other in
      value_shown keys m f o v leaf.0 own leaf.1.1 fits kind
      ∙ sym (cond-false (is_text_kind (kind_at m f)) (list_any (has_phrase_in (words_in v)) (values m f o)) (list_any (is_same_value v) (values m f o)) kind)

  pub finds_phrase_value : KeysAreOrdered → (f : ℕ) (v : FieldValue) (set : List Bool) → kind_at m f ≢ Text → FitsKey v → Made c live n (has_term f (bytes_eq (key_of v))) set → Finds m c live n (on_field (Some f) (has_phrase v)) set
  finds_phrase_value keys f v set other fits made = finds_by (on_field (Some f) (has_phrase v)) (has_term f (bytes_eq (key_of v))) set made (λ is o own. phrase_value_holds keys f v other fits is o own)
