-- From the documents of a segment to the objects of the trees that it stands for.
use Rattle.std.proofs.Common.{◌≡◌, ℕ, ◌+◌, Bool, false, List, [], ◌∷◌, ◌++◌, length, map, filter, All, refl, sym, ap, subst, ◌∙◌, inl, inr, arith, length-append, get_or-append-add}
use Rattle.std.proofs.lemmas.Bool.{cases_Bool}
use Rattle.std.proofs.lemmas.List.{map-append, get_or_append_left}
use Rattle.std.proofs.lemmas.List.Elements.{All-head, All-tail}
use Rattle.mapping.specs.Mapping.{Mapping}
use Rattle.segment.specs.Flat.{FlatDocument, FlatRoot, flats_of, roots_of}
use Rattle.segment.specs.Live.{LiveState}
use Rattle.segment_parts.specs.declared.columns.Columns.{Columns}
use Rattle.tree_objects.specs.Enclosing.{stands_at}
use Rattle.tree_objects.specs.Object.{Object, root, block_objects}
use Rattle.tree_objects.specs.Tree.{Tree}
use Rattle.flattener.specs.Flat.{flat_of}
use Rattle.leaf_search.specs.Found.{found}
use Rattle.leaf_search.specs.Sets.{cut, root_marks}
use Rattle.flattener.specs.Block.{root_of_tree}
use Rattle.flattener.specs.StandsFor.{Marked, by_document, flat_at, live_mark, EntryStandsFor}

-- what an object says, whatever its tree's mark
abbrev pub at_object : (Object → Bool) → Bool → Object → Bool
at_object holds live o = holds o

module _ {X : Type 0} (P : X → Type 0) where
  all_left : (xs ys : List X) → All P (xs ++ ys) → All P xs
  all_left xs ys all = λ k d below. subst P (get_or_append_left xs ys d k below) (all k d (omega (arith, below, length-append xs ys)))

  all_right : (xs ys : List X) → All P (xs ++ ys) → All P ys
  all_right xs ys all = λ k d below. subst P (get_or-append-add xs ys k d) (all (length xs + k) d (omega (arith, below, length-append xs ys)))

module _ (m : Mapping) where
  -- ---- marks

  module _ (P : FlatDocument → Type 0) (test : FlatDocument → Bool) (holds : Object → Bool) (same : (o : Object) → P (flat_of m o) → test (flat_of m o) ≡ holds o) where
    mark_objects : (live : Bool) (os : List Object) → All P (map (flat_at m live) os) → map test (map (flat_at m live) os) ≡ map (at_object holds live) os
    mark_objects live [] all = refl
    mark_objects live (o ∷ os) all = rw (same o (All-head P (flat_of m o) (map (flat_at m live) os) all), mark_objects live os (All-tail P (flat_of m o) (map (flat_at m live) os) all)) refl

    pub mark_trees : (ts : List (Marked Tree)) → All P (by_document m (flat_at m) ts) → map test (by_document m (flat_at m) ts) ≡ by_document m (at_object holds) ts
    mark_trees [] all = refl
    mark_trees (t ∷ ts) all =
        let own : List FlatDocument = map (flat_at m t.live) (block_objects m t.item) in
        let rest : List FlatDocument = by_document m (flat_at m) ts in
        map-append test own rest
        ∙ ap (λ (l : List Bool). l ++ map test rest) (mark_objects t.live (block_objects m t.item) (all_left P own rest all))
        ∙ ap (λ (l : List Bool). map (at_object holds t.live) (block_objects m t.item) ++ l) (mark_trees ts (all_right P own rest all))

  -- ---- the cut

  cut_objects : (n : ℕ) (holds : Object → Bool) (live : Bool) (os : List Object) (marks lives : List Bool) (flats : List FlatDocument)
      → cut n (map (at_object holds live) os ++ marks) (map (live_mark live) os ++ lives) (map (flat_at m live) os ++ flats) ≡ map (found n holds live) os ++ cut n marks lives flats
  cut_objects n holds live [] marks lives flats = refl
  cut_objects n holds live (o ∷ os) marks lives flats = ap (λ (l : List Bool). found n holds live o ∷ l) (cut_objects n holds live os marks lives flats)

  pub cut_trees : (n : ℕ) (holds : Object → Bool) (ts : List (Marked Tree)) → cut n (by_document m (at_object holds) ts) (by_document m live_mark ts) (by_document m (flat_at m) ts) ≡ by_document m (found n holds) ts
  cut_trees n holds [] = refl
  cut_trees n holds (t ∷ ts) =
      cut_objects n holds t.live (block_objects m t.item) (by_document m (at_object holds) ts) (by_document m live_mark ts) (by_document m (flat_at m) ts)
      ∙ ap (λ (l : List Bool). map (found n holds t.live) (block_objects m t.item) ++ l) (cut_trees n holds ts)

  -- ---- roots

  module _ (test : FlatRoot → Bool) (holds : Object → Bool) (at_root : (t : Tree) → test (root_of_tree m t) ≡ holds (root t)) (elsewhere : (o : Object) → stands_at 0 o ≡ false → holds o ≡ false) where
    no_root_marks : (live : Bool) (os : List Object) → filter (stands_at 0) os ≡ [] → (roots : List FlatRoot) (flats : List FlatDocument) → root_marks test roots (map (flat_at m live) os ++ flats) ≡ map (at_object holds live) os ++ root_marks test roots flats
    no_root_marks live [] none roots flats = refl
    no_root_marks live (o ∷ os) none roots flats = elim (cases_Bool (stands_at 0 o)) [
      | inl here ↦ absurd (let some : o ∷ filter (stands_at 0) os ≡ [] = rw here at none in let no : ⊥ = cc in no)
      | inr other ↦ passed live o os roots flats other (no_root_marks live os (rw other at none) roots flats)
    ]
      where
        passed : (live : Bool) (o : Object) (os : List Object) (roots : List FlatRoot) (flats : List FlatDocument) → stands_at 0 o ≡ false → root_marks test roots (map (flat_at m live) os ++ flats) ≡ map (at_object holds live) os ++ root_marks test roots flats
            → root_marks test roots (map (flat_at m live) (o ∷ os) ++ flats) ≡ map (at_object holds live) (o ∷ os) ++ root_marks test roots flats
        passed live o os [] flats other rest = rw (elsewhere o other) (ap (λ (l : List Bool). false ∷ l) rest)
        passed live o os (r ∷ roots) flats other rest = rw (other, elsewhere o other) (ap (λ (l : List Bool). false ∷ l) rest)

    root_objects : (live : Bool) (t : Tree) (os : List Object) → filter (stands_at 0) os ≡ root t ∷ [] → (roots : List FlatRoot) (flats : List FlatDocument) → root_marks test (root_of_tree m t ∷ roots) (map (flat_at m live) os ++ flats) ≡ map (at_object holds live) os ++ root_marks test roots flats
    root_objects live t [] one roots flats = absurd (let no : ⊥ = cc in no)
    root_objects live t (o ∷ os) one roots flats = elim (cases_Bool (stands_at 0 o)) [
      | inl here ↦
          let first : o ∷ filter (stands_at 0) os ≡ root t ∷ [] = rw here at one in
          let own : o ≡ root t = cc in
          let none : filter (stands_at 0) os ≡ [] = cc in
          let says : test (root_of_tree m t) ≡ holds o = at_root t ∙ ap holds (sym own) in
          rw here (rw says (ap (λ (l : List Bool). holds o ∷ l) (no_root_marks live os none roots flats)))
      | inr other ↦
          rw (other, elsewhere o other) (ap (λ (l : List Bool). false ∷ l) (root_objects live t os (rw other at one) roots flats))
    ]

    pub root_trees : ((t : Tree) → filter (stands_at 0) (block_objects m t) ≡ root t ∷ []) → (ts : List (Marked Tree))
        → root_marks test (map (λ (t : Marked Tree). root_of_tree m t.item) ts) (by_document m (flat_at m) ts) ≡ by_document m (at_object holds) ts
    root_trees one [] = refl
    root_trees one (t ∷ ts) =
        root_objects t.live t.item (block_objects m t.item) (one t.item) (map (λ (t : Marked Tree). root_of_tree m t.item) ts) (by_document m (flat_at m) ts)
        ∙ ap (λ (l : List Bool). map (at_object holds t.live) (block_objects m t.item) ++ l) (root_trees one ts)

-- ---- an entry

pub entry_found : (m : Mapping) (c : Columns) (live : LiveState) (ts : List (Marked Tree)) (n : ℕ) (P : FlatDocument → Type 0) (test : FlatDocument → Bool) (holds : Object → Bool)
    → EntryStandsFor m c live ts → All P (flats_of c) → ((o : Object) → P (flat_of m o) → test (flat_of m o) ≡ holds o) → cut n (map test (flats_of c)) live.docs (flats_of c) ≡ by_document m (found n holds) ts
entry_found m c live ts n P test holds e all same =
    let trees : List FlatDocument = by_document m (flat_at m) ts in
    ap (λ (flats : List FlatDocument). cut n (map test flats) live.docs flats) e.flats
    ∙ ap (λ (lives : List Bool). cut n (map test trees) lives trees) e.live
    ∙ ap (λ (marks : List Bool). cut n marks (by_document m live_mark ts) trees) (mark_trees m P test holds same ts (subst (All P) e.flats all))
    ∙ cut_trees m n holds ts

pub entry_roots : (m : Mapping) (c : Columns) (live : LiveState) (ts : List (Marked Tree)) (n : ℕ) (test : FlatRoot → Bool) (holds : Object → Bool)
    → EntryStandsFor m c live ts → ((t : Tree) → filter (stands_at 0) (block_objects m t) ≡ root t ∷ []) → ((t : Tree) → test (root_of_tree m t) ≡ holds (root t)) → ((o : Object) → stands_at 0 o ≡ false → holds o ≡ false)
    → cut n (root_marks test (roots_of c) (flats_of c)) live.docs (flats_of c) ≡ by_document m (found n holds) ts
entry_roots m c live ts n test holds e one at_root elsewhere =
    let trees : List FlatDocument = by_document m (flat_at m) ts in
    ap (λ (flats : List FlatDocument). cut n (root_marks test (roots_of c) flats) live.docs flats) e.flats
    ∙ ap (λ (lives : List Bool). cut n (root_marks test (roots_of c) trees) lives trees) e.live
    ∙ ap (λ (roots : List FlatRoot). cut n (root_marks test roots trees) (by_document m live_mark ts) trees) e.roots
    ∙ ap (λ (marks : List Bool). cut n marks (by_document m live_mark ts) trees) (root_trees m test holds at_root elsewhere one ts)
    ∙ cut_trees m n holds ts
