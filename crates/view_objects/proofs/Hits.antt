-- Documents with scores are the objects that they stand for.
use Rattle.std.proofs.Common.{◌≡◌, ℕ, ◌+◌, ◌==◌, List as Seq, [], ◌∷◌, ◌++◌, length, map, filter, get_or, Bool, true, false, Option, Some, None, refl, sym, ap, ◌∙◌, append_assoc}
use Rattle.std.proofs.Math.Seq.{get_or-append_seam}
use Rattle.std.proofs.lemmas.List.{append-nil, length-append, map-append}
use Rattle.std.proofs.lemmas.List.Concat.{flat_map-append}
use Rattle.std.proofs.lemmas.List.Elements.{filter_map-append}
use Rattle.std.specs.List.{filter_map, cons_option}
use Rattle.std.specs.Option.{option_map}
use Rattle.flattener.specs.StandsFor.{Marked, by_document}
use Rattle.mapping.specs.Mapping.{Mapping}
use Rattle.query_ast.specs.Joined.{roots}
use Rattle.tree_joins.specs.Seen.{at_scope, if_live, scored, seen}
use Rattle.tree_objects.specs.Enclosing.{stands_at}
use Rattle.tree_objects.specs.Object.{Object, root, scope, block_objects}
use Rattle.tree_objects.specs.Tree.{Tree}
use Rattle.view_objects.specs.declared.hit.Hit.{Hit}
use Rattle.view_objects.specs.Hits.{any_object, hit_if, hit_object, hits_from, hits_of, live_in, live_objects, live_trees, no_object, objects_in}

pub by_test : {G : Type 0} (t : Bool) → (t ≡ true → G) → (t ≡ false → G) → G
by_test true held failed = held refl
by_test false held failed = failed refl

pub map_map : {A B C : Type 0} (g : B → C) (f : A → B) (xs : Seq A) → map g (map f xs) ≡ map (λ x. g (f x)) xs
map_map g f [] = refl
map_map g f (x ∷ xs) = ap (λ zs. g (f x) ∷ zs) (map_map g f xs)

-- a document: whether its tree is live, and its object
abbrev pub Document : Type 0
Document = Bool × Object

abbrev pub document : Bool → Object → Document
document live o = (live, o)

abbrev pub object_of : Document → Object
object_of d = d.1

-- what a list of objects has at a document, with the document's score
abbrev pub read_in : Seq Object → Hit → Object × ℕ
read_in objects hit = (get_or objects hit.doc no_object, hit.score)

first_read : (objects : Seq Object) (o : Object) (place doc : ℕ) (score : Option ℕ) (hits : Seq Hit) → get_or objects doc no_object ≡ o
    → map (read_in objects) (hit_if place doc score ++ hits) ≡ cons_option (option_map (λ s. (o, s)) score) (map (read_in objects) hits)
first_read objects o place doc None hits here = refl
first_read objects o place doc (Some s) hits here = ap (λ x. (x, s) ∷ map (read_in objects) hits) here

one_longer : {A : Type 0} (xs : Seq A) (x : A) (k : ℕ) → length xs ≡ k → length (xs ++ x ∷ []) ≡ k + 1
one_longer xs x k same = length-append xs (x ∷ []) ∙ ap (λ n. n + 1) same

module _ (m : Mapping) where
  pub documents_of : Seq (Marked Tree) → Seq Document
  documents_of trees = by_document m document trees

  pub documents_are : {A : Type 0} (f : Bool → Object → A) (trees : Seq (Marked Tree)) → by_document m f trees ≡ map (λ (d : Document). f d.0 d.1) (documents_of trees)
  unfolding documents_of
  documents_are f [] = refl
  documents_are f (t ∷ trees) =
      ap (λ zs. map (f t.live) (block_objects m t.item) ++ zs) (documents_are f trees)
      ∙ ap (λ zs. zs ++ map (λ (d : Document). f d.0 d.1) (documents_of trees)) (sym (map_map (λ (d : Document). f d.0 d.1) (document t.live) (block_objects m t.item)))
      ∙ sym (map-append (λ (d : Document). f d.0 d.1) (map (document t.live) (block_objects m t.item)) (documents_of trees))

  module _ (n : ℕ) (given : Object → Option ℕ) where
    abbrev pub told : Document → Option ℕ
    told d = if_live (at_scope n given) d.0 d.1

    abbrev pub chosen : Document → Option (Object × ℕ)
    chosen d = option_map (λ s. (d.1, s)) (told d)

    -- ---- one entry

    pub entry_hits : (objects before after : Seq Object) (place doc : ℕ) (ds : Seq Document) → length before ≡ doc → objects ≡ before ++ (map object_of ds ++ after)
        → map (read_in objects) (hits_from place doc (map told ds)) ≡ filter_map chosen ds
    entry_hits objects before after place doc [] long same = refl
    entry_hits objects before after place doc (d ∷ ds) long same =
        let here : get_or objects doc no_object ≡ d.1 =
        ap (λ xs. get_or xs doc no_object) same
        ∙ ap (λ k. get_or (before ++ d.1 ∷ (map object_of ds ++ after)) k no_object) (sym long)
        ∙ get_or-append_seam before d.1 (map object_of ds ++ after) no_object in
        first_read objects d.1 place doc (told d) (hits_from place (doc + 1) (map told ds)) here
        ∙ ap (cons_option (chosen d)) (entry_hits objects (before ++ d.1 ∷ []) after place (doc + 1) ds (one_longer before d.1 doc long) (same ∙ sym (append_assoc before (d.1 ∷ []) (map object_of ds ++ after))))

    -- the objects of a live tree that are given something, and of a dead one none
    of_live : (os : Seq Object) → filter_map chosen (map (document true) os) ≡ filter_map (scored given) (filter (stands_at n) os)
    of_live [] = refl
    of_live (o ∷ os) =
        by_test (scope o == n)
        (λ held. rw held (ap (cons_option (scored given o)) (of_live os)))
        (λ failed. rw failed (of_live os))

    of_dead : (os : Seq Object) → filter_map chosen (map (document false) os) ≡ []
    of_dead [] = refl
    of_dead (o ∷ os) = of_dead os

    tree_chosen : (live : Bool) (tree : Tree) (trees : Seq (Marked Tree)) → filter_map chosen (documents_of trees) ≡ filter_map (scored given) (live_objects m n (live_in trees))
        → filter_map chosen (documents_of (record { item = tree; live = live } ∷ trees)) ≡ filter_map (scored given) (live_objects m n (live_in (record { item = tree; live = live } ∷ trees)))
    unfolding documents_of
    tree_chosen true tree trees more =
        filter_map-append chosen (map (document true) (block_objects m tree)) (documents_of trees)
        ∙ ap (λ zs. zs ++ filter_map chosen (documents_of trees)) (of_live (block_objects m tree))
        ∙ ap (λ zs. filter_map (scored given) (filter (stands_at n) (block_objects m tree)) ++ zs) more
        ∙ sym (filter_map-append (scored given) (filter (stands_at n) (block_objects m tree)) (live_objects m n (live_in trees)))
    tree_chosen false tree trees more =
        filter_map-append chosen (map (document false) (block_objects m tree)) (documents_of trees)
        ∙ ap (λ zs. zs ++ filter_map chosen (documents_of trees)) (of_dead (block_objects m tree))
        ∙ more

    all_chosen : (trees : Seq (Marked Tree)) → filter_map chosen (documents_of trees) ≡ filter_map (scored given) (live_objects m n (live_in trees))
    unfolding documents_of
    all_chosen [] = refl
    all_chosen (t ∷ trees) = tree_chosen t.live t.item trees (all_chosen trees)

    entry_found : (place : ℕ) (trees : Seq (Marked Tree)) → map (read_in (objects_in m trees)) (hits_from place 0 (seen m (at_scope n given) trees)) ≡ filter_map (scored given) (live_objects m n (live_in trees))
    entry_found place trees =
        ap (λ scores. map (read_in (objects_in m trees)) (hits_from place 0 scores)) (documents_are (if_live (at_scope n given)) trees)
        ∙ entry_hits (objects_in m trees) [] [] place 0 (documents_of trees) refl (documents_are any_object trees ∙ sym (append-nil (map object_of (documents_of trees))))
        ∙ all_chosen trees

    -- ---- all entries

    -- the hits of an entry are read in its objects
    pub placed : (all : Seq (Seq (Marked Tree))) (place doc : ℕ) (scores : Seq (Option ℕ))
        → map (hit_object m all) (hits_from place doc scores) ≡ map (read_in (objects_in m (get_or all place []))) (hits_from place doc scores)
    placed all place doc [] = refl
    placed all place doc (None ∷ scores) = placed all place (doc + 1) scores
    placed all place doc (Some s ∷ scores) =
        ap (λ zs. (get_or (objects_in m (get_or all place [])) doc no_object, s) ∷ zs) (placed all place (doc + 1) scores)

    view_found : (all before : Seq (Seq (Marked Tree))) (place : ℕ) (entries : Seq (Seq (Marked Tree))) → length before ≡ place → all ≡ before ++ entries
        → map (hit_object m all) (hits_of place (map (seen m (at_scope n given)) entries)) ≡ filter_map (scored given) (live_objects m n (live_trees entries))
    view_found all before place [] long same = refl
    view_found all before place (trees ∷ entries) long same =
        let scores = seen m (at_scope n given) trees in
        let hits = hits_of (place + 1) (map (seen m (at_scope n given)) entries) in
        let here : get_or all place [] ≡ trees =
        ap (λ xs. get_or xs place []) same
        ∙ ap (λ k. get_or (before ++ trees ∷ entries) k []) (sym long)
        ∙ get_or-append_seam before trees entries [] in
        map-append (hit_object m all) (hits_from place 0 scores) hits
        ∙ ap (λ zs. zs ++ map (hit_object m all) hits)
        (placed all place 0 scores ∙ ap (λ ts. map (read_in (objects_in m ts)) (hits_from place 0 scores)) here ∙ entry_found place trees)
        ∙ ap (λ zs. filter_map (scored given) (live_objects m n (live_in trees)) ++ zs)
        (view_found all (before ++ trees ∷ []) (place + 1) entries (one_longer before trees place long) (same ∙ sym (append_assoc before (trees ∷ []) entries)))
        ∙ sym (filter_map-append (scored given) (live_objects m n (live_in trees)) (live_objects m n (live_trees entries)))
        ∙ ap (filter_map (scored given)) (sym (flat_map-append (λ tree. filter (stands_at n) (block_objects m tree)) (live_in trees) (live_trees entries)))

    pub hits_found : (entries : Seq (Seq (Marked Tree))) → map (hit_object m entries) (hits_of 0 (map (seen m (at_scope n given)) entries)) ≡ filter_map (scored given) (live_objects m n (live_trees entries))
    hits_found entries = view_found entries [] 0 entries refl refl

  pub roots_are : ((tree : Tree) → filter (stands_at 0) (block_objects m tree) ≡ root tree ∷ []) → (trees : Seq Tree) → live_objects m 0 trees ≡ roots trees
  roots_are one [] = refl
  roots_are one (tree ∷ trees) =
      ap (λ zs. zs ++ live_objects m 0 trees) (one tree) ∙ ap (λ zs. root tree ∷ zs) (roots_are one trees)
