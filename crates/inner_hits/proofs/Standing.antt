-- Hits of a view: their entries, their objects and the roots of these.
use Rattle.std.proofs.Common.{◌≡◌, ℕ, zero, suc, ◌<◌, ◌==◌, List as Seq, [], ◌∷◌, ◌++◌, length, map, get_or, slice_get, Bool, true, false, cond, Option, Some, None, is_some, refl, sym, ap, subst, ◌∙◌, arith}
use Rattle.std.proofs.lemmas.Bool.{eqb-true, false≢true}
use Rattle.std.proofs.lemmas.List.{length-map, map-append}
use Rattle.block_bits.specs.Blocks.{documents_of}
use Rattle.flattener.specs.StandsFor.{EntryStandsFor, Marked, ViewStandsFor, by_document, live_mark}
use Rattle.mapping.specs.Mapping.{Mapping}
use Rattle.query_eval.specs.Meeting.{IsLiveRoot}
use Rattle.segment.specs.Live.{EntryState, root_of}
use Rattle.segment_parts.specs.declared.columns.Columns.{Columns}
use Rattle.tree_joins.specs.Seen.{at_scope, if_live, scopes_of, seen}
use Rattle.tree_objects.specs.Object.{Object, block_objects, root, scope, tree_of}
use Rattle.tree_objects.specs.Tree.{Tree}
use Rattle.view_objects.specs.Hits.{IsInTree, any_object, document_object, live_trees, no_object, object_at, objects_in}
use Rattle.std.proofs.lemmas.Simd.{map-map}
use Rattle.mapping.specs.IsMapping.{IsMapping}
use Rattle.nested_sort.specs.Listed.{IsHitAt}
use Rattle.inner_hits.specs.Hits.{AllReadBack, ReadsBack}
use Rattle.inner_hits.proofs.Objects.{kept_tree}

-- ---- the entry at a place

pub record Standing (m : Mapping) (view : Seq EntryState) (trees : Seq (Seq (Marked Tree))) (place : ℕ) : Type 0 where
  pub entry : EntryState
  pub at : slice_get view place ≡ Some entry
  pub stands : EntryStandsFor m entry.columns entry.live (get_or trees place [])

pub standing : (m : Mapping) (view : Seq EntryState) (trees : Seq (Seq (Marked Tree))) (place : ℕ) → ViewStandsFor m view trees → place < length trees → Standing m view trees place
standing m [] [] place stands low = absurd (omega (arith, low))
standing m [] (ts ∷ trees) place stands low = absurd stands
standing m (e ∷ view) [] place stands low = absurd stands
standing m (e ∷ view) (ts ∷ trees) zero stands low = record { entry = e; at = refl; stands = stands.0 }
standing m (e ∷ view) (ts ∷ trees) (suc place) stands low =
    let more = standing m view trees place stands.1 (omega (arith, low)) in
    record { entry = more.entry; at = more.at; stands = more.stands }

pub standing_at : (m : Mapping) (view : Seq EntryState) (trees : Seq (Seq (Marked Tree))) (place : ℕ) (entry : EntryState) → ViewStandsFor m view trees → slice_get view place ≡ Some entry → EntryStandsFor m entry.columns entry.live (get_or trees place [])
standing_at m [] trees place entry stands at = absurd (let no : ⊥ = cc in no)
standing_at m (e ∷ view) [] place entry stands at = absurd stands
standing_at m (e ∷ view) (ts ∷ trees) zero entry stands at = let same : e ≡ entry = cc in subst (λ (x : EntryState). EntryStandsFor m x.columns x.live ts) same stands.0
standing_at m (e ∷ view) (ts ∷ trees) (suc place) entry stands at = standing_at m view trees place entry stands.1 at

-- by an entry that was read, and its columns
pub standing_of : (m : Mapping) (view : Seq EntryState) (trees : Seq (Seq (Marked Tree))) (place : ℕ) (entry : EntryState) (columns : Columns) → ViewStandsFor m view trees → slice_get view place ≡ Some entry → columns ≡ entry.columns → EntryStandsFor m columns entry.live (get_or trees place [])
standing_of m view trees place entry columns stands at same = subst (λ (x : Columns). EntryStandsFor m x entry.live (get_or trees place [])) (sym same) (standing_at m view trees place entry stands at)

-- ---- what a document has

abbrev Document : Type 0
Document = Bool × Object

abbrev pair : Bool → Object → Document
pair live o = (live, o)

documents : Mapping → Seq (Marked Tree) → Seq Document
documents m trees = by_document m pair trees

documents_are : {A : Type 0} (m : Mapping) (f : Bool → Object → A) (trees : Seq (Marked Tree)) → by_document m f trees ≡ map (λ (d : Document). f d.0 d.1) (documents m trees)
unfolding documents
documents_are m f [] = refl
documents_are m f (t ∷ trees) =
    ap (λ zs. map (f t.live) (block_objects m t.item) ++ zs) (documents_are m f trees)
    ∙ ap (λ zs. zs ++ map (λ (d : Document). f d.0 d.1) (documents m trees)) (sym (map-map (λ (d : Document). f d.0 d.1) (pair t.live) (block_objects m t.item)))
    ∙ sym (map-append (λ (d : Document). f d.0 d.1) (map (pair t.live) (block_objects m t.item)) (documents m trees))

found_at : {A : Type 0} (f : A → Option ℕ) (xs : Seq A) (k s : ℕ) (d : A) → get_or (map f xs) k None ≡ Some s → (k < length xs) × (f (get_or xs k d) ≡ Some s)
found_at f [] k s d found = absurd (false≢true (ap is_some found))
found_at f (x ∷ xs) zero s d found = (omega arith, found)
found_at f (x ∷ xs) (suc k) s d found = let more = found_at f xs k s d found in (omega (arith, more.0), more.1)

read_map : {A B : Type 0} (f : A → B) (xs : Seq A) (k : ℕ) (d : A) (e : B) → k < length xs → get_or (map f xs) k e ≡ f (get_or xs k d)
read_map f [] k d e low = absurd (omega (arith, low))
read_map f (x ∷ xs) zero d e low = refl
read_map f (x ∷ xs) (suc k) d e low = read_map f xs k d e (omega (arith, low))

pub record SeenAt (m : Mapping) (n : ℕ) (given : Object → Option ℕ) (trees : Seq (Marked Tree)) (doc score : ℕ) : Type 0 where
  pub low : doc < length (objects_in m trees)
  pub live : get_or (by_document m live_mark trees) doc false ≡ true
  pub stands_at : scope (document_object m trees doc) ≡ n
  pub given_score : given (document_object m trees doc) ≡ Some score

parts : (live there : Bool) (score : Option ℕ) (s : ℕ) → cond live (cond there score None) None ≡ Some s → (live ≡ true) × (there ≡ true) × (score ≡ Some s)
parts true true score s is = (refl, refl, is)
parts true false score s is = absurd (false≢true (ap is_some is))
parts false there score s is = absurd (false≢true (ap is_some is))

pub seen_at : (m : Mapping) (n : ℕ) (given : Object → Option ℕ) (trees : Seq (Marked Tree)) (doc score : ℕ) → get_or (seen m (at_scope n given) trees) doc None ≡ Some score → SeenAt m n given trees doc score
seen_at m n given trees doc score is =
    let none : Document = (false, no_object) in
    let found = found_at (λ (d : Document). if_live (at_scope n given) d.0 d.1) (documents m trees) doc score none (ap (λ (l : Seq (Option ℕ)). get_or l doc None) (sym (documents_are m (if_live (at_scope n given)) trees)) ∙ is) in
    let d = get_or (documents m trees) doc none in
    let part = parts d.0 (scope d.1 == n) (given d.1) score found.1 in
    let object : document_object m trees doc ≡ d.1 = ap (λ (l : Seq Object). get_or l doc no_object) (documents_are m any_object trees) ∙ read_map (λ (d : Document). d.1) (documents m trees) doc none no_object found.0 in
    record {
      low = subst (λ k. doc < k) (sym (length-map (documents m trees) (λ (d : Document). d.1)) ∙ sym (ap length (documents_are m any_object trees))) found.0;
      live = ap (λ (l : Seq Bool). get_or l doc false) (documents_are m live_mark trees) ∙ read_map (λ (d : Document). d.0) (documents m trees) doc none false found.0 ∙ part.0;
      stands_at = ap scope object ∙ eqb-true (scope d.1) n part.1;
      given_score = ap given object ∙ part.2;
    }

-- ---- a root that a query hits

abbrev pub live_root : (m : Mapping) (view : Seq EntryState) (trees : Seq (Seq (Marked Tree))) (given : Object → Option ℕ) (place doc score : ℕ) (it : Standing m view trees place) → IsInTree m (get_or trees place []) doc
    → get_or (seen m (at_scope 0 given) (get_or trees place [])) doc None ≡ Some score → IsLiveRoot m view place (root_of (documents_of (scopes_of m (get_or trees place [])) 0) doc) (tree_of (object_at m trees place doc))
live_root m view trees given place doc score it in_tree is =
    let seen_there = seen_at m 0 given (get_or trees place []) doc score is in
    let live : in_tree.marked.live ≡ true = sym in_tree.live ∙ seen_there.live in
    record {
      entry = it.entry;
      trees = get_or trees place [];
      at = it.at;
      stands = it.stands;
      tree_at = in_tree.at ∙ ap (λ (t : Marked Tree). Some t) (ap (λ (b : Bool). record { item = in_tree.marked.item; live = b }) live ∙ ap (λ (t : Tree). record { item = t; live = true }) (sym in_tree.tree));
    }

-- ---- a tree that is shown

module _ (m : Mapping) (law : (trees : Seq (Marked Tree)) (doc : ℕ) → IsMapping m → doc < length (objects_in m trees) → IsInTree m trees doc) (view : Seq EntryState) (trees : Seq (Seq (Marked Tree))) (place doc : ℕ) (stands : ViewStandsFor m view trees) where
  low : IsHitAt m 0 trees place doc → place < length trees
  low hit = place_low trees place (λ (ts : Seq (Marked Tree)). get_or (seen m (at_scope 0 hit.given) ts) doc None ≡ Some hit.score) (λ is. false≢true (ap is_some is)) hit.is
    where
      place_low : (all : Seq (Seq (Marked Tree))) (k : ℕ) (P : Seq (Marked Tree) → Type 0) → (P [] → ⊥) → P (get_or all k []) → k < length all
      place_low [] k P none own = absurd (none own)
      place_low (ts ∷ all) zero P none own = omega arith
      place_low (ts ∷ all) (suc k) P none own = let more = place_low all k P none own in omega (arith, more)

  in_tree : (hit : IsHitAt m 0 trees place doc) → IsInTree m (get_or trees place []) doc
  in_tree hit = law (get_or trees place []) doc (standing m view trees place stands (low hit)).stands.mapping (seen_at m 0 hit.given (get_or trees place []) doc hit.score hit.is).low

  -- its object is a root
  pub at_root : IsHitAt m 0 trees place doc → object_at m trees place doc ≡ root (tree_of (object_at m trees place doc))
  at_root hit = (in_tree hit).at_root (seen_at m 0 hit.given (get_or trees place []) doc hit.score hit.is).stands_at ∙ ap (λ (t : Tree). root t) (sym (in_tree hit).tree)

  -- and its source is read back
  pub kept_root : AllReadBack (live_trees trees) → IsHitAt m 0 trees place doc → ReadsBack (tree_of (object_at m trees place doc))
  kept_root kept hit =
      let live = live_root m view trees hit.given place doc hit.score (standing m view trees place stands (low hit)) (in_tree hit) hit.is in
      kept_tree ReadsBack trees place (root_of (documents_of (scopes_of m (get_or trees place [])) 0) doc) (record { item = tree_of (object_at m trees place doc); live = true }) live.tree_at refl kept
