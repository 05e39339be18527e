-- Hits at the scope of roots, and those of them whose trees are joined to a tree.
use Rattle.std.proofs.Common.{◌≡◌, ℕ, zero, suc, ◌+◌, ◌-◌, ◌<◌, ◌≤◌, List as Seq, [], ◌∷◌, length, map, filter, get_or, slice_get, Bool, true, false, if◌then◌else◌, nat_lt, Option, Some, None, is_some, refl, sym, ap, subst, ◌∙◌, arith}
use Rattle.std.proofs.lemmas.Bool.{false≢true}
use Rattle.std.proofs.lemmas.Bool.Decides.{nat_tests}
use Rattle.std.proofs.lemmas.List.Elements.{All-from_recursion, recursion_from_All}
use Rattle.std.specs.List.{AllByRecursion, filter_map}
use Rattle.block_bits.specs.Blocks.{documents_of}
use Rattle.flattener.specs.StandsFor.{EntryStandsFor, Marked, ViewStandsFor}
use Rattle.join_ordinals.specs.Ordinals.{Ordinals}
use Rattle.mapping.specs.IsMapping.{IsMapping}
use Rattle.mapping.specs.Mapping.{Mapping}
use Rattle.nested_sort.specs.Listed.{AreDocs, AreHits, IsDocOf, IsHitAt}
use Rattle.query_ast.specs.Joined.{child_trees, is_child_by, is_parent_by, is_root, parent_trees, roots}
use Rattle.query_eval.specs.Found.{AreLong}
use Rattle.query_eval.specs.Meeting.{IsLiveRoot, meet}
use Rattle.query_eval.specs.Sides.{key_at}
use Rattle.query_eval.specs.declared.side.Side.{Side}
use Rattle.query_eval.specs.declared.side.Side.TheVariants.{Children, ChildrenOf, Parents}
use Rattle.segment.specs.Flat.{FlatDocument, flats_of}
use Rattle.segment.specs.Live.{EntryState, IsLiveOver, LiveState, root_of}
use Rattle.segment_parts.specs.Parts.{root_flags}
use Rattle.segment_parts.specs.declared.columns.Columns.{Columns}
use Rattle.segment_view.specs.Views.{HaveOwnBits}
use Rattle.tree_joins.specs.Seen.{at_scope, scopes_of, scored, seen}
use Rattle.tree_joins.proofs.Each.{each_append, each_filter, each_map}
use Rattle.tree_objects.specs.Object.{Object, root, tree_of}
use Rattle.tree_objects.specs.Tree.{Tree}
use Rattle.view_objects.specs.Hits.{IsInTree, hit_object, hits_from, hits_in, hits_of, live_trees, object_at, objects_in}
use Rattle.view_objects.specs.declared.hit.Hit.{Hit}
use Rattle.inner_hits.specs.Kinship.{AreKin, hit_of, is_key, key_in, key_of_doc, owner_hits}
use Rattle.inner_hits.specs.declared.joined.Kin.{Kin}
use Rattle.inner_hits.proofs.Kinship.{joined_hits, of_keys}
use Rattle.inner_hits.proofs.Rooting.{root_flags_are}
use Rattle.inner_hits.proofs.Scored.{Stands, stand_from}
use Rattle.inner_hits.proofs.Standing.{SeenAt, Standing, live_root, seen_at, standing}

-- ---- what laws say of documents

pub record Laws (m : Mapping) : Type 0 where
  pub scopes : (columns : Columns) (bits : LiveState) (trees : Seq (Marked Tree)) → EntryStandsFor m columns bits trees → map (λ (flat : FlatDocument). flat.scope) (flats_of columns) ≡ scopes_of m trees
  pub objects : (columns : Columns) (bits : LiveState) (trees : Seq (Marked Tree)) → EntryStandsFor m columns bits trees → length (objects_in m trees) ≡ columns.documents
  pub trees : (trees : Seq (Marked Tree)) (doc : ℕ) → IsMapping m → doc < length (objects_in m trees) → IsInTree m trees doc

-- ---- elements

pub all_get : {A : Type 0} (P : A → Type 0) (xs : Seq A) (k : ℕ) (x : A) → slice_get xs k ≡ Some x → AllByRecursion P xs → P x
all_get P [] k x is all = absurd (let no : ⊥ = cc in no)
all_get P (y ∷ xs) zero x is all = let same : y ≡ x = cc in subst P same all.0
all_get P (y ∷ xs) (suc k) x is all = all_get P xs k x is all.1

pub low_place : (m : Mapping) (f : Object → Option ℕ) (trees : Seq (Seq (Marked Tree))) (place doc s : ℕ) → get_or (seen m f (get_or trees place [])) doc None ≡ Some s → place < length trees
low_place m f [] place doc s is = absurd (false≢true (ap is_some is))
low_place m f (ts ∷ trees) zero doc s is = omega arith
low_place m f (ts ∷ trees) (suc place) doc s is = let more = low_place m f trees place doc s is in omega (arith, more)

pub get_seen : (m : Mapping) (f : Object → Option ℕ) (trees : Seq (Seq (Marked Tree))) (place : ℕ) → get_or (map (seen m f) trees) place [] ≡ seen m f (get_or trees place [])
get_seen m f [] place = refl
get_seen m f (ts ∷ trees) zero = refl
get_seen m f (ts ∷ trees) (suc place) = get_seen m f trees place

-- ---- the hits of a view have their scores

pub record HasOwn (place : ℕ) (scores : Seq (Seq (Option ℕ))) (hit : Hit) : Type 0 where
  pub from : place ≤ hit.place
  pub score : get_or (get_or scores (hit.place - place) []) hit.doc None ≡ Some hit.score

own_first : (place : ℕ) (s : Seq (Option ℕ)) (more : Seq (Seq (Option ℕ))) (end : ℕ) (hit : Hit) → Stands place 0 end s hit → HasOwn place (s ∷ more) hit
own_first place s more end hit it =
    let none : hit.place - place ≡ 0 = (let at = it.at in omega (arith, at)) in
    let all : hit.doc - 0 ≡ hit.doc = omega arith in
    record { from = (let at = it.at in omega (arith, at)); score = rw none (subst (λ (k : ℕ). get_or s k None ≡ Some hit.score) all it.score) }

own_later : (place : ℕ) (s : Seq (Option ℕ)) (more : Seq (Seq (Option ℕ))) (hit : Hit) → HasOwn (place + 1) more hit → HasOwn place (s ∷ more) hit
own_later place s more hit it =
    let over : hit.place - place ≡ suc (hit.place - (place + 1)) = (let f = it.from in omega (arith, f)) in
    record { from = (let f = it.from in omega (arith, f)); score = rw over it.score }

pub have_own : (place : ℕ) (scores : Seq (Seq (Option ℕ))) → AllByRecursion (HasOwn place scores) (hits_of place scores)
have_own place [] = tt
have_own place (s ∷ more) =
    each_append (HasOwn place (s ∷ more)) (hits_from place 0 s) (hits_of (place + 1) more)
    (each_map (Stands place 0 (length s) s) (HasOwn place (s ∷ more)) (own_first place s more (length s)) (hits_from place 0 s) (stand_from place 0 s (length s) (omega arith)))
    (each_map (HasOwn (place + 1) more) (HasOwn place (s ∷ more)) (own_later place s more) (hits_of (place + 1) more) (have_own (place + 1) more))

pub own_score : (scores : Seq (Seq (Option ℕ))) (hit : Hit) → HasOwn 0 scores hit → get_or (get_or scores hit.place []) hit.doc None ≡ Some hit.score
own_score scores hit it = let all : hit.place - 0 ≡ hit.place = omega arith in subst (λ (k : ℕ). get_or (get_or scores k []) hit.doc None ≡ Some hit.score) all it.score

-- ---- they are documents of the view

within : {A : Type 0} (xs : Seq (Option A)) (k : ℕ) (x : A) → get_or xs k None ≡ Some x → k < length xs
within [] k x is = absurd (false≢true (ap is_some is))
within (y ∷ xs) zero x is = omega arith
within (y ∷ xs) (suc k) x is = let more = within xs k x is in omega (arith, more)

pub doc_there : (view : Seq EntryState) (scores : Seq (Seq (Option ℕ))) (place doc s : ℕ) → AreLong view scores → get_or (get_or scores place []) doc None ≡ Some s → IsDocOf view place doc
doc_there [] [] place doc s long is = absurd (false≢true (ap is_some is))
doc_there [] (x ∷ scores) place doc s long is = absurd long
doc_there (e ∷ view) [] place doc s long is = absurd long
doc_there (e ∷ view) (x ∷ scores) zero doc s long is = let low = within x doc s is in let same : length x ≡ e.columns.documents = long.0 in let there : doc < e.columns.documents = omega (arith, low, same) in there
doc_there (e ∷ view) (x ∷ scores) (suc place) doc s long is = doc_there view scores place doc s long.1 is

-- ---- live roots

pub record RootAt (m : Mapping) (view : Seq EntryState) (trees : Seq (Seq (Marked Tree))) (place doc : ℕ) : Type 0 where
  pub live : IsLiveRoot m view place (root_of (documents_of (scopes_of m (get_or trees place [])) 0) doc) (tree_of (object_at m trees place doc))
  pub low : doc < live.entry.columns.documents
  pub flags : root_flags live.entry.columns.scopes ≡ documents_of (scopes_of m (get_or trees place [])) 0
  pub at_root : object_at m trees place doc ≡ root (tree_of (object_at m trees place doc))

module _ (m : Mapping) (laws : Laws m) (view : Seq EntryState) (bits : HaveOwnBits view) (trees : Seq (Seq (Marked Tree))) (stands : ViewStandsFor m view trees) where
  pub root_at : (given : Object → Option ℕ) (place doc score : ℕ) → get_or (seen m (at_scope 0 given) (get_or trees place [])) doc None ≡ Some score → RootAt m view trees place doc
  root_at given place doc score is =
      let it : Standing m view trees place = standing m view trees place stands (low_place m (at_scope 0 given) trees place doc score is) in
      let there : SeenAt m 0 given (get_or trees place []) doc score = seen_at m 0 given (get_or trees place []) doc score is in
      let in_tree : IsInTree m (get_or trees place []) doc = laws.trees (get_or trees place []) doc it.stands.mapping there.low in
      let over : IsLiveOver it.entry.columns it.entry.live = all_get (λ (e : EntryState). IsLiveOver e.columns e.live) view place it.entry it.at (recursion_from_All (λ (e : EntryState). IsLiveOver e.columns e.live) view bits) in
      record {
        live = live_root m view trees given place doc score it in_tree is;
        low = subst (λ k. doc < k) (laws.objects it.entry.columns it.entry.live (get_or trees place []) it.stands) there.low;
        flags = root_flags_are it.entry.columns it.entry.live over ∙ ap (λ (l : Seq ℕ). documents_of l 0) (laws.scopes it.entry.columns it.entry.live (get_or trees place []) it.stands);
        at_root = in_tree.at_root there.stands_at ∙ ap (λ (t : Tree). root t) (sym in_tree.tree);
      }

  pub roots_at : (given : Object → Option ℕ) (scores : Seq (Seq (Option ℕ))) → scores ≡ map (seen m (at_scope 0 given)) trees → AllByRecursion (λ (h : Hit). RootAt m view trees h.place h.doc) (hits_in scores)
  roots_at given scores are = each_map (HasOwn 0 scores) (λ (h : Hit). RootAt m view trees h.place h.doc) one (hits_in scores) (have_own 0 scores)
    where
      one : (h : Hit) → HasOwn 0 scores h → RootAt m view trees h.place h.doc
      one h it =
          root_at given h.place h.doc h.score
          (ap (λ (l : Seq (Option ℕ)). get_or l h.doc None) (sym (get_seen m (at_scope 0 given) trees h.place) ∙ ap (λ (l : Seq (Seq (Option ℕ))). get_or l h.place []) (sym are)) ∙ own_score scores h it)

-- each hit of what is seen in a scope is a hit there
pub hits_at : (m : Mapping) (n : ℕ) (given : Object → Option ℕ) (trees : Seq (Seq (Marked Tree))) (scores : Seq (Seq (Option ℕ))) → scores ≡ map (seen m (at_scope n given)) trees → AllByRecursion (λ (h : Hit). IsHitAt m n trees h.place h.doc) (hits_in scores)
hits_at m n given trees scores are = each_map (HasOwn 0 scores) (λ (h : Hit). IsHitAt m n trees h.place h.doc) one (hits_in scores) (have_own 0 scores)
  where
    one : (h : Hit) → HasOwn 0 scores h → IsHitAt m n trees h.place h.doc
    one h it = record {
      given = given;
      score = h.score;
      is = ap (λ (l : Seq (Option ℕ)). get_or l h.doc None) (sym (get_seen m (at_scope n given) trees h.place) ∙ ap (λ (l : Seq (Seq (Option ℕ))). get_or l h.place []) (sym are)) ∙ own_score scores h it;
    }

pub docs_at : (view : Seq EntryState) (scores : Seq (Seq (Option ℕ))) → AreLong view scores → AllByRecursion (λ (h : Hit). IsDocOf view h.place h.doc) (hits_in scores)
docs_at view scores long = each_map (HasOwn 0 scores) (λ (h : Hit). IsDocOf view h.place h.doc) (λ h it. doc_there view scores h.place h.doc h.score long (own_score scores h it)) (hits_in scores) (have_own 0 scores)

-- ---- the hits of one key

module _ (m : Mapping) (ordinals : Ordinals) (view : Seq EntryState) where
  pub key_is : (trees : Seq (Seq (Marked Tree))) (side : Side) (place doc : ℕ) (r : RootAt m view trees place doc)
      → key_in m ordinals side view place doc ≡ key_at m ordinals side r.live.entry.columns place (root_of (documents_of (scopes_of m (get_or trees place [])) 0) doc)
  unfolding key_in
  key_is trees side place doc r =
      let test : nat_lt doc r.live.entry.columns.documents ≡ true = below doc r.live.entry.columns.documents r.low in
      ap (key_of_doc m ordinals side place doc) r.live.at
      ∙ rw test (ap (λ (f : Seq Bool). key_at m ordinals side r.live.entry.columns place (root_of f doc)) r.flags)
    where
      below : (a b : ℕ) → a < b → nat_lt a b ≡ true
      below a b low = grind (arith, nat_tests, low)

  -- a fact of all hits is one of those with the owner's key
  pub of_owner : (P : Hit → Type 0) (side : Side) (scores : Seq (Seq (Option ℕ))) (kin : Seq Kin) (key : Option ℕ) → AreKin m ordinals side view scores kin → AllByRecursion P (hits_in scores) → AllByRecursion P (owner_hits key kin)
  of_owner P side scores kin None are all = tt
  of_owner P side scores kin (Some key) are all =
      subst (AllByRecursion P) (sym (ap (map hit_of) (are.those key) ∙ of_keys (λ (h : Hit). key_in m ordinals side view h.place h.doc) key (hits_in scores)))
      (each_map (λ (h : Hit). P h × (is_key (key_in m ordinals side view h.place h.doc) key ≡ true)) P (λ h it. it.0) (filter (λ (h : Hit). is_key (key_in m ordinals side view h.place h.doc) key) (hits_in scores))
      (each_filter P (λ (h : Hit). is_key (key_in m ordinals side view h.place h.doc) key) (hits_in scores) all))

  pub owner_docs : (side : Side) (scores : Seq (Seq (Option ℕ))) (kin : Seq Kin) (key : Option ℕ) (hits : Seq Hit) → AreKin m ordinals side view scores kin → AreLong view scores → hits ≡ owner_hits key kin → AreDocs view hits
  owner_docs side scores kin key hits are long is =
      subst (λ (l : Seq Hit). AreDocs view l) (sym is)
      (All-from_recursion (λ (h : Hit). IsDocOf view h.place h.doc) (owner_hits key kin) (of_owner (λ (h : Hit). IsDocOf view h.place h.doc) side scores kin key are (docs_at view scores long)))

  pub owner_are_hits : (trees : Seq (Seq (Marked Tree))) (given : Object → Option ℕ) (side : Side) (scores : Seq (Seq (Option ℕ))) (kin : Seq Kin) (key : Option ℕ) (hits : Seq Hit) → AreKin m ordinals side view scores kin → scores ≡ map (seen m (at_scope 0 given)) trees → hits ≡ owner_hits key kin → AreHits m 0 trees hits
  owner_are_hits trees given side scores kin key hits are same is =
      subst (λ (l : Seq Hit). AreHits m 0 trees l) (sym is)
      (All-from_recursion (λ (h : Hit). IsHitAt m 0 trees h.place h.doc) (owner_hits key kin) (of_owner (λ (h : Hit). IsHitAt m 0 trees h.place h.doc) side scores kin key are (hits_at m 0 given trees scores same)))

  module _ (trees : Seq (Seq (Marked Tree))) (own side : Side) (test : Tree → Bool) (place doc : ℕ) where
    abbrev Meets : Hit → Type 0
    Meets h = test (tree_of (hit_object m trees h).0) ≡ meet (key_in m ordinals own view place doc) (key_in m ordinals side view h.place h.doc)

    no_hits : (hits : Seq Hit) → filter (λ (h : Hit). false) hits ≡ []
    no_hits [] = refl
    no_hits (h ∷ hits) = no_hits hits

    met : (key : ℕ) (other : Option ℕ) → is_key other key ≡ meet (Some key) other
    met key None = refl
    met key (Some other) = refl

    pub joined_found : (given : Object → Option ℕ) (scores : Seq (Seq (Option ℕ))) (kin : Seq Kin) → AreKin m ordinals side view scores kin
        → AllByRecursion (λ (h : Hit). test (tree_of (hit_object m trees h).0) ≡ meet (key_in m ordinals own view place doc) (key_in m ordinals side view h.place h.doc)) (hits_in scores)
        → map (hit_object m trees) (hits_in scores) ≡ filter_map (scored given) (roots (live_trees trees))
        → map (hit_object m trees) (owner_hits (key_in m ordinals own view place doc) kin) ≡ filter_map (scored given) (roots (filter test (live_trees trees)))
    joined_found given scores kin are meets found = by (key_in m ordinals own view place doc) refl
      where
        by : (key : Option ℕ) → key_in m ordinals own view place doc ≡ key → map (hit_object m trees) (owner_hits key kin) ≡ filter_map (scored given) (roots (filter test (live_trees trees)))
        by None is =
            ap (map (hit_object m trees)) (sym (no_hits (hits_in scores)))
            ∙ joined_hits m trees test given (live_trees trees) (λ (h : Hit). false) (hits_in scores)
            (each_map Meets (λ (h : Hit). false ≡ test (tree_of (hit_object m trees h).0)) (λ h it. sym (it ∙ ap (λ (k : Option ℕ). meet k (key_in m ordinals side view h.place h.doc)) is)) (hits_in scores) meets)
            found
        by (Some key) is =
            ap (map (hit_object m trees)) (ap (map hit_of) (are.those key) ∙ of_keys (λ (h : Hit). key_in m ordinals side view h.place h.doc) key (hits_in scores))
            ∙ joined_hits m trees test given (live_trees trees) (λ (h : Hit). is_key (key_in m ordinals side view h.place h.doc) key) (hits_in scores)
            (each_map Meets (λ (h : Hit). is_key (key_in m ordinals side view h.place h.doc) key ≡ test (tree_of (hit_object m trees h).0))
            (λ h it. met key (key_in m ordinals side view h.place h.doc) ∙ sym (it ∙ ap (λ (k : Option ℕ). meet k (key_in m ordinals side view h.place h.doc)) is)) (hits_in scores) meets)
            found

-- ---- the trees that are joined to a root's

children_root : (m : Mapping) (live : Seq Tree) (r : ℕ) (o : Object) → o ≡ root (tree_of o) → child_trees m live r o ≡ filter (is_child_by m r (tree_of o)) live
unfolding child_trees
children_root m live r o is = ap (λ (b : Bool). if b then filter (is_child_by m r (tree_of o)) live else []) (ap is_root is)

parents_root : (m : Mapping) (live : Seq Tree) (r : ℕ) (o : Object) → o ≡ root (tree_of o) → parent_trees m live r o ≡ filter (is_parent_by m r (tree_of o)) live
unfolding parent_trees
parents_root m live r o is = ap (λ (b : Bool). if b then filter (is_parent_by m r (tree_of o)) live else []) (ap is_root is)

module _ (m : Mapping) (laws : Laws m) (view : Seq EntryState) (bits : HaveOwnBits view) (trees : Seq (Seq (Marked Tree))) (stands : ViewStandsFor m view trees) (ordinals : Ordinals) where
  abbrev of_root : ℕ → ℕ → ℕ
  of_root place doc = root_of (documents_of (scopes_of m (get_or trees place [])) 0) doc

  pub children_found : (relation parent place doc : ℕ) (owner given : Object → Option ℕ) (score : ℕ) (scores : Seq (Seq (Option ℕ))) (kin : Seq Kin)
      → ((root other other_place other_root : ℕ) (tree child : Tree) (one : IsLiveRoot m view other root tree) (two : IsLiveRoot m view other_place other_root child)
      → is_child_by m relation tree child ≡ meet (key_at m ordinals (Parents parent) one.entry.columns other root) (key_at m ordinals (Children relation) two.entry.columns other_place other_root))
      → get_or (seen m (at_scope 0 owner) (get_or trees place [])) doc None ≡ Some score
      → AreKin m ordinals (Children relation) view scores kin
      → scores ≡ map (seen m (at_scope 0 given)) trees
      → map (hit_object m trees) (hits_in scores) ≡ filter_map (scored given) (roots (live_trees trees))
      → map (hit_object m trees) (owner_hits (key_in m ordinals (Parents parent) view place doc) kin) ≡ filter_map (scored given) (roots (child_trees m (live_trees trees) relation (object_at m trees place doc)))
  children_found relation parent place doc owner given score scores kin law here are same found =
      let own : RootAt m view trees place doc = root_at m laws view bits trees stands owner place doc score here in
      let t : Tree = tree_of (object_at m trees place doc) in
      joined_found m ordinals view trees (Parents parent) (Children relation) (is_child_by m relation t) place doc given scores kin are
      (each_map (λ (h : Hit). RootAt m view trees h.place h.doc)
      (λ (h : Hit). is_child_by m relation t (tree_of (hit_object m trees h).0) ≡ meet (key_in m ordinals (Parents parent) view place doc) (key_in m ordinals (Children relation) view h.place h.doc))
      (λ h it.
      law (of_root place doc) place h.place (of_root h.place h.doc) t (tree_of (object_at m trees h.place h.doc)) own.live it.live
      ∙ ap (λ (k : Option ℕ). meet k (key_at m ordinals (Children relation) it.live.entry.columns h.place (of_root h.place h.doc))) (sym (key_is m ordinals view trees (Parents parent) place doc own))
      ∙ ap (λ (k : Option ℕ). meet (key_in m ordinals (Parents parent) view place doc) k) (sym (key_is m ordinals view trees (Children relation) h.place h.doc it)))
      (hits_in scores) (roots_at m laws view bits trees stands given scores same))
      found
      ∙ ap (λ (l : Seq Tree). filter_map (scored given) (roots l)) (sym (children_root m (live_trees trees) relation (object_at m trees place doc) own.at_root))

  pub parents_found : (relation place doc : ℕ) (owner given : Object → Option ℕ) (score : ℕ) (scores : Seq (Seq (Option ℕ))) (kin : Seq Kin)
      → ((root other other_place other_root : ℕ) (tree parent : Tree) (one : IsLiveRoot m view other root tree) (two : IsLiveRoot m view other_place other_root parent)
      → is_parent_by m relation tree parent ≡ meet (key_at m ordinals (ChildrenOf relation) one.entry.columns other root) (key_at m ordinals (Parents relation) two.entry.columns other_place other_root))
      → get_or (seen m (at_scope 0 owner) (get_or trees place [])) doc None ≡ Some score
      → AreKin m ordinals (Parents relation) view scores kin
      → scores ≡ map (seen m (at_scope 0 given)) trees
      → map (hit_object m trees) (hits_in scores) ≡ filter_map (scored given) (roots (live_trees trees))
      → map (hit_object m trees) (owner_hits (key_in m ordinals (ChildrenOf relation) view place doc) kin) ≡ filter_map (scored given) (roots (parent_trees m (live_trees trees) relation (object_at m trees place doc)))
  parents_found relation place doc owner given score scores kin law here are same found =
      let own : RootAt m view trees place doc = root_at m laws view bits trees stands owner place doc score here in
      let t : Tree = tree_of (object_at m trees place doc) in
      joined_found m ordinals view trees (ChildrenOf relation) (Parents relation) (is_parent_by m relation t) place doc given scores kin are
      (each_map (λ (h : Hit). RootAt m view trees h.place h.doc)
      (λ (h : Hit). is_parent_by m relation t (tree_of (hit_object m trees h).0) ≡ meet (key_in m ordinals (ChildrenOf relation) view place doc) (key_in m ordinals (Parents relation) view h.place h.doc))
      (λ h it.
      law (of_root place doc) place h.place (of_root h.place h.doc) t (tree_of (object_at m trees h.place h.doc)) own.live it.live
      ∙ ap (λ (k : Option ℕ). meet k (key_at m ordinals (Parents relation) it.live.entry.columns h.place (of_root h.place h.doc))) (sym (key_is m ordinals view trees (ChildrenOf relation) place doc own))
      ∙ ap (λ (k : Option ℕ). meet (key_in m ordinals (ChildrenOf relation) view place doc) k) (sym (key_is m ordinals view trees (Parents relation) h.place h.doc it)))
      (hits_in scores) (roots_at m laws view bits trees stands given scores same))
      found
      ∙ ap (λ (l : Seq Tree). filter_map (scored given) (roots l)) (sym (parents_root m (live_trees trees) relation (object_at m trees place doc) own.at_root))
