-- Sequence numbers of the roots of a view.
use Rattle.std.proofs.Common.{◌≡◌, ℕ, zero, suc, ◌+◌, ◌<◌, ◌≤◌, ◌^◌, pos, List as Seq, [], ◌∷◌, ◌++◌, length, map, get_or, slice_get, Some, refl, sym, ap, ◌∙◌, ◌⊎◌, inl, inr, arith}
use Rattle.std.proofs.lemmas.Bool.{cases_lt}
use Rattle.std.proofs.lemmas.List.{length-append}
use Rattle.std.proofs.lemmas.List.Elements.{recursion_from_All}
use Rattle.flattener.specs.Block.{root_of_tree}
use Rattle.flattener.specs.Fits.{AreRootsOf, EntryFits, ViewFits}
use Rattle.flattener.specs.StandsFor.{EntryStandsFor, Marked}
use Rattle.hit_order.specs.declared.column.RowPlace.{RowPlace}
use Rattle.mapping.specs.Mapping.{Mapping}
use Rattle.nested_sort.specs.Listed.{no_hit}
use Rattle.segment.specs.Flat.{FlatDocument, FlatRoot, flat_root}
use Rattle.segment.specs.Live.{EntryState, LiveState}
use Rattle.segment_parts.specs.declared.columns.Columns.{Columns}
use Rattle.stored_sources.specs.Roots.{root_of}
use Rattle.stored_sources.specs.declared.root.Root.{Root}
use Rattle.tree_objects.specs.Object.{tree_of}
use Rattle.tree_objects.specs.Tree.{Tree}
use Rattle.tree_json.specs.Text.{compact}
use Rattle.view_objects.specs.Hits.{document_object}
use Rattle.view_objects.specs.declared.hit.Hit.{Hit}
use Rattle.inner_hits.specs.Roots.{IsRootOf}
use Rattle.inner_hits.specs.Rows.{ArePlaces, IsPlaceOf}
use Rattle.inner_hits.proofs.Joining.{all_get}
use Rattle.inner_hits.proofs.Standing.{standing_at}

rooted : (m : Mapping) (roots : Seq Root) (blocks : Seq (Seq FlatDocument)) (k : ℕ) → AreRootsOf m (map flat_root roots) blocks → k < length roots → (root_of roots k).number ≤ 2 ^ 62
rooted m [] blocks k are low = absurd (omega (arith, low))
rooted m (r ∷ roots) [] k are low = absurd are
rooted m (r ∷ roots) (b ∷ blocks) zero are low = are.0.number
rooted m (r ∷ roots) (b ∷ blocks) (suc k) are low = rooted m roots blocks k are.1 (omega (arith, low))

-- the number of a root of a view that fits is small
pub number_low : (m : Mapping) (view : Seq EntryState) (place root : ℕ) (entry : EntryState) → ViewFits m view → slice_get view place ≡ Some entry → root < length entry.columns.roots → (root_of entry.columns.roots root).number ≤ 2 ^ 62
number_low m view place root entry fits at low =
    let own : EntryFits m entry = all_get (EntryFits m) view place entry at (recursion_from_All (EntryFits m) view fits.each) in
    rooted m entry.columns.roots own.segment.blocks root own.segment.roots low

-- ---- what is kept of a tree

number_kept : (m : Mapping) (tree : Tree) → (root_of_tree m tree).number ≡ tree.number
unfolding root_of_tree
number_kept m tree = refl

id_kept : (m : Mapping) (tree : Tree) → (root_of_tree m tree).id ≡ tree.id
unfolding root_of_tree
id_kept m tree = refl

source_kept : (m : Mapping) (tree : Tree) → (root_of_tree m tree).source ≡ compact tree.source
unfolding root_of_tree
source_kept m tree = refl

module _ (m : Mapping) (c : Columns) (bits : LiveState) (trees : Seq (Marked Tree)) (doc root : ℕ) (is : IsRootOf m c bits trees doc root) where
  pub number_is : (root_of c.roots root).number ≡ (tree_of (document_object m trees doc)).number
  number_is = ap (λ (r : FlatRoot). r.number) is.kept ∙ number_kept m (tree_of (document_object m trees doc))

  pub id_is : (root_of c.roots root).id ≡ (tree_of (document_object m trees doc)).id
  id_is = ap (λ (r : FlatRoot). r.id) is.kept ∙ id_kept m (tree_of (document_object m trees doc))

  pub source_is : (root_of c.roots root).source ≡ compact (tree_of (document_object m trees doc)).source
  source_is = ap (λ (r : FlatRoot). r.source) is.kept ∙ source_kept m (tree_of (document_object m trees doc))

-- the place of a row
pub place_is : (view : Seq EntryState) (at : ℕ) (hit : Hit) (place : RowPlace) (entry : EntryState) (root : ℕ) → slice_get view hit.place ≡ Some entry → place.place ≡ at → place.number ≡ pos (root_of entry.columns.roots root).number
    → ((m : Mapping) (bits : LiveState) (trees : Seq (Marked Tree)) → EntryStandsFor m entry.columns bits trees → IsRootOf m entry.columns bits trees hit.doc root) → IsPlaceOf view at hit place
place_is view at hit place entry root there index number is = record {
  index = index;
  number = λ m n trees stands asked.
      number
      ∙ ap pos (number_is m entry.columns entry.live (get_or trees hit.place []) hit.doc root (is m entry.live (get_or trees hit.place []) (standing_at m view trees hit.place entry stands there)));
}

-- ---- places, one after the other

push_before : {A : Type 0} (xs : Seq A) (x : A) (k : ℕ) (d : A) → k < length xs → get_or (xs ++ x ∷ []) k d ≡ get_or xs k d
push_before [] x k d low = absurd (omega (arith, low))
push_before (y ∷ xs) x zero d low = refl
push_before (y ∷ xs) x (suc k) d low = push_before xs x k d (omega (arith, low))

push_last : {A : Type 0} (xs : Seq A) (x : A) (d : A) → get_or (xs ++ x ∷ []) (length xs) d ≡ x
push_last [] x d = refl
push_last (y ∷ xs) x d = push_last xs x d

pub places_none : (view : Seq EntryState) (hits : Seq Hit) (places : Seq RowPlace) → places ≡ [] → ArePlaces view hits 0 places
places_none view hits places none = record { long = ap length none; each = λ at d low. absurd (omega (arith, low)) }

pub places_more : (view : Seq EntryState) (hits : Seq Hit) (at : ℕ) (places new : Seq RowPlace) (place : RowPlace) (hit : Hit) → ArePlaces view hits at places → hit ≡ get_or hits at no_hit → IsPlaceOf view at hit place → new ≡ places ++ place ∷ [] → ArePlaces view hits (at + 1) new
places_more view hits at places new place hit are same own is = record {
  long = ap length is ∙ length-append places (place ∷ []) ∙ ap (λ n. n + 1) are.long;
  each = λ j d low. rw is (by j d low (cases_lt j at));
}
  where
    by : (j : ℕ) (d : RowPlace) → j < at + 1 → (j < at) ⊎ (at ≤ j) → IsPlaceOf view j (get_or hits j no_hit) (get_or (places ++ place ∷ []) j d)
    by j d low (inl before) = let long = are.long in rw (push_before places place j d (omega (arith, before, long))) (are.each j d before)
    by j d low (inr past) =
        let here : j ≡ at = omega (arith, low, past) in
        let long = are.long in
        let last : get_or (places ++ place ∷ []) j d ≡ place = ap (λ k. get_or (places ++ place ∷ []) k d) (let e : j ≡ length places = omega (arith, here, long) in e) ∙ push_last places place d in
        rw last (rw here (rw (sym same) own))

pub ruleset placing = (places_none, places_more)

pub ruleset kept = (id_is, source_is, number_is)
