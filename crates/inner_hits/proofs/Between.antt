-- Hits inside a document.
use Rattle.std.proofs.Common.{◌≡◌, ℕ, zero, suc, ◌<◌, ◌≤◌, List as Seq, [], ◌∷◌, length, map, get_or, slice_get, IsSomeAnd, Option, Some, None, refl, sym, ap, subst, ◌∙◌, arith}
use Rattle.std.proofs.lemmas.List.Elements.{All-from_recursion}
use Rattle.flattener.specs.StandsFor.{Marked}
use Rattle.mapping.specs.Mapping.{Mapping}
use Rattle.nested_sort.specs.Listed.{AreDocs, AreHits, IsDocOf, IsHitAt}
use Rattle.query_eval.specs.Found.{AreLong}
use Rattle.segment.specs.Live.{EntryState}
use Rattle.tree_joins.specs.Seen.{at_scope, scopes_of, seen}
use Rattle.tree_joins.proofs.Each.{each_map}
use Rattle.tree_objects.specs.Object.{Object}
use Rattle.tree_objects.specs.Tree.{Tree}
use Rattle.view_objects.specs.Hits.{hit_object, hits_between, start_before}
use Rattle.view_objects.specs.declared.hit.Hit.{Hit}
use Rattle.inner_hits.proofs.Scored.{HasScore, have_scores}

doc_before : (entry : Option EntryState) (a b : ℕ) → a < b → IsSomeAnd entry (λ (e : EntryState). b < e.columns.documents) → IsSomeAnd entry (λ (e : EntryState). a < e.columns.documents)
doc_before None a b low is = is
doc_before (Some e) a b low is = let own : b < e.columns.documents = is in let there : a < e.columns.documents = omega (arith, low, own) in there

pub between_docs : (view : Seq EntryState) (place start doc : ℕ) (scores : Seq (Option ℕ)) → start ≤ doc → IsDocOf view place doc → AreDocs view (hits_between place start doc scores)
between_docs view place start doc scores up there =
    All-from_recursion (λ (h : Hit). IsDocOf view h.place h.doc) (hits_between place start doc scores)
    (each_map (HasScore place doc scores) (λ (h : Hit). IsDocOf view h.place h.doc)
    (λ h it. subst (λ p. IsDocOf view p h.doc) (sym it.at) (doc_before (slice_get view place) h.doc doc it.before there))
    (hits_between place start doc scores) (have_scores place start doc scores up))

pub between_hits : (m : Mapping) (n : ℕ) (given : Object → Option ℕ) (trees : Seq (Seq (Marked Tree))) (place start doc : ℕ) (scores : Seq (Option ℕ)) → start ≤ doc → scores ≡ seen m (at_scope n given) (get_or trees place []) → AreHits m n trees (hits_between place start doc scores)
between_hits m n given trees place start doc scores up own =
    All-from_recursion (λ (h : Hit). IsHitAt m n trees h.place h.doc) (hits_between place start doc scores)
    (each_map (HasScore place doc scores) (λ (h : Hit). IsHitAt m n trees h.place h.doc)
    (λ h it. record {
      given = given;
      score = h.score;
      is = ap (λ (p : ℕ). get_or (seen m (at_scope n given) (get_or trees p [])) h.doc None) it.at ∙ ap (λ (l : Seq (Option ℕ)). get_or l h.doc None) (sym own) ∙ it.score;
    })
    (hits_between place start doc scores) (have_scores place start doc scores up))

-- the scores of the entry at a place
pub scores_at : (m : Mapping) (f : Object → Option ℕ) (trees : Seq (Seq (Marked Tree))) (place : ℕ) (all : Seq (Seq (Option ℕ))) (own : Seq (Option ℕ)) → all ≡ map (seen m f) trees → place < length all → own ≡ get_or all place own → own ≡ seen m f (get_or trees place [])
scores_at m f trees place all own are low is = is ∙ ap (λ (l : Seq (Seq (Option ℕ))). get_or l place own) are ∙ by trees place (subst (λ (l : Seq (Seq (Option ℕ))). place < length l) are low)
  where
    by : (trees : Seq (Seq (Marked Tree))) (place : ℕ) → place < length (map (seen m f) trees) → get_or (map (seen m f) trees) place own ≡ seen m f (get_or trees place [])
    by [] place low = absurd (omega (arith, low))
    by (ts ∷ trees) zero low = refl
    by (ts ∷ trees) (suc place) low = by trees place (omega (arith, low))

pub below_found : (m : Mapping) (n p : ℕ) (given : Object → Option ℕ) (trees : Seq (Seq (Marked Tree))) (place start doc : ℕ) (scopes : Seq ℕ) (own : Seq (Option ℕ)) (hits : Seq Hit) (objects : Seq (Object × ℕ))
    → map (hit_object m trees) (hits_between place (start_before n doc (scopes_of m (get_or trees place []))) doc (seen m (at_scope p given) (get_or trees place []))) ≡ objects
    → start ≡ start_before n doc scopes → scopes ≡ scopes_of m (get_or trees place []) → own ≡ seen m (at_scope p given) (get_or trees place []) → hits ≡ hits_between place start doc own
    → map (hit_object m trees) hits ≡ objects
below_found m n p given trees place start doc scopes own hits objects law begins are same is =
    ap (map (hit_object m trees))
    (is
    ∙ ap (λ (k : ℕ). hits_between place k doc own) (begins ∙ ap (start_before n doc) are)
    ∙ ap (hits_between place (start_before n doc (scopes_of m (get_or trees place []))) doc) same)
    ∙ law

pub place_in : (view : Seq EntryState) (scores : Seq (Seq (Option ℕ))) (place doc : ℕ) → AreLong view scores → IsDocOf view place doc → place < length scores
place_in [] [] place doc long is = absurd is
place_in [] (s ∷ scores) place doc long is = absurd long
place_in (e ∷ view) [] place doc long is = absurd long
place_in (e ∷ view) (s ∷ scores) zero doc long is = omega arith
place_in (e ∷ view) (s ∷ scores) (suc place) doc long is = let more = place_in view scores place doc long.1 is in omega (arith, more)

pub long_in : (view : Seq EntryState) (scores : Seq (Seq (Option ℕ))) (place doc : ℕ) (own : Seq (Option ℕ)) → AreLong view scores → IsDocOf view place doc → own ≡ get_or scores place own → doc < length own
long_in [] [] place doc own long is at = absurd is
long_in [] (s ∷ scores) place doc own long is at = absurd long
long_in (e ∷ view) [] place doc own long is at = absurd long
long_in (e ∷ view) (s ∷ scores) zero doc own long is at = let same : length own ≡ length s = ap length at in let there : doc < e.columns.documents = is in let all : length s ≡ e.columns.documents = long.0 in omega (arith, there, all, same)
long_in (e ∷ view) (s ∷ scores) (suc place) doc own long is at = long_in view scores place doc own long.1 is at

pub entry_at : (view : Seq EntryState) (place doc : ℕ) (entry : EntryState) → IsDocOf view place doc → entry ≡ get_or view place entry → slice_get view place ≡ Some entry
entry_at [] place doc entry there is = absurd there
entry_at (e ∷ view) zero doc entry there is = ap (λ (x : EntryState). Some x) (sym is)
entry_at (e ∷ view) (suc place) doc entry there is = entry_at view place doc entry there is

pub doc_low : (view : Seq EntryState) (place doc : ℕ) (entry : EntryState) → IsDocOf view place doc → entry ≡ get_or view place entry → doc < entry.columns.documents
doc_low [] place doc entry there is = absurd there
doc_low (e ∷ view) zero doc entry there is = subst (λ (x : EntryState). doc < x.columns.documents) (sym is) there
doc_low (e ∷ view) (suc place) doc entry there is = doc_low view place doc entry there is

pub place_there : (view : Seq EntryState) (place doc : ℕ) → IsDocOf view place doc → place < length view
place_there [] place doc there = absurd there
place_there (e ∷ view) zero doc there = omega arith
place_there (e ∷ view) (suc place) doc there = let more = place_there view place doc there in omega (arith, more)

pub below_docs : (view : Seq EntryState) (place start doc : ℕ) (own : Seq (Option ℕ)) (hits : Seq Hit) → hits ≡ hits_between place start doc own → start ≤ doc → IsDocOf view place doc → AreDocs view hits
below_docs view place start doc own hits is up there = subst (λ (l : Seq Hit). AreDocs view l) (sym is) (between_docs view place start doc own up there)

pub below_hits : (m : Mapping) (n : ℕ) (given : Object → Option ℕ) (trees : Seq (Seq (Marked Tree))) (place start doc : ℕ) (own : Seq (Option ℕ)) (hits : Seq Hit) → hits ≡ hits_between place start doc own → start ≤ doc → own ≡ seen m (at_scope n given) (get_or trees place []) → AreHits m n trees hits
below_hits m n given trees place start doc own hits is up same = subst (λ (l : Seq Hit). AreHits m n trees l) (sym is) (between_hits m n given trees place start doc own up same)

pub ruleset inside = (place_in, long_in, place_there, doc_low, below_docs)
