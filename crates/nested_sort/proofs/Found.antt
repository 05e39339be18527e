-- The documents that were found: they are documents of the view, and those of live objects.
use Rattle.std.specs.Prelude.{◌≡◌, ℕ, zero, suc, ◌+◌, ◌<◌, Bool, List, [], ◌∷◌, ◌++◌, length, filter, map, get_or, Option, Some, None, refl}
use Rattle.std.specs.List.{All, AllByRecursion}
use Rattle.std.proofs.Common.{arith, ap, sym, subst, ◌∙◌, append_assoc}
use Rattle.std.proofs.Math.ListN.{get_or-map}
use Rattle.std.proofs.Math.Seq.{get_or-append_seam}
use Rattle.std.proofs.lemmas.List.{length-append}
use Rattle.std.proofs.lemmas.List.Elements.{All-filter, All-from_recursion}
use Rattle.flattener.specs.StandsFor.{Marked}
use Rattle.mapping.specs.Mapping.{Mapping}
use Rattle.query_eval.specs.Found.{AreLong}
use Rattle.segment.specs.Live.{EntryState}
use Rattle.tree_joins.specs.Seen.{at_scope, seen}
use Rattle.tree_objects.specs.Object.{Object}
use Rattle.tree_objects.specs.Tree.{Tree}
use Rattle.view_objects.specs.declared.hit.Hit.{Hit}
use Rattle.view_objects.specs.Hits.{hits_from, hits_in, hits_of}
use Rattle.nested_sort.specs.Listed.{AreDocs, AreHits, IsDocOf, IsHitAt}
use Rattle.nested_sort.proofs.Chains.{all_append}

-- a hit has its score among all scores
abbrev IsTold : List (List (Option ℕ)) → Hit → Type 0
IsTold found hit = get_or (get_or found hit.place []) hit.doc None ≡ Some hit.score

one_longer : {A : Type 0} (xs : List A) (x : A) (k : ℕ) → length xs ≡ k → length (xs ++ x ∷ []) ≡ k + 1
one_longer xs x k same = length-append xs (x ∷ []) ∙ ap (λ n. n + 1) same

at_seam : {A : Type 0} (all before after : List A) (x d : A) (k : ℕ) → length before ≡ k → all ≡ before ++ x ∷ after → get_or all k d ≡ x
at_seam all before after x d k long same = ap (λ xs. get_or xs k d) same ∙ ap (λ n. get_or (before ++ x ∷ after) n d) (sym long) ∙ get_or-append_seam before x after d

told_from : (found : List (List (Option ℕ))) (place doc : ℕ) (before scores : List (Option ℕ)) → length before ≡ doc → get_or found place [] ≡ before ++ scores → AllByRecursion (IsTold found) (hits_from place doc scores)
told_from found place doc before [] long same = tt
told_from found place doc before (None ∷ scores) long same =
    told_from found place (doc + 1) (before ++ None ∷ []) scores (one_longer before None doc long) (same ∙ sym (append_assoc before (None ∷ []) scores))
told_from found place doc before (Some s ∷ scores) long same = (
  at_seam (get_or found place []) before scores (Some s) None doc long same,
  told_from found place (doc + 1) (before ++ Some s ∷ []) scores (one_longer before (Some s) doc long) (same ∙ sym (append_assoc before (Some s ∷ []) scores)),
)

told_of : (found : List (List (Option ℕ))) (place : ℕ) (before entries : List (List (Option ℕ))) → length before ≡ place → found ≡ before ++ entries → AllByRecursion (IsTold found) (hits_of place entries)
told_of found place before [] long same = tt
told_of found place before (scores ∷ entries) long same =
    all_append (IsTold found) (hits_from place 0 scores) (hits_of (place + 1) entries)
    (told_from found place 0 [] scores refl (at_seam found before entries scores [] place long same))
    (told_of found (place + 1) (before ++ scores ∷ []) entries (one_longer before scores place long) (same ∙ sym (append_assoc before (scores ∷ []) entries)))

told : (found : List (List (Option ℕ))) → AllByRecursion (IsTold found) (hits_in found)
told found = told_of found 0 [] found refl refl

weaker : {A : Type 0} (P Q : A → Type 0) → ((a : A) → P a → Q a) → (xs : List A) → AllByRecursion P xs → All Q xs
weaker {A} P Q goes xs all = All-from_recursion Q xs (by xs all)
  where
    by : (xs : List A) → AllByRecursion P xs → AllByRecursion Q xs
    by [] all = tt
    by (x ∷ xs) all = (goes x all.0, by xs all.1)

low_at : (scores : List (Option ℕ)) (doc s : ℕ) → get_or scores doc None ≡ Some s → doc < length scores
low_at [] doc s is = absurd (let no : ⊥ = cc in no)
low_at (x ∷ scores) zero s is = omega arith
low_at (x ∷ scores) (suc doc) s is = let more = low_at scores doc s is in omega arith

doc_at : (view : List EntryState) (found : List (List (Option ℕ))) (place doc s : ℕ) → AreLong view found → get_or (get_or found place []) doc None ≡ Some s → IsDocOf view place doc
doc_at [] [] place doc s long is = absurd (let no : ⊥ = cc in no)
doc_at [] (scores ∷ found) place doc s long is = absurd long
doc_at (e ∷ view) [] place doc s long is = absurd long
doc_at (e ∷ view) (scores ∷ found) zero doc s long is = subst (λ count. doc < count) long.0 (low_at scores doc s is)
doc_at (e ∷ view) (scores ∷ found) (suc place) doc s long is = doc_at view found place doc s long.1 is

pub docs_found : (view : List EntryState) (found : List (List (Option ℕ))) (hits : List Hit) → AreLong view found → hits ≡ hits_in found → AreDocs view hits
docs_found view found hits long are =
    subst (AreDocs view) (sym are) (weaker (IsTold found) (λ (hit : Hit). IsDocOf view hit.place hit.doc) (λ hit is. doc_at view found hit.place hit.doc hit.score long is) (hits_in found) (told found))

pub hits_found : (m : Mapping) (n : ℕ) (given : Object → Option ℕ) (trees : List (List (Marked Tree))) (found : List (List (Option ℕ))) (hits : List Hit) → found ≡ map (seen m (at_scope n given)) trees → hits ≡ hits_in found → AreHits m n trees hits
hits_found m n given trees found hits seen_all are =
    subst (AreHits m n trees) (sym are) (weaker (IsTold found) (λ (hit : Hit). IsHitAt m n trees hit.place hit.doc)
    (λ hit is. record { given = given; score = hit.score; is = sym (ap (λ l. get_or l hit.doc None) (ap (λ l. get_or l hit.place []) seen_all ∙ get_or-map (seen m (at_scope n given)) trees hit.place [])) ∙ is }) (hits_in found) (told found))

-- ---- some of them

module _ (keep : Hit → Bool) (found : List (List (Option ℕ))) (hits : List Hit) (are : hits ≡ filter keep (hits_in found)) where
  pub docs_chosen : (view : List EntryState) → AreLong view found → AreDocs view hits
  docs_chosen view long = subst (AreDocs view) (sym are) (All-filter keep (λ (hit : Hit). IsDocOf view hit.place hit.doc) (hits_in found) (docs_found view found (hits_in found) long refl))

  pub hits_chosen : (m : Mapping) (n : ℕ) (given : Object → Option ℕ) (trees : List (List (Marked Tree))) → found ≡ map (seen m (at_scope n given)) trees → AreHits m n trees hits
  hits_chosen m n given trees seen_all =
      subst (AreHits m n trees) (sym are) (All-filter keep (λ (hit : Hit). IsHitAt m n trees hit.place hit.doc) (hits_in found) (hits_found m n given trees found (hits_in found) seen_all refl))
