-- Terms of which each is kept once: a test holds of one of them, or of all, as before.
use Rattle.std.proofs.Common.{◌≡◌, ℕ, ◌+◌, ◌<◌, ◌≤◌, Bool, true, false, not, ◌||◌, List, [], ◌∷◌, length, map, take, get_or, bytes_eq, refl, sym, ap, subst, ◌∙◌, inl, inr}
use Rattle.std.specs.List.{list_any, list_all, dedup, dedup_from}
use Rattle.std.proofs.lemmas.Bool.{cases_Bool}
use Rattle.std.proofs.lemmas.List.{get_or_default, take_all}
use denote.Ref.{Bor}
use Rattle.segment.specs.Flat.{FlatDocument, flats_of}
use Rattle.segment.specs.Shows.{has_term}
use Rattle.segment_parts.specs.declared.columns.Columns.{Columns}
use Rattle.tree_objects.specs.declared.field_value.FieldValue.{FieldValue}
use Rattle.leaf_search.specs.Keys.{has_bytes, has_one_of, key_of}
use Rattle.leaf_search.specs.Sets.{Gains}
use Rattle.leaf_search.specs.Words.{shows_some}
use Rattle.leaf_search.proofs.Gaining.{gains_more, gains_same}
use Rattle.leaf_search.proofs.Tests.{any-map}

again : (a b : Bool) → (a || (a || b)) ≡ (a || b)
again true b = refl
again false b = refl

module _ {X : Type 0} (same : X → X → Bool) (p : X → Bool) (alike : (x y : X) → same x y ≡ true → p x ≡ p y) where
  any_from : (x : X) (xs : List X) → list_any p (dedup_from same x xs) ≡ (p x || list_any p xs)
  any_from x [] = refl
  any_from x (y ∷ ys) = elim (cases_Bool (same y x)) [
    | inl here ↦ rw here (any_from x ys ∙ sym (again (p x) (list_any p ys)) ∙ ap (λ (b : Bool). p x || (b || list_any p ys)) (sym (alike y x here)))
    | inr other ↦ rw other (ap (λ (b : Bool). p x || b) (any_from y ys))
  ]

  pub any-dedup : (xs : List X) → list_any p (dedup same xs) ≡ list_any p xs
  any-dedup [] = refl
  any-dedup (x ∷ xs) = any_from x xs

module _ {X : Type 0} (p : X → Bool) where
  pub all_by_any : (xs : List X) → list_all p xs ≡ not (list_any (λ (x : X). not (p x)) xs)
  all_by_any [] = refl
  all_by_any (x ∷ xs) = elim (cases_Bool (p x)) [
    | inl holds ↦ rw holds (all_by_any xs)
    | inr fails ↦ rw fails refl
  ]

abbrev pub lent_words : List (Bor (List ℕ)) → List (List ℕ)
lent_words terms = map (λ (term : Bor (List ℕ)). term.now) terms

-- a test of the terms themselves
pub any_of_terms : (terms found : List (Bor (List ℕ))) (others : List (List ℕ)) → ((test : List ℕ → Bool) → list_any (λ (term : Bor (List ℕ)). test term.now) found ≡ list_any (λ (term : Bor (List ℕ)). test term.now) terms) → lent_words terms ≡ others
    → (test : List ℕ → Bool) → list_any test (lent_words found) ≡ list_any test others
any_of_terms terms found others kept are test =
    any-map test (λ (term : Bor (List ℕ)). term.now) found ∙ kept test ∙ sym (any-map test (λ (term : Bor (List ℕ)). term.now) terms) ∙ ap (list_any test) are

-- which documents show the words
same_map : {X Y : Type 0} (f g : X → Y) → ((x : X) → f x ≡ g x) → (xs : List X) → map f xs ≡ map g xs
same_map f g same [] = refl
same_map {Y = Y} f g same (x ∷ xs) = ap (λ (y : Y). y ∷ map f xs) (same x) ∙ ap (λ (ys : List Y). g x ∷ ys) (same_map f g same xs)

abbrev pub SameTests : List (Bor (List ℕ)) → List (List ℕ) → Type 0
SameTests found words = (test : List ℕ → Bool) → list_any test (lent_words found) ≡ list_any test words

pub some_alike : (c : Columns) (f : ℕ) (found : List (Bor (List ℕ))) (words : List (List ℕ)) → SameTests found words → map (shows_some f (lent_words found)) (flats_of c) ≡ map (shows_some f words) (flats_of c)
some_alike c f found words same = same_map (shows_some f (lent_words found)) (shows_some f words) (λ d. same (has_bytes f d)) (flats_of c)

-- ---- a loop that marks the documents of terms

pub terms_more : (c : Columns) (f : ℕ) (terms : List (Bor (List ℕ))) (at : ℕ) (d : Bor (List ℕ)) (old now new : List Bool) → at < length terms
    → Gains c (shows_some f (lent_words (take at terms))) old now → Gains c (has_term f (bytes_eq (get_or terms at d).now)) now new → Gains c (shows_some f (lent_words (take (at + 1) terms))) old new
terms_more c f terms at d old now new inside was own =
    let term : Bor (List ℕ) = get_or terms at d in
    let test : FlatDocument → Bor (List ℕ) → Bool = λ d (t : Bor (List ℕ)). has_bytes f d t.now in
    let bytes : Bor (List ℕ) → List ℕ = λ (t : Bor (List ℕ)). t.now in
    gains_same c (λ d. list_any (test d) (take (at + 1) terms)) (shows_some f (lent_words (take (at + 1) terms))) old new (λ d. sym (any-map (has_bytes f d) bytes (take (at + 1) terms)))
    (gains_more c test terms at term old now new inside (get_or_default terms at term d inside)
    (gains_same c (shows_some f (lent_words (take at terms))) (λ d. list_any (test d) (take at terms)) old now (λ d. any-map (has_bytes f d) bytes (take at terms)) was) own)

pub terms_all : (c : Columns) (f : ℕ) (terms : List (Bor (List ℕ))) (at : ℕ) (old new : List Bool) → length terms ≤ at → Gains c (shows_some f (lent_words (take at terms))) old new → Gains c (shows_some f (lent_words terms)) old new
terms_all c f terms at old new past gains = subst (λ (ts : List (Bor (List ℕ))). Gains c (shows_some f (lent_words ts)) old new) (take_all at terms past) gains

-- terms of values, each once
pub values_gain : (c : Columns) (f : ℕ) (found : List (Bor (List ℕ))) (keys : List (List ℕ)) (values : List FieldValue) (old new : List Bool) → SameTests found keys → keys ≡ map key_of values → Gains c (shows_some f (lent_words found)) old new
    → Gains c (has_one_of f values) old new
values_gain c f found keys values old new same are =
    gains_same c (shows_some f (lent_words found)) (has_one_of f values) old new
    (λ d. same (has_bytes f d) ∙ ap (list_any (has_bytes f d)) are ∙ any-map (has_bytes f d) key_of values)
