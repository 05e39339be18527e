-- A phrase by the positions of one of its words.
use Rattle.std.proofs.Common.{◌≡◌, ℕ, suc, ◌+◌, ◌-◌, ◌<◌, Bool, true, false, ◌&&◌, List, [], ◌∷◌, ◌++◌, length, get_or, refl, sym, ap, ◌∙◌, inl, inr, arith, nat_eq, nat_le}
use Rattle.std.specs.List.{list_all, list_any}
use Rattle.std.proofs.lemmas.Bool.{and_parts, cases_Bool, eq-eqb, eqb-true, false≢true, false_from_ne_true, le-leb, leb-true, or_right}
use Rattle.std.proofs.lemmas.List.Folds.{list_all-append, list_all_at}
use Rattle.doc_values.specs.Values.{values_of}
use Rattle.postings.specs.Marks.{has_document}
use Rattle.leaf_search.specs.Words.{phrase_posted, posted, run_posted, stands_around}
use Rattle.leaf_search.proofs.Phrasing.{phrase_means}
use Rattle.leaf_search.proofs.Tests.{and_assoc, same_test}

abbrev Lists : Type 0
Lists = List (List (ℕ × List ℕ))

-- ---- a number of a list

record Witness (test : ℕ → Bool) (xs : List ℕ) : Type 0 where
  is : ℕ
  among : list_any (λ q. nat_eq q is) xs ≡ true
  passes : test is ≡ true

witness : (test : ℕ → Bool) (xs : List ℕ) → list_any test xs ≡ true → Witness test xs
witness test [] says = absurd (false≢true says)
witness test (x ∷ xs) says = elim (cases_Bool (test x)) [
  | inl here ↦ record { is = x; among = rw (eq-eqb x x refl) refl; passes = here }
  | inr fails ↦
      let rest = witness test xs (rw fails at says) in
      record { is = rest.is; among = or_right (nat_eq x rest.is) (list_any (λ q. nat_eq q rest.is) xs) rest.among; passes = rest.passes }
]

among_any : (test : ℕ → Bool) (xs : List ℕ) (p : ℕ) → list_any (λ q. nat_eq q p) xs ≡ true → test p ≡ true → list_any test xs ≡ true
among_any test [] p among passes = absurd (false≢true among)
among_any test (x ∷ xs) p among passes = elim (cases_Bool (nat_eq x p)) [
  | inl same ↦
      let here : test x ≡ true = ap test (eqb-true x p same) ∙ passes in
      rw here refl
  | inr other ↦ or_right (test x) (list_any test xs) (among_any test xs p (rw other at among) passes)
]

-- ---- runs

run_append : (before behind : Lists) (doc at : ℕ) → run_posted (before ++ behind) doc at ≡ (run_posted before doc at && run_posted behind doc (at + length before))
run_append [] behind doc at =
    let same : at ≡ at + length {A = List (ℕ × List ℕ)} [] = omega arith in
    ap (run_posted behind doc) same
run_append (list ∷ before) behind doc at =
    let same : at + 1 + length before ≡ at + length (list ∷ before) = omega arith in
    let own : Bool = list_any (λ p. nat_eq p at) (values_of doc list) in
    ap (λ (b : Bool). own && b) (run_append before behind doc (at + 1))
    ∙ ap (λ (n : ℕ). own && (run_posted before doc (at + 1) && run_posted behind doc n)) same
    ∙ sym (and_assoc own (run_posted before doc (at + 1)) (run_posted behind doc (at + length (list ∷ before))))

pub begins_at : (lists : Lists) (doc : ℕ) → phrase_posted lists doc ≡ true → (start : ℕ) × (run_posted lists doc start ≡ true)
begins_at [] doc says = absurd (false≢true says)
begins_at (list ∷ lists) doc says =
    let one = witness (λ p. run_posted lists doc (p + 1)) (values_of doc list) says in
    (one.is, rw (one.among, one.passes) refl)

pub stands_from : (before behind : Lists) (own : List (ℕ × List ℕ)) (doc start : ℕ) → run_posted (before ++ own ∷ behind) doc start ≡ true → phrase_posted (before ++ own ∷ behind) doc ≡ true
stands_from [] behind own doc start says =
    let parts = and_parts (list_any (λ p. nat_eq p start) (values_of doc own)) (run_posted behind doc (start + 1)) says in
    among_any (λ p. run_posted behind doc (p + 1)) (values_of doc own) start parts.0 parts.1
stands_from (list ∷ before) behind own doc start says =
    let rest : Lists = before ++ own ∷ behind in
    let parts = and_parts (list_any (λ p. nat_eq p start) (values_of doc list)) (run_posted rest doc (start + 1)) says in
    among_any (λ p. run_posted rest doc (p + 1)) (values_of doc list) start parts.0 parts.1

module _ (before behind : Lists) (own : List (ℕ × List ℕ)) (doc : ℕ) where
  from_phrase : phrase_posted (before ++ own ∷ behind) doc ≡ true → list_any (stands_around before behind doc) (values_of doc own) ≡ true
  from_phrase says =
      let one = begins_at (before ++ own ∷ behind) doc says in
      let p : ℕ = one.0 + length before in
      let halves = and_parts (run_posted before doc one.0) (run_posted (own ∷ behind) doc p) (sym (run_append before (own ∷ behind) doc one.0) ∙ one.1) in
      let there = and_parts (list_any (λ q. nat_eq q p) (values_of doc own)) (run_posted behind doc (p + 1)) halves.1 in
      let back : p - length before ≡ one.0 = omega arith in
      let first : run_posted before doc (p - length before) ≡ true = ap (run_posted before doc) back ∙ halves.0 in
      among_any (stands_around before behind doc) (values_of doc own) p there.0 (rw (le-leb (length before) p (omega arith), first, there.1) refl)

  to_phrase : list_any (stands_around before behind doc) (values_of doc own) ≡ true → phrase_posted (before ++ own ∷ behind) doc ≡ true
  to_phrase says =
      let one = witness (stands_around before behind doc) (values_of doc own) says in
      let p : ℕ = one.is in
      let start : ℕ = p - length before in
      let parts = and_parts (nat_le (length before) p) (run_posted before doc start && run_posted behind doc (p + 1)) one.passes in
      let runs = and_parts (run_posted before doc start) (run_posted behind doc (p + 1)) parts.1 in
      let back : start + length before ≡ p = omega (arith, leb-true (length before) p parts.0) in
      let rest : run_posted (own ∷ behind) doc p ≡ true = rw (one.among, runs.1) refl in
      stands_from before behind own doc start
      (run_append before (own ∷ behind) doc start ∙ ap (λ (b : Bool). b && run_posted (own ∷ behind) doc (start + length before)) runs.0 ∙ ap (run_posted (own ∷ behind) doc) back ∙ rest)

  pub phrase_around : list_any (stands_around before behind doc) (values_of doc own) ≡ phrase_posted (before ++ own ∷ behind) doc
  phrase_around = same_test (list_any (stands_around before behind doc) (values_of doc own)) (phrase_posted (before ++ own ∷ behind) doc) to_phrase from_phrase

-- ---- a document that has all words

all_from : (doc : ℕ) (lists : Lists) → ((k : ℕ) → k < length lists → has_document doc (get_or lists k []) ≡ true) → list_all (has_document doc) lists ≡ true
all_from doc [] each = refl
all_from doc (list ∷ lists) each = rw (each 0 (omega arith)) (all_from doc lists (λ k inside. each (suc k) (omega (arith, inside))))

pub posted_all : (in_order : Bool) (lists : Lists) (doc : ℕ) → posted in_order lists doc ≡ true → list_all (has_document doc) lists ≡ true
posted_all true lists doc says = all_from doc lists (λ k inside. phrase_means lists doc k says inside)
posted_all false lists doc says = says

pub posted_means : (in_order : Bool) (lists : Lists) (doc k : ℕ) → k < length lists → posted in_order lists doc ≡ true → has_document doc (get_or lists k []) ≡ true
posted_means in_order lists doc k inside says = elim (cases_Bool (has_document doc (get_or lists k []))) [
  | inl there ↦ there
  | inr none ↦ absurd (false≢true (sym (list_all_at (has_document doc) lists k [] inside none) ∙ posted_all in_order lists doc says))
]

module _ (in_order : Bool) (before behind : Lists) (own : List (ℕ × List ℕ)) (doc : ℕ) where
  all_parts : list_all (has_document doc) (before ++ own ∷ behind) ≡ (list_all (has_document doc) before && (has_document doc own && list_all (has_document doc) behind))
  all_parts = list_all-append (has_document doc) before (own ∷ behind)

  pub fails_before : list_all (has_document doc) before ≡ false → false ≡ posted in_order (before ++ own ∷ behind) doc
  fails_before none =
      sym (false_from_ne_true (posted in_order (before ++ own ∷ behind) doc) (λ yes. false≢true
      (sym (ap (λ (b : Bool). b && (has_document doc own && list_all (has_document doc) behind)) none) ∙ sym all_parts ∙ posted_all in_order (before ++ own ∷ behind) doc yes)))

  pub fails_behind : list_all (has_document doc) behind ≡ false → false ≡ posted in_order (before ++ own ∷ behind) doc
  fails_behind none =
      sym (false_from_ne_true (posted in_order (before ++ own ∷ behind) doc) (λ yes.
      let outer = and_parts (list_all (has_document doc) before) (has_document doc own && list_all (has_document doc) behind) (sym all_parts ∙ posted_all in_order (before ++ own ∷ behind) doc yes) in
      let inner = and_parts (has_document doc own) (list_all (has_document doc) behind) outer.1 in
      false≢true (sym none ∙ inner.1)))

  pub all_there : in_order ≡ false → list_all (has_document doc) before ≡ true → has_document doc own ≡ true → list_all (has_document doc) behind ≡ true → true ≡ posted in_order (before ++ own ∷ behind) doc
  all_there anywhere first here rest =
      sym (ap (λ (b : Bool). posted b (before ++ own ∷ behind) doc) anywhere ∙ all_parts ∙ rw (first, here, rest) refl)

  pub in_turn : (says : Bool) (ps : List ℕ) → in_order ≡ true → says ≡ list_any (stands_around before behind doc) ps → ps ≡ values_of doc own → says ≡ posted in_order (before ++ own ∷ behind) doc
  in_turn says ps ordered is positions =
      is ∙ ap (list_any (stands_around before behind doc)) positions ∙ phrase_around before behind own doc ∙ sym (ap (λ (b : Bool). posted b (before ++ own ∷ behind) doc) ordered)
