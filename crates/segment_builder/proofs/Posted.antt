-- The terms of a segment have just the documents that carry them: what its postings say at a term, and what documents say.
use Rattle.std.proofs.Common.{◌≡◌, ℕ, ℤ, suc, zero, ◌+◌, ◌<◌, ◌==◌, Bool, true, false, ◌&&◌, ◌||◌, List, [], ◌∷◌, map, slice_get, Some, refl, sym, ap, subst, ◌∙◌, arith, eq-eqb, eqb-true}
use Rattle.std.specs.List.{AllByRecursion, list_any}
use Rattle.std.specs.Ordering.{eq_by_cmp, nat_cmp}
use Rattle.std.specs.Str.{bytes_eq}
use Rattle.std.specs.declared.cmp.Ordering.{Ordering}
use Rattle.std.proofs.lemmas.List.Folds.{list_any-append}
use Rattle.std.proofs.lemmas.Map.Text.{is_eq-slice_cmp}
use Rattle.segment.specs.Flat.{FlatDocument}
use Rattle.segment.specs.Shows.{has_term, is_keyword_of, is_number_of, is_word_of, posts}
use Rattle.term_table.specs.Keys.{number_key}
use Rattle.term_table.specs.Terms.{term_cmp}
use Rattle.term_table.specs.declared.rows.TermRow.{TermRow}
use Rattle.segment_builder.specs.Groups.{in_groups, of_key}
use Rattle.segment_builder.specs.Parts.{tagged}
use Rattle.segment_builder.specs.Terms.{keyword_terms, number_terms, once, once_after, row_group, terms_at}
use Rattle.segment_builder.proofs.Among.{any_mapped}
use Rattle.segment_builder.proofs.Grown.{by_doc, of_append}
use Rattle.segment_builder.proofs.Keys.{split}
use Rattle.segment_builder.proofs.Onced.{same_bytes}
use Rattle.segment_builder.proofs.Orders.{term_order}
use Rattle.segment_builder.proofs.Rising.{key_is}
use Rattle.segment_builder.proofs.SameRows.{is_doc}
use Rattle.segment_builder.proofs.Sorted.{same_field}
use Rattle.segment_builder.proofs.Taking.{TermEntry}

-- ---- the documents of what documents carry at a key

or_none : (b : Bool) → (b || false) ≡ b
or_none true = refl
or_none false = refl

module _ {K X : Type 0} (cmp : K → K → Ordering) (tag : ℕ → FlatDocument → List (K × (ℕ × X)))
    (own : (doc : ℕ) (flat : FlatDocument) → AllByRecursion (λ (entry : K × (ℕ × X)). entry.1.0 ≡ doc) (tag doc flat)) (key : K) where
  abbrev has_key : K × (ℕ × X) → Bool
  has_key entry = eq_by_cmp cmp key entry.0

  any_own : (doc : ℕ) (entries : List (K × (ℕ × X))) → AllByRecursion (λ (entry : K × (ℕ × X)). entry.1.0 ≡ doc) entries → list_any (is_doc doc) (of_key cmp key entries) ≡ list_any has_key entries
  any_own doc [] all = refl
  any_own doc (entry ∷ entries) all =
      split (eq_by_cmp cmp key entry.0)
      (λ is. rw (is, eq-eqb entry.1.0 doc all.0) refl)
      (λ isnt. rw isnt (any_own doc entries all.1))

  any_other : (doc n : ℕ) (entries : List (K × (ℕ × X))) → (n == doc) ≡ false → AllByRecursion (λ (entry : K × (ℕ × X)). entry.1.0 ≡ n) entries → list_any (is_doc doc) (of_key cmp key entries) ≡ false
  any_other doc n [] apart all = refl
  any_other doc n (entry ∷ entries) apart all =
      let other : (entry.1.0 == doc) ≡ false = subst (λ k. (k == doc) ≡ false) (sym all.0) apart in
      split (eq_by_cmp cmp key entry.0)
      (λ is. rw (is, other) (any_other doc n entries apart all.1))
      (λ isnt. rw isnt (any_other doc n entries apart all.1))

  differ : (n doc : ℕ) → (n ≡ doc → ⊥) → (n == doc) ≡ false
  differ n doc apart = split (n == doc) (λ is. absurd (apart (eqb-true n doc is))) (λ isnt. isnt)

  any_before : (doc n : ℕ) (flats : List FlatDocument) → doc < n → list_any (is_doc doc) (of_key cmp key (by_doc tag n flats)) ≡ false
  any_before doc n [] less = refl
  any_before doc n (flat ∷ flats) less =
      let first : list_any (is_doc doc) (of_key cmp key (tag n flat)) ≡ false = any_other doc n (tag n flat) (differ n doc (λ e. omega (arith, less, e))) (own n flat) in
      ap (list_any (is_doc doc)) (of_append cmp key (tag n flat) (by_doc tag (n + 1) flats))
      ∙ list_any-append (is_doc doc) (of_key cmp key (tag n flat)) (of_key cmp key (by_doc tag (n + 1) flats))
      ∙ rw first (any_before doc (n + 1) flats (omega (arith, less)))

  pub any_at : (n d : ℕ) (flats : List FlatDocument) (flat : FlatDocument) → slice_get flats d ≡ Some flat → list_any (is_doc (n + d)) (of_key cmp key (by_doc tag n flats)) ≡ list_any has_key (tag (n + d) flat)
  any_at n d [] flat is = absurd (cc (is))
  any_at n zero (first ∷ flats) flat is =
      let here : first ≡ flat = cc (is) in
      let e : n + zero ≡ n = omega arith in
      let mine : list_any (is_doc n) (of_key cmp key (tag n first)) ≡ list_any has_key (tag n first) = any_own n (tag n first) (own n first) in
      let rest : list_any (is_doc n) (of_key cmp key (by_doc tag (n + 1) flats)) ≡ false = any_before n (n + 1) flats (omega arith) in
      rw e
      (ap (list_any (is_doc n)) (of_append cmp key (tag n first) (by_doc tag (n + 1) flats))
      ∙ list_any-append (is_doc n) (of_key cmp key (tag n first)) (of_key cmp key (by_doc tag (n + 1) flats))
      ∙ rw (rest, mine) (or_none (list_any has_key (tag n first)))
      ∙ ap (λ f. list_any has_key (tag n f)) here)
  any_at n (suc d) (first ∷ flats) flat is =
      let e : n + suc d ≡ n + 1 + d = omega arith in
      let mine : list_any (is_doc (n + 1 + d)) (of_key cmp key (tag n first)) ≡ false = any_other (n + 1 + d) n (tag n first) (differ n (n + 1 + d) (λ same. omega (arith, same))) (own n first) in
      rw e
      (ap (list_any (is_doc (n + 1 + d))) (of_append cmp key (tag n first) (by_doc tag (n + 1) flats))
      ∙ list_any-append (is_doc (n + 1 + d)) (of_key cmp key (tag n first)) (of_key cmp key (by_doc tag (n + 1) flats))
      ∙ rw mine (any_at (n + 1) d flats flat is))

-- ---- terms by their field and their bytes

abbrev pub is_term : ℕ × List ℕ → ℕ × List ℕ → Bool
is_term term other = (other.0 == term.0) && bytes_eq term.1 other.1

term_test : (term other : ℕ × List ℕ) → eq_by_cmp term_cmp term other ≡ is_term term other
term_test term other =
    split (other.0 == term.0)
    (λ is.
    let same : nat_cmp term.0 other.0 ≡ nat_cmp term.0 term.0 = ap (nat_cmp term.0) (eqb-true other.0 term.0 is) in
    rw (is, same, same_field term.0) (is_eq-slice_cmp term.1 other.1))
    (λ isnt.
    rw isnt
    (split (eq_by_cmp term_cmp term other)
    (λ found. absurd (
    let same : term ≡ other = key_is term_cmp term_order term other found in
    let never : true ≡ false = sym (eq-eqb other.0 term.0 (ap (λ (t : ℕ × List ℕ). t.0) (sym same))) ∙ isnt in cc (never)))
    (λ none. none)))

abbrev has_term_key : ℕ × List ℕ → TermEntry → Bool
has_term_key term entry = eq_by_cmp term_cmp term entry.0

pub any_words : (term : ℕ × List ℕ) (doc : ℕ) (words : List ((ℕ × List ℕ) × List ℕ)) → list_any (has_term_key term) (tagged doc words) ≡ list_any (is_word_of term.0 (bytes_eq term.1)) words
any_words term doc [] = refl
any_words term doc (word ∷ words) = rw (term_test term word.0, any_words term doc words) refl

and_none : (a : Bool) → false ≡ (a && false)
and_none true = refl
and_none false = refl

and_both : (a b c : Bool) → ((a && b) || (a && c)) ≡ (a && (b || c))
and_both true b c = refl
and_both false b c = refl

any_terms : (term : ℕ × List ℕ) (field doc : ℕ) (values : List (List ℕ)) → list_any (has_term_key term) (terms_at field doc values) ≡ ((field == term.0) && list_any (bytes_eq term.1) values)
any_terms term field doc [] = and_none (field == term.0)
any_terms term field doc (value ∷ values) =
    rw (term_test term (field, value), any_terms term field doc values) (and_both (field == term.0) (bytes_eq term.1 value) (list_any (bytes_eq term.1) values))

-- each value once
skipped : (test : List ℕ → Bool) (last value : List ℕ) (b c : Bool) → value ≡ last → (test value || b) ≡ (test value || c) → (test last || b) ≡ (test last || (test value || c))
skipped test last value b c same rest = ap (λ v. test v || b) (sym same) ∙ rest ∙ twice (test value) c ∙ ap (λ v. test v || (test value || c)) same
  where
    twice : (x y : Bool) → (x || y) ≡ (x || (x || y))
    twice true y = refl
    twice false y = refl

any_once_after : (test : List ℕ → Bool) (last : List ℕ) (values : List (List ℕ)) → (test last || list_any test (once_after last values)) ≡ (test last || list_any test values)
any_once_after test last [] = refl
any_once_after test last (value ∷ values) =
    let rest : (test value || list_any test (once_after value values)) ≡ (test value || list_any test values) = any_once_after test value values in
    split (bytes_eq value last)
    (λ is. rw is (skipped test last value (list_any test (once_after value values)) (list_any test values) (same_bytes value last is) rest))
    (λ isnt. rw isnt (ap (λ b. test last || b) rest))

any_once : (test : List ℕ → Bool) (values : List (List ℕ)) → list_any test (once values) ≡ list_any test values
any_once test [] = refl
any_once test (value ∷ values) = any_once_after test value values

pub any_keywords : (term : ℕ × List ℕ) (doc : ℕ) (keywords : List (ℕ × List (List ℕ))) → list_any (has_term_key term) (keyword_terms (tagged doc keywords)) ≡ list_any (is_keyword_of term.0 (bytes_eq term.1)) keywords
any_keywords term doc [] = refl
any_keywords term doc (own ∷ keywords) =
    let first : list_any (has_term_key term) (terms_at own.0 doc (once own.1)) ≡ ((own.0 == term.0) && list_any (bytes_eq term.1) own.1) = any_terms term own.0 doc (once own.1) ∙ ap (λ b. (own.0 == term.0) && b) (any_once (bytes_eq term.1) own.1) in
    list_any-append (has_term_key term) (terms_at own.0 doc (once own.1)) (keyword_terms (tagged doc keywords)) ∙ rw (first, any_keywords term doc keywords) refl

pub any_numbers : (term : ℕ × List ℕ) (doc : ℕ) (numbers : List (ℕ × List ℤ)) → list_any (has_term_key term) (number_terms (tagged doc numbers)) ≡ list_any (is_number_of term.0 (bytes_eq term.1)) numbers
any_numbers term doc [] = refl
any_numbers term doc (own ∷ numbers) =
    let keys : List (List ℕ) = map number_key own.1 in
    let first : list_any (has_term_key term) (terms_at own.0 doc (once keys)) ≡ ((own.0 == term.0) && list_any (λ number. bytes_eq term.1 (number_key number)) own.1) =
    any_terms term own.0 doc (once keys) ∙ ap (λ b. (own.0 == term.0) && b) (any_once (bytes_eq term.1) keys ∙ any_mapped number_key (bytes_eq term.1) own.1) in
    list_any-append (has_term_key term) (terms_at own.0 doc (once keys)) (number_terms (tagged doc numbers)) ∙ rw (first, any_numbers term doc numbers) refl

any_order : (a b c : Bool) → ((a || b) || c) ≡ (b || (c || a))
any_order true true c = refl
any_order true false true = refl
any_order true false false = refl
any_order false true c = refl
any_order false false true = refl
any_order false false false = refl

-- a document has a term by a word, a keyword or a number
pub any_has : (term : ℕ × List ℕ) (flat : FlatDocument)
    → ((list_any (is_word_of term.0 (bytes_eq term.1)) flat.words || list_any (is_keyword_of term.0 (bytes_eq term.1)) flat.keywords) || list_any (is_number_of term.0 (bytes_eq term.1)) flat.numbers) ≡ has_term term.0 (bytes_eq term.1) flat
unfolding has_term
any_has term flat = any_order (list_any (is_word_of term.0 (bytes_eq term.1)) flat.words) (list_any (is_keyword_of term.0 (bytes_eq term.1)) flat.keywords) (list_any (is_number_of term.0 (bytes_eq term.1)) flat.numbers)

-- ---- the documents of postings

pub posted_at : (term : ℕ × List ℕ) (doc : ℕ) (rows : List TermRow) → list_any (is_doc doc) (in_groups term_cmp term (map row_group rows)) ≡ list_any (posts term.0 doc (bytes_eq term.1)) rows
posted_at term doc [] = refl
posted_at term doc (row ∷ rows) =
    let test = term_test term row.term in
    split (eq_by_cmp term_cmp term row.term)
    (λ is.
    let own : is_term term row.term ≡ true = sym test ∙ is in
    rw (is, own) (list_any-append (is_doc doc) row.postings (in_groups term_cmp term (map row_group rows)) ∙ ap (λ b. list_any (is_doc doc) row.postings || b) (posted_at term doc rows)))
    (λ isnt.
    let other : is_term term row.term ≡ false = sym test ∙ isnt in
    rw (isnt, other) (posted_at term doc rows))
