-- Phrases by the postings of their words.
use Rattle.std.proofs.Common.{◌≡◌, ℕ, zero, suc, ◌+◌, ◌<◌, Bool, true, false, ◌&&◌, List, [], ◌∷◌, ◌++◌, length, map, get_or, replicate, All, Some, slice_get, refl, sym, ap, ◌∙◌, inl, inr, arith, nat_eq}
use Rattle.std.specs.List.{list_any}
use Rattle.std.specs.Str.{bytes_eq}
use Rattle.std.proofs.lemmas.Bool.{cases_Bool, and_parts, false≢true}
use Rattle.std.proofs.lemmas.List.{ext_get_or, get_or-replicate, length-replicate, length-map, get_or-map}
use Rattle.std.proofs.lemmas.List.FromFn.{get_or-map-range_with_len, length-map-range_with_len}
use Rattle.std.proofs.lemmas.Option.{slice_get_within}
use Rattle.doc_values.specs.Values.{values_of}
use Rattle.postings.specs.Marks.{has_document}
use Rattle.segment.specs.Flat.{FlatDocument, flat_of, flats_of}
use Rattle.segment.specs.Lists.{terms_of, postings_of}
use Rattle.segment_parts.specs.declared.columns.Columns.{Columns}
use Rattle.leaf_search.specs.Sets.{cut}
use Rattle.segment.specs.Shows.{has_word_at, is_word_at}
use Rattle.leaf_search.specs.Words.{AreOrdinals, lists_at, phrase_posted, run_posted, run_stands, shows_phrase}
use Rattle.leaf_search.proofs.Tests.{any_same, any_never, and_false}

-- ---- by documents and by lists

module _ (c : Columns) (field doc : ℕ)
    (law : (ordinal : ℕ) (word : List ℕ) (test : ℕ → Bool) → slice_get (terms_of c) ordinal ≡ Some (field, word) → has_word_at field word test (flat_of c doc) ≡ list_any test (values_of doc (get_or (postings_of c) ordinal []))) where
  run_by_lists : (words : List (List ℕ)) (ordinals : List ℕ) (at : ℕ) → AreOrdinals (terms_of c) field words ordinals → run_stands field (flat_of c doc) words at ≡ run_posted (lists_at (postings_of c) ordinals) doc at
  run_by_lists [] [] at are = refl
  run_by_lists [] (ordinal ∷ ordinals) at are = absurd are
  run_by_lists (word ∷ words) [] at are = absurd are
  run_by_lists (word ∷ words) (ordinal ∷ ordinals) at are =
      rw (law ordinal word (λ p. nat_eq p at) are.0, run_by_lists words ordinals (at + 1) are.1) refl

  pub phrase_by_lists : (words : List (List ℕ)) (ordinals : List ℕ) → AreOrdinals (terms_of c) field words ordinals → shows_phrase field words (flat_of c doc) ≡ phrase_posted (lists_at (postings_of c) ordinals) doc
  phrase_by_lists [] [] are = refl
  phrase_by_lists [] (ordinal ∷ ordinals) are = absurd are
  phrase_by_lists (word ∷ words) [] are = absurd are
  phrase_by_lists (word ∷ words) (ordinal ∷ ordinals) are =
      law ordinal word (λ p. run_stands field (flat_of c doc) words (p + 1)) are.0
      ∙ any_same (λ p. run_stands field (flat_of c doc) words (p + 1)) (λ p. run_posted (lists_at (postings_of c) ordinals) doc (p + 1)) (λ p. run_by_lists words ordinals (p + 1) are.1) (values_of doc (get_or (postings_of c) ordinal []))

-- ---- a phrase stands only where each of its words does

no_values : (doc : ℕ) (list : List (ℕ × List ℕ)) → has_document doc list ≡ false → values_of doc list ≡ []
no_values doc [] none = refl
no_values doc (posting ∷ list) none = elim (cases_Bool (nat_eq posting.0 doc)) [
  | inl here ↦ absurd (let no : true ≡ false = rw here at none in false≢true (sym no))
  | inr other ↦ rw other (no_values doc list (rw other at none))
]

stands_means : (doc : ℕ) (list : List (ℕ × List ℕ)) (test : ℕ → Bool) → list_any test (values_of doc list) ≡ true → has_document doc list ≡ true
stands_means doc list test says = elim (cases_Bool (has_document doc list)) [
  | inl there ↦ there
  | inr none ↦ absurd (false≢true (sym (ap (list_any test) (no_values doc list none)) ∙ says))
]

run_means : (lists : List (List (ℕ × List ℕ))) (doc at k : ℕ) → run_posted lists doc at ≡ true → k < length lists → has_document doc (get_or lists k []) ≡ true
run_means [] doc at k says inside = absurd (omega (arith, inside))
run_means (list ∷ lists) doc at zero says inside =
    stands_means doc list (λ p. nat_eq p at) (and_parts (list_any (λ p. nat_eq p at) (values_of doc list)) (run_posted lists doc (at + 1)) says).0
run_means (list ∷ lists) doc at (suc k) says inside =
    run_means lists doc (at + 1) k (and_parts (list_any (λ p. nat_eq p at) (values_of doc list)) (run_posted lists doc (at + 1)) says).1 (omega (arith, inside))

some_means : (lists : List (List (ℕ × List ℕ))) (doc k : ℕ) (positions : List ℕ) → list_any (λ p. run_posted lists doc (p + 1)) positions ≡ true → k < length lists → has_document doc (get_or lists k []) ≡ true
some_means lists doc k [] says inside = absurd (false≢true says)
some_means lists doc k (p ∷ positions) says inside = elim (cases_Bool (run_posted lists doc (p + 1))) [
  | inl here ↦ run_means lists doc (p + 1) k here inside
  | inr none ↦ some_means lists doc k positions (rw none at says) inside
]

pub phrase_means : (lists : List (List (ℕ × List ℕ))) (doc k : ℕ) → phrase_posted lists doc ≡ true → k < length lists → has_document doc (get_or lists k []) ≡ true
phrase_means [] doc k says inside = absurd (omega (arith, inside))
phrase_means (list ∷ lists) doc zero says inside = stands_means doc list (λ p. run_posted lists doc (p + 1)) says
phrase_means (list ∷ lists) doc (suc k) says inside = some_means lists doc k (values_of doc list) says (omega (arith, inside))

-- ---- ordinals

pub ordinals_within : (terms : List (ℕ × List ℕ)) (field : ℕ) (words : List (List ℕ)) (ordinals : List ℕ) → AreOrdinals terms field words ordinals → All (λ ordinal. ordinal < length terms) ordinals
ordinals_within terms field words ordinals are = λ k d inside. within words ordinals are k d inside
  where
    within : (words : List (List ℕ)) (ordinals : List ℕ) → AreOrdinals terms field words ordinals → (k d : ℕ) → k < length ordinals → get_or ordinals k d < length terms
    within words [] are k d inside = absurd (omega (arith, inside))
    within [] (ordinal ∷ ordinals) are k d inside = absurd are
    within (word ∷ words) (ordinal ∷ ordinals) are zero d inside = slice_get_within terms ordinal (field, word) are.0
    within (word ∷ words) (ordinal ∷ ordinals) are (suc k) d inside = within words ordinals are.1 k d (omega (arith, inside))

pub more_ordinals : (terms : List (ℕ × List ℕ)) (field : ℕ) (words : List (List ℕ)) (ordinals : List ℕ) (word : List ℕ) (ordinal : ℕ) → AreOrdinals terms field words ordinals → slice_get terms ordinal ≡ Some (field, word)
    → AreOrdinals terms field (words ++ word ∷ []) (ordinals ++ ordinal ∷ [])
more_ordinals terms field [] [] word ordinal are is = (is, tt)
more_ordinals terms field [] (own ∷ ordinals) word ordinal are is = absurd are
more_ordinals terms field (first ∷ words) [] word ordinal are is = absurd are
more_ordinals terms field (first ∷ words) (own ∷ ordinals) word ordinal are is = (are.0, more_ordinals terms field words ordinals word ordinal are.1 is)

-- ---- a word that no document has

module _ (field : ℕ) (d : FlatDocument) (word : List ℕ) (never : (test : ℕ → Bool) → has_word_at field word test d ≡ false) where
  run_never : (words : List (List ℕ)) (k at : ℕ) → k < length words → get_or words k [] ≡ word → run_stands field d words at ≡ false
  run_never [] k at inside is = absurd (omega (arith, inside))
  run_never (own ∷ words) zero at inside is = ap (λ (w : List ℕ). has_word_at field w (λ p. nat_eq p at) d && run_stands field d words (at + 1)) is ∙ ap (λ (b : Bool). b && run_stands field d words (at + 1)) (never (λ p. nat_eq p at))
  run_never (own ∷ words) (suc k) at inside is = ap (λ (b : Bool). has_word_at field own (λ p. nat_eq p at) d && b) (run_never words k (at + 1) (omega (arith, inside)) is) ∙ and_false (has_word_at field own (λ p. nat_eq p at) d)

  unfound : (own : List ℕ) (test : ℕ → Bool) → ((p : ℕ) → test p ≡ false) → has_word_at field own test d ≡ false
  unfolding has_word_at
  unfound own test fails =
      any_same (is_word_at field own test) (λ (w : (ℕ × List ℕ) × List ℕ). false)
      (λ w. ap (λ (b : Bool). (nat_eq w.0.0 field && bytes_eq w.0.1 own) && b) (any_same test (λ p. false) fails w.1 ∙ any_never w.1) ∙ and_false (nat_eq w.0.0 field && bytes_eq w.0.1 own)) d.words
      ∙ any_never d.words

  pub phrase_never : (words : List (List ℕ)) (k : ℕ) → k < length words → get_or words k [] ≡ word → shows_phrase field words d ≡ false
  phrase_never [] k inside is = absurd (omega (arith, inside))
  phrase_never (own ∷ words) zero inside is = ap (λ (w : List ℕ). has_word_at field w (λ p. run_stands field d words (p + 1)) d) is ∙ never (λ p. run_stands field d words (p + 1))
  phrase_never (own ∷ words) (suc k) inside is = unfound own (λ p. run_stands field d words (p + 1)) (λ p. run_never words k (p + 1) (omega (arith, inside)) is)

-- ---- the cut, document by document

pub length_cut : (n : ℕ) (marks lives : List Bool) (flats : List FlatDocument) → length lives ≡ length marks → length flats ≡ length marks → length (cut n marks lives flats) ≡ length marks
length_cut n [] lives flats e f = refl
length_cut n (mark ∷ marks) [] flats e f = absurd (omega (arith, e))
length_cut n (mark ∷ marks) (live ∷ lives) [] e f = absurd (omega (arith, f))
length_cut n (mark ∷ marks) (live ∷ lives) (d ∷ flats) e f = omega (arith, length_cut n marks lives flats (omega (arith, e)) (omega (arith, f)))

pub cut_at : (n : ℕ) (marks lives : List Bool) (flats : List FlatDocument) (k : ℕ) (d : FlatDocument) → length lives ≡ length marks → length flats ≡ length marks → k < length marks
    → get_or (cut n marks lives flats) k false ≡ (get_or lives k false && (nat_eq (get_or flats k d).scope n && get_or marks k false))
cut_at n [] lives flats k d e f inside = absurd (omega (arith, inside))
cut_at n (mark ∷ marks) [] flats k d e f inside = absurd (omega (arith, e))
cut_at n (mark ∷ marks) (live ∷ lives) [] k d e f inside = absurd (omega (arith, f))
cut_at n (mark ∷ marks) (live ∷ lives) (own ∷ flats) zero d e f inside = refl
cut_at n (mark ∷ marks) (live ∷ lives) (own ∷ flats) (suc k) d e f inside = cut_at n marks lives flats k d (omega (arith, e)) (omega (arith, f)) (omega (arith, inside))

-- ---- where no document passes

and_never : (a b : Bool) → (a && (b && false)) ≡ false
and_never a b = ap (λ (t : Bool). a && t) (and_false b) ∙ and_false a

-- where no document passes, none is left
pub none_left : (c : Columns) (n : ℕ) (lives : List Bool) (test : FlatDocument → Bool) → length lives ≡ c.documents → ((doc : ℕ) → doc < c.documents → test (flat_of c doc) ≡ false)
    → replicate c.documents false ≡ cut n (map test (flats_of c)) lives (flats_of c)
none_left c n lives test live never =
    let flats : List FlatDocument = flats_of c in
    let many : length flats ≡ c.documents = length-map-range_with_len (flat_of c) 0 c.documents in
    let tests : length (map test flats) ≡ c.documents = length-map flats test ∙ many in
    let other : length (cut n (map test flats) lives flats) ≡ c.documents = length_cut n (map test flats) lives flats (live ∙ sym tests) (many ∙ sym tests) ∙ tests in
    ext_get_or false (replicate c.documents false) (cut n (map test flats) lives flats) (length-replicate c.documents false ∙ sym other)
    (λ k below.
    let inside : k < c.documents = omega (arith, below, length-replicate c.documents false) in
    let d : FlatDocument = flat_of c k in
    let marked : get_or (map test flats) k false ≡ false =
    get_or-map test flats k d false (omega (arith, inside, many))
    ∙ ap test (get_or-map-range_with_len (flat_of c) 0 c.documents k k d inside (omega arith))
    ∙ never k inside in
    get_or-replicate c.documents k false false inside
    ∙ sym (cut_at n (map test flats) lives flats k d (live ∙ sym tests) (many ∙ sym tests) (omega (arith, inside, tests))
    ∙ ap (λ (b : Bool). get_or lives k false && (nat_eq (get_or flats k d).scope n && b)) marked
    ∙ and_never (get_or lives k false) (nat_eq (get_or flats k d).scope n)))
