-- The words of a phrase by the ordinals of their terms.
use Rattle.std.proofs.Common.{◌≡◌, ◌≢◌, ℕ, ◌+◌, ◌<◌, Bool, true, false, not, ◌&&◌, List, [], ◌∷◌, ◌++◌, length, get_or, take, All, Some, slice_get, refl, sym, ap, subst, ◌∙◌, inl, inr, arith, nat_lt}
use Rattle.std.specs.List.{list_any, list_all, Contains}
use Rattle.std.specs.Str.{bytes_eq}
use Rattle.std.proofs.lemmas.Bool.{cases_Bool, false≢true, lt-ltb, ltb-true}
use Rattle.std.proofs.lemmas.List.{get_or-map, length-map, map_more, get_or_default}
use Rattle.std.proofs.lemmas.List.Folds.{list_all-map, list_all_at, list_any_at, list_any_none}
use Rattle.std.proofs.lemmas.Option.{slice_get_within}
use Rattle.analysis.specs.declared.token_list.Token.{Token}
use Rattle.postings.specs.Marks.{has_document}
use Rattle.query_ast.specs.Leaf.{is_any}
use Rattle.segment.specs.Flat.{flat_of}
use Rattle.segment.specs.Lists.{terms_of, postings_of}
use Rattle.segment.specs.Shows.{has_term, has_word_at, posts}
use Rattle.segment_parts.specs.declared.columns.Columns.{Columns}
use Rattle.term_table.specs.Terms.{AreAscending}
use Rattle.leaf_search.specs.Keys.{has_bytes, is_term}
use Rattle.leaf_search.specs.Words.{AreOrdinals, Misses, all_posted, folded_words, lists_at, phrase_posted, shows_all, shows_phrase, shows_words}
use Rattle.leaf_search.proofs.Alone.{stands_alone, stands_nowhere}
use Rattle.leaf_search.proofs.Listing.{no_posts, one_posts}
use Rattle.leaf_search.proofs.Once.{all_by_any}
use Rattle.leaf_search.proofs.Tests.{and_false}
use Rattle.leaf_search.proofs.Phrasing.{more_ordinals, phrase_never}

-- ---- the ordinals of the words

pub ordinals_step : (terms table : List (ℕ × List ℕ)) (field : ℕ) (tokens : List Token) (at : ℕ) (token : Token) (bytes : List ℕ) (items new : List ℕ) (ordinal : ℕ) → at < length tokens → token ≡ get_or tokens at token → bytes ≡ token.folded → table ≡ terms
    → AreOrdinals terms field (folded_words (take at tokens)) items → slice_get table ordinal ≡ Some (field, bytes) → new ≡ items ++ ordinal ∷ [] → AreOrdinals terms field (folded_words (take (at + 1) tokens)) new
ordinals_step terms table field tokens at token bytes items new ordinal inside is own same were found pushed =
    let folded : Token → List ℕ = λ (t : Token). t.folded in
    let there : slice_get terms ordinal ≡ Some (field, token.folded) = ap (λ (l : List (ℕ × List ℕ)). slice_get l ordinal) (sym same) ∙ found ∙ ap (λ (b : List ℕ). Some (field, b)) own in
    let words : folded_words (take (at + 1) tokens) ≡ folded_words (take at tokens) ++ token.folded ∷ [] =
    map_more folded tokens at token inside ∙ ap (λ (t : Token). folded_words (take at tokens) ++ t.folded ∷ []) (sym is) in
    subst (λ (ws : List (List ℕ)). AreOrdinals terms field ws new) (sym words)
    (subst (AreOrdinals terms field (folded_words (take at tokens) ++ token.folded ∷ [])) (sym pushed) (more_ordinals terms field (folded_words (take at tokens)) items token.folded ordinal were there))

pub misses_word : (terms table : List (ℕ × List ℕ)) (field : ℕ) (tokens : List Token) (at : ℕ) (token : Token) (bytes : List ℕ) → at < length tokens → token ≡ get_or tokens at token → bytes ≡ token.folded → table ≡ terms
    → (Contains table (field, bytes) → ⊥) → Misses terms field (folded_words tokens)
misses_word terms table field tokens at token bytes inside is own same absent =
    let folded : Token → List ℕ = λ (t : Token). t.folded in
    let there : get_or (folded_words tokens) at bytes ≡ bytes = get_or-map folded tokens at token bytes inside ∙ ap folded (sym is) ∙ sym own in
    (bytes, (at, omega (arith, inside, length-map tokens folded), there), subst (λ (l : List (ℕ × List ℕ)). Contains l (field, bytes) → ⊥) same absent)

-- ---- a word that the field doesn't have

pub phrase_missed : (c : Columns) (field doc : ℕ) (words : List (List ℕ)) → ((word : List ℕ) (test : ℕ → Bool) → (Contains (terms_of c) (field, word) → ⊥) → has_word_at field word test (flat_of c doc) ≡ false)
    → Misses (terms_of c) field words → shows_phrase field words (flat_of c doc) ≡ false
phrase_missed c field doc words law missed =
    let word : List ℕ = missed.0 in
    let there = missed.1 in
    phrase_never field (flat_of c doc) word (λ test. law word test missed.2) words there.0 there.1 (get_or_default words there.0 [] word there.1 ∙ there.2)

-- ---- terms by lists

any_is : (xs : List ℕ) → is_any xs ≡ list_any (λ x. true) xs
any_is [] = refl
any_is (x ∷ xs) = refl

any_ordinals : (terms : List (ℕ × List ℕ)) (field : ℕ) (words : List (List ℕ)) (ordinals : List ℕ) → AreOrdinals terms field words ordinals → is_any words ≡ is_any ordinals
any_ordinals terms field [] [] are = refl
any_ordinals terms field [] (ordinal ∷ ordinals) are = absurd are
any_ordinals terms field (word ∷ words) [] are = absurd are
any_ordinals terms field (word ∷ words) (ordinal ∷ ordinals) are = refl

pub none_any : (xs : List ℕ) (b : Bool) → length xs ≡ 0 → (is_any xs && b) ≡ false
none_any [] b none = refl
none_any (x ∷ xs) b none = absurd (omega (arith, none))

pub some_any : (xs : List ℕ) (b : Bool) → length xs ≢ 0 → b ≡ (is_any xs && b)
some_any [] b some = absurd (some refl)
some_any (x ∷ xs) b some = refl

-- a phrase of no words
pub no_phrase : (lists : List (List (ℕ × List ℕ))) (ordinals : List ℕ) (doc : ℕ) → length ordinals ≡ 0 → phrase_posted (lists_at lists ordinals) doc ≡ false
no_phrase lists [] doc none = refl
no_phrase lists (ordinal ∷ ordinals) doc none = absurd (omega (arith, none))

-- what holds of the ordinals below a number
pub within_kept : (bound : ℕ) (ordinals found : List ℕ) → ((test : ℕ → Bool) → list_any test found ≡ list_any test ordinals) → All (λ ordinal. ordinal < bound) ordinals → All (λ ordinal. ordinal < bound) found
within_kept bound ordinals found same all = λ k d inside. elim (cases_Bool (nat_lt (get_or found k d) bound)) [
  | inl below ↦ ltb-true (get_or found k d) bound below
  | inr not_below ↦
      let fails : ℕ → Bool = λ ordinal. not (nat_lt ordinal bound) in
      let never : list_any fails ordinals ≡ false = list_any_none fails ordinals (λ j e within. ap not (lt-ltb (get_or ordinals j e) bound (all j e within))) in
      let some : list_any fails found ≡ true = list_any_at fails found k d inside (ap not not_below) in
      absurd (false≢true (sym never ∙ sym (same fails) ∙ some))
]

module _ (c : Columns) (field doc : ℕ) (law : (test : List ℕ → Bool) → list_any (posts field doc test) c.terms ≡ has_term field test (flat_of c doc)) where
  term_by_list : (ordinal : ℕ) (word : List ℕ) → AreAscending (terms_of c) → slice_get (terms_of c) ordinal ≡ Some (field, word) → has_bytes field (flat_of c doc) word ≡ has_document doc (get_or (postings_of c) ordinal [])
  term_by_list ordinal word ascend is =
      sym (one_posts doc (is_term field word) c.terms ordinal (slice_get_within (terms_of c) ordinal (field, word) is) (stands_alone (terms_of c) field word ordinal ascend is) ∙ law (bytes_eq word))

  all_by_ordinals : (words : List (List ℕ)) (ordinals : List ℕ) → AreAscending (terms_of c) → AreOrdinals (terms_of c) field words ordinals
      → shows_all field words (flat_of c doc) ≡ list_all (λ ordinal. has_document doc (get_or (postings_of c) ordinal [])) ordinals
  all_by_ordinals [] [] ascend are = refl
  all_by_ordinals [] (ordinal ∷ ordinals) ascend are = absurd are
  all_by_ordinals (word ∷ words) [] ascend are = absurd are
  all_by_ordinals (word ∷ words) (ordinal ∷ ordinals) ascend are =
      rw (term_by_list ordinal word ascend are.0, all_by_ordinals words ordinals ascend are.1) refl

  -- of distinct ordinals
  pub all_by_lists : (words : List (List ℕ)) (ordinals found : List ℕ) → AreAscending (terms_of c) → AreOrdinals (terms_of c) field words ordinals → ((test : ℕ → Bool) → list_any test found ≡ list_any test ordinals)
      → shows_words true field words (flat_of c doc) ≡ (is_any found && all_posted (lists_at (postings_of c) found) doc)
  all_by_lists words ordinals found ascend are same =
      let test : ℕ → Bool = λ ordinal. has_document doc (get_or (postings_of c) ordinal []) in
      let some : is_any words ≡ is_any found = any_ordinals (terms_of c) field words ordinals are ∙ any_is ordinals ∙ sym (same (λ x. true)) ∙ sym (any_is found) in
      let all : shows_all field words (flat_of c doc) ≡ all_posted (lists_at (postings_of c) found) doc =
      all_by_ordinals words ordinals ascend are
      ∙ all_by_any test ordinals
      ∙ ap not (sym (same (λ ordinal. not (test ordinal))))
      ∙ sym (all_by_any test found)
      ∙ sym (list_all-map (has_document doc) (λ ordinal. get_or (postings_of c) ordinal []) found) in
      ap (λ (b : Bool). b && shows_all field words (flat_of c doc)) some ∙ ap (λ (b : Bool). is_any found && b) all

  missed_term : (word : List ℕ) → (Contains (terms_of c) (field, word) → ⊥) → has_bytes field (flat_of c doc) word ≡ false
  missed_term word absent = sym (law (bytes_eq word)) ∙ no_posts doc (is_term field word) c.terms (stands_nowhere (terms_of c) field word absent)

  pub all_missed : (words : List (List ℕ)) → Misses (terms_of c) field words → shows_words true field words (flat_of c doc) ≡ false
  all_missed words missed =
      let word : List ℕ = missed.0 in
      let there = missed.1 in
      ap (λ (b : Bool). is_any words && b)
      (list_all_at (has_bytes field (flat_of c doc)) words there.0 word there.1 (ap (has_bytes field (flat_of c doc)) there.2 ∙ missed_term word missed.2))
      ∙ and_false (is_any words)
