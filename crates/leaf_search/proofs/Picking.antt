-- A phrase by the distinct words in it, and by where these stand.
use Rattle.std.proofs.Common.{◌≡◌, ℕ, zero, suc, ◌+◌, ◌<◌, ◌≤◌, Bool, true, false, not, List, [], ◌∷◌, ◌++◌, length, get_or, All, Result, Ok, Err, refl, sym, ap, subst, ◌∙◌, inl, inr, arith, nat_eq}
use Rattle.std.specs.List.{list_all, list_any}
use Rattle.std.specs.List.Sorted.{IsBinarySearchResult, IsStrictlyIncreasing}
use Rattle.std.specs.Ordering.{nat_cmp}
use Rattle.std.specs.Result.{MatchResult}
use Rattle.std.proofs.lemmas.Bool.{and_parts, cases_lt, eq-eqb, false_from_ne_true}
use Rattle.std.proofs.lemmas.List.{ext_get_or, get_or-map, get_or_append_left, get_or_push, length-append, length-map}
use Rattle.std.proofs.lemmas.List.Elements.{All-append, All-cons, All-nil}
use Rattle.std.proofs.lemmas.List.Folds.{list_all-map, list_any_at}
use Rattle.std.proofs.lemmas.List.Sorted.{searched}
use Rattle.doc_values.specs.Values.{values_of}
use Rattle.postings.specs.Marks.{has_document}
use Rattle.postings.specs.Postings.{Standing, present_positions}
use Rattle.leaf_search.specs.Cursors.{IsOn, lists_in}
use Rattle.leaf_search.specs.Patterns.{AreIndexes, IsRun, positions_in}
use Rattle.leaf_search.specs.Words.{all_posted, lists_at, phrase_posted, run_posted}
use Rattle.leaf_search.proofs.Around.{begins_at, posted_all, stands_from}
use Rattle.leaf_search.proofs.Going.{values_on}
use Rattle.leaf_search.proofs.Halving.{increasing}
use Rattle.leaf_search.proofs.Once.{all_by_any}
use Rattle.leaf_search.proofs.Running.{index_of_position}

abbrev Lists : Type 0
Lists = List (List (ℕ × List ℕ))

-- ---- a run, word by word

run_parts : (lists : Lists) (doc at i : ℕ) → run_posted lists doc at ≡ true → i < length lists → list_any (λ p. nat_eq p (at + i)) (values_of doc (get_or lists i [])) ≡ true
run_parts [] doc at i says inside = absurd (omega (arith, inside))
run_parts (list ∷ lists) doc at zero says inside =
    let here : at ≡ at + 0 = omega arith in
    subst (λ k. list_any (λ p. nat_eq p k) (values_of doc list) ≡ true) here (and_parts (list_any (λ p. nat_eq p at) (values_of doc list)) (run_posted lists doc (at + 1)) says).0
run_parts (list ∷ lists) doc at (suc i) says inside =
    let next : at + 1 + i ≡ at + suc i = omega arith in
    subst (λ k. list_any (λ p. nat_eq p k) (values_of doc (get_or lists i [])) ≡ true) next
    (run_parts lists doc (at + 1) i (and_parts (list_any (λ p. nat_eq p at) (values_of doc list)) (run_posted lists doc (at + 1)) says).1 (omega (arith, inside)))

run_of_parts : (lists : Lists) (doc at : ℕ) → ((i : ℕ) → i < length lists → list_any (λ p. nat_eq p (at + i)) (values_of doc (get_or lists i [])) ≡ true) → run_posted lists doc at ≡ true
run_of_parts [] doc at each = refl
run_of_parts (list ∷ lists) doc at each =
    let here : at + 0 ≡ at = omega arith in
    let first : list_any (λ p. nat_eq p at) (values_of doc list) ≡ true = subst (λ k. list_any (λ p. nat_eq p k) (values_of doc list) ≡ true) here (each 0 (omega arith)) in
    rw first
    (run_of_parts lists doc (at + 1) (λ i inside.
    let next : at + suc i ≡ at + 1 + i = omega arith in
    subst (λ k. list_any (λ p. nat_eq p k) (values_of doc (get_or lists i [])) ≡ true) next (each (suc i) (omega (arith, inside)))))

-- ---- words by the indexes of their cursors

abbrev postings_of_cursor : Standing → List (ℕ × List ℕ)
postings_of_cursor cursor = cursor.postings

-- the positions of a word are those in its list
own_values : (cursors : List Standing) (doc word : ℕ) → All (IsOn doc) cursors → word < length cursors → get_or (positions_in cursors) word [] ≡ values_of doc (get_or (lists_in cursors) word [])
own_values cursors doc word on inside =
    let d : Standing = record { postings = []; at = 0 } in
    get_or-map present_positions cursors word d [] inside
    ∙ values_on doc (get_or cursors word d) (on word d inside)
    ∙ ap (values_of doc) (sym (get_or-map postings_of_cursor cursors word d [] inside))

module _ (cursors : List Standing) (words : List ℕ) (doc : ℕ) (on : All (IsOn doc) cursors) (within : All (λ word. word < length cursors) words) where
  abbrev list_of : ℕ → List (ℕ × List ℕ)
  list_of word = get_or (lists_in cursors) word []

  place_is : (i : ℕ) → i < length words → values_of doc (get_or (lists_at (lists_in cursors) words) i []) ≡ get_or (positions_in cursors) (get_or words i 0) []
  place_is i inside =
      ap (values_of doc) (get_or-map list_of words i 0 [] inside) ∙ sym (own_values cursors doc (get_or words i 0) on (within i 0 inside))

  long : length (lists_at (lists_in cursors) words) ≡ length words
  long = length-map words list_of

  run_stands : (start : ℕ) → run_posted (lists_at (lists_in cursors) words) doc start ≡ true → IsRun (positions_in cursors) words start (length words)
  run_stands start says = λ i inside.
      sym (ap (λ (ps : List ℕ). list_any (λ p. nat_eq p (start + i)) ps) (place_is i inside)) ∙ run_parts (lists_at (lists_in cursors) words) doc start i says (omega (arith, inside, long))

  stands_run : (start : ℕ) → IsRun (positions_in cursors) words start (length words) → run_posted (lists_at (lists_in cursors) words) doc start ≡ true
  stands_run start run =
      run_of_parts (lists_at (lists_in cursors) words) doc start
      (λ i inside. ap (λ (ps : List ℕ). list_any (λ p. nat_eq p (start + i)) ps) (place_is i (omega (arith, inside, long))) ∙ run i (omega (arith, inside, long)))

  some_first : (lists : Lists) (start : ℕ) → 0 < length lists → run_posted lists doc start ≡ true → phrase_posted lists doc ≡ true
  some_first [] start some says = absurd (omega (arith, some))
  some_first (own ∷ behind) start some says = stands_from [] behind own doc start says

  pub phrase_found : (found : Bool) → 0 < length words
      → (found ≡ true → (start : ℕ) × IsRun (positions_in cursors) words start (length words))
      → (found ≡ false → (start : ℕ) → IsRun (positions_in cursors) words start (length words) → ⊥)
      → found ≡ phrase_posted (lists_at (lists_in cursors) words) doc
  phrase_found true some there never =
      let one = there refl in
      sym (some_first (lists_at (lists_in cursors) words) one.0 (omega (arith, some, long)) (stands_run one.0 one.1))
  phrase_found false some there never =
      sym (false_from_ne_true (phrase_posted (lists_at (lists_in cursors) words) doc)
      (λ says.
      let one = begins_at (lists_at (lists_in cursors) words) doc says in
      never refl one.0 (run_stands one.0 one.1)))

-- ---- the distinct words

-- the postings of the words, by their indexes
pub indexed : (lists : Lists) (asked ordinals words : List ℕ) → AreIndexes asked ordinals words → lists_at (lists_at lists asked) words ≡ lists_at lists ordinals
indexed lists asked ordinals words are =
    let listed : ℕ → List (ℕ × List ℕ) = λ ordinal. get_or lists ordinal [] in
    let picked : ℕ → List (ℕ × List ℕ) = λ word. get_or (lists_at lists asked) word [] in
    ext_get_or [] (lists_at (lists_at lists asked) words) (lists_at lists ordinals) (length-map words picked ∙ are.long ∙ sym (length-map ordinals listed))
    (λ i below.
    let inside : i < length words = omega (arith, below, length-map words picked) in
    let within : i < length ordinals = omega (arith, inside, are.long) in
    get_or-map picked words i 0 [] inside
    ∙ get_or-map listed asked (get_or words i 0) 0 [] (are.within i 0 inside)
    ∙ ap listed (are.each i within)
    ∙ sym (get_or-map listed ordinals i 0 [] within))

-- a document with the phrase has each of the distinct words
pub phrase_has_all : (lists : Lists) (asked ordinals : List ℕ) (doc : ℕ) → ((test : ℕ → Bool) → list_any test asked ≡ list_any test ordinals) → phrase_posted (lists_at lists ordinals) doc ≡ true → all_posted (lists_at lists asked) doc ≡ true
phrase_has_all lists asked ordinals doc same says =
    let test : ℕ → Bool = λ ordinal. has_document doc (get_or lists ordinal []) in
    let all : list_all test ordinals ≡ true = sym (list_all-map (has_document doc) (λ ordinal. get_or lists ordinal []) ordinals) ∙ posted_all true (lists_at lists ordinals) doc says in
    list_all-map (has_document doc) (λ ordinal. get_or lists ordinal []) asked
    ∙ all_by_any test asked
    ∙ ap not (same (λ ordinal. not (test ordinal)))
    ∙ sym (all_by_any test ordinals)
    ∙ all

-- ---- one index more

-- the index of an ordinal that is there
pub index_found : (xs : List ℕ) (x : ℕ) (found : Result ℕ ℕ) → IsStrictlyIncreasing xs → list_any (λ y. nat_eq y x) xs ≡ true → IsBinarySearchResult (λ y. nat_cmp y x) xs found → MatchResult found (λ i. (i < length xs) × (get_or xs i 0 ≡ x)) (λ i. ⊥)
index_found xs x found up there is =
    by found (searched xs x found is (λ i j before inside. elim (cases_lt i j) [
      | inl less ↦ omega (arith, increasing xs up i j less inside)
      | inr more ↦ let same : i ≡ j = omega (arith, before, more) in omega (arith, ap (λ k. get_or xs k 0) same)
    ]))
  where
    by : (r : Result ℕ ℕ) → MatchResult r (λ i. (i < length xs) × (get_or xs i 0 ≡ x)) (λ i. (i ≤ length xs) × ((k : ℕ) → k < i → get_or xs k 0 < x) × ((k : ℕ) → i ≤ k → k < length xs → x < get_or xs k 0)) → MatchResult r (λ i. (i < length xs) × (get_or xs i 0 ≡ x)) (λ i. ⊥)
    by (Ok i) says = says
    by (Err i) says =
        let one = index_of_position xs x there in
        elim (cases_lt one.0 i) [
          | inl less ↦ omega (arith, says.1 one.0 less, one.2)
          | inr more ↦ omega (arith, says.2 one.0 more one.1, one.2)
        ]

pub record AreIndexed (asked ordinals : List ℕ) (at : ℕ) (words : List ℕ) : Type 0 where
  pub long : length words ≡ at
  pub within : All (λ word. word < length asked) words
  pub each : (i : ℕ) → i < at → get_or asked (get_or words i 0) 0 ≡ get_or ordinals i 0

pub indexed_none : (asked ordinals words : List ℕ) → words ≡ [] → AreIndexed asked ordinals 0 words
indexed_none asked ordinals words none = record {
  long = ap length none;
  within = λ k d inside. absurd (omega (arith, inside, ap length none));
  each = λ i before. absurd (omega (arith, before));
}

pub indexed_more : (asked ordinals words new : List ℕ) (at word : ℕ) → AreIndexed asked ordinals at words → word < length asked → get_or asked word 0 ≡ get_or ordinals at 0 → new ≡ words ++ word ∷ [] → AreIndexed asked ordinals (at + 1) new
indexed_more asked ordinals words new at word was inside is pushed =
    let bound : ℕ → Type 0 = λ w. w < length asked in
    record {
      long = ap length pushed ∙ length-append words (word ∷ []) ∙ ap (λ n. n + 1) was.long;
      within = subst (All bound) (sym pushed) (All-append bound words (word ∷ []) was.within (All-cons bound word [] inside (All-nil bound)));
      each = λ i before. elim (cases_lt i at) [
        | inl less ↦ ap (λ w. get_or asked w 0) (ap (λ l. get_or l i 0) pushed ∙ get_or_append_left words (word ∷ []) 0 i (omega (arith, less, was.long))) ∙ was.each i less
        | inr more ↦
            let end : i ≡ at = omega (arith, before, more) in
            ap (λ w. get_or asked w 0) (ap (λ l. get_or l i 0) pushed ∙ get_or_push words word 0 i (was.long ∙ sym end)) ∙ is ∙ ap (λ k. get_or ordinals k 0) (sym end)
      ];
    }

pub indexed_all : (asked ordinals words : List ℕ) (at : ℕ) → AreIndexed asked ordinals at words → at ≡ length ordinals → AreIndexes asked ordinals words
indexed_all asked ordinals words at was all = record {
  long = was.long ∙ all;
  within = was.within;
  each = λ i inside. was.each i (omega (arith, inside, all));
}

pub any_there : (asked ordinals : List ℕ) (at ordinal : ℕ) → ((test : ℕ → Bool) → list_any test asked ≡ list_any test ordinals) → at < length ordinals → ordinal ≡ get_or ordinals at 0 → list_any (λ other. nat_eq other ordinal) asked ≡ true
any_there asked ordinals at ordinal same inside is = same (λ other. nat_eq other ordinal) ∙ list_any_at (λ other. nat_eq other ordinal) ordinals at 0 inside (eq-eqb (get_or ordinals at 0) ordinal (sym is))
