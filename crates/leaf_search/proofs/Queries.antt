-- What a leaf asks of terms is what it asks of the values of an object.
use Rattle.std.proofs.Common.{◌≡◌, ℕ, ℤ, ◌<◌, Bool, true, false, ◌&&◌, List, [], ◌∷◌, ◌++◌, length, All, IsTrue, refl, sym, ap, ◌∙◌}
use Rattle.std.specs.Prelude.{FitsSigned}
use Rattle.std.specs.Int.{w64}
use Rattle.std.specs.List.{list_any, flat_map}
use Rattle.std.specs.Ordering.{nat_cmp, int_cmp, is_eq, is_le, is_lt, ordering_reverse}
use Rattle.std.specs.Cmp.Lexicographic.{slice_cmp}
use Rattle.std.specs.Str.{bytes_eq}
use Rattle.std.specs.declared.cmp.Ordering.{Ordering}
use Rattle.std.specs.declared.cmp.Ordering.TheVariants.{Less, Equal, Greater}
use Rattle.std.proofs.lemmas.Cmp.{int_cmp_total, nat_list_cmp_total}
use Rattle.std.proofs.lemmas.Map.Text.{is_eq-slice_cmp}
use Rattle.analysis.specs.Words.{words}
use Rattle.mapping_body.specs.declared.kind.Kind.{Kind}
use Rattle.mapping_body.specs.declared.kind.Kind.TheVariants.{Text, Keyword, Long, Boolean, Date, Object as Plain, Nested, Join}
use Rattle.mapping.specs.Mapping.{Mapping, kind_at}
use Rattle.query_ast.specs.Compare.{is_same_value}
use Rattle.query_ast.specs.Leaf.{begins as value_begins, is_above_low, is_any, is_below_high, is_one_of, is_shown, is_text as is_text_kind, lies_between, terms, terms_of, words_are_shown, words_in}
use Rattle.query_ast.specs.Uses.{is_written, uses_of, IsValueOf, IsEndOf}
use Rattle.query_ast.specs.declared.query.RangeEnd.{RangeEnd}
use Rattle.query_ast.specs.declared.query.RangeEnd.TheVariants.{Free, Closed, Past}
use Rattle.term_table.specs.Keys.{number_key}
use Rattle.tree_objects.specs.declared.field_value.FieldValue.{FieldValue}
use Rattle.tree_objects.specs.declared.field_value.FieldValue.TheVariants.{Number, Written}
use Rattle.tree_objects.specs.Object.{Object}
use Rattle.tree_objects.specs.Values.{values}
use Rattle.flattener.specs.Flat.{flat_of, texts_in}
use Rattle.leaf_search.specs.Keys.{FitsKey, EndFits, key_of, is_from_end, is_to_end, lies_within, begins, has_bytes, has_value_of, has_one_of}
use Rattle.leaf_search.specs.Values.{always}
use Rattle.leaf_search.specs.Words.{shows_words}
use Rattle.leaf_search.proofs.Tests.{any_same, all_same, any_agree, any_swap}
use Rattle.leaf_search.proofs.TermShown.{Agree, Fit, term_shown, term_parts, own_terms, parts}

-- keys are ordered as their numbers
abbrev pub KeysAreOrdered : Type 0
KeysAreOrdered = (one other : ℤ) → FitsSigned w64 one → FitsSigned w64 other → slice_cmp nat_cmp (number_key one) (number_key other) ≡ int_cmp one other

-- ---- one value

equal_back : (o : Ordering) → is_eq (ordering_reverse o) ≡ is_eq o
equal_back Less = refl
equal_back Equal = refl
equal_back Greater = refl

pub same_value_back : (v u : FieldValue) → is_same_value v u ≡ is_same_value u v
same_value_back (Number a) (Number b) = ap is_eq (int_cmp_total.antisymm a b) ∙ equal_back (int_cmp b a)
same_value_back (Number a) (Written t) = refl
same_value_back (Written s) (Number b) = refl
same_value_back (Written s) (Written t) = ap is_eq (nat_list_cmp_total.antisymm s t) ∙ equal_back (slice_cmp nat_cmp t s)

module _ (keys : KeysAreOrdered) where
  text_agrees : (kind : Kind) (v : FieldValue) → IsValueOf kind v → is_written kind ≡ true → (s : List ℕ) → bytes_eq (key_of v) s ≡ is_same_value v (Written s)
  text_agrees kind (Number a) own written s = absurd (let no : ⊥ = cc in no)
  text_agrees kind (Written t) own written s = sym (is_eq-slice_cmp t s)

  number_agrees : (kind : Kind) (v : FieldValue) → IsValueOf kind v → FitsKey v → is_written kind ≡ false → (z : ℤ) → FitsSigned w64 z → bytes_eq (key_of v) (number_key z) ≡ is_same_value v (Number z)
  number_agrees kind (Number a) own fits number z fit = sym (is_eq-slice_cmp (number_key a) (number_key z)) ∙ ap is_eq (keys a z fits fit)
  number_agrees kind (Written t) own fits number z fit = absurd (let no : ⊥ = cc in no)

  pub value_agrees : (kind : Kind) (v : FieldValue) → IsValueOf kind v → FitsKey v → Agree kind (bytes_eq (key_of v)) (is_same_value v)
  value_agrees kind v own fits = record { texts = text_agrees kind v own; numbers = number_agrees kind v own fits }

  -- ---- ranges

  low_text : (kind : Kind) (low : RangeEnd) → IsEndOf kind low → is_written kind ≡ true → (s : List ℕ) → is_from_end low s ≡ is_above_low low (Written s)
  low_text kind Free own written s = refl
  low_text kind (Closed (Number a)) own written s = absurd (let no : ⊥ = cc in no)
  low_text kind (Closed (Written t)) own written s = refl
  low_text kind (Past (Number a)) own written s = absurd (let no : ⊥ = cc in no)
  low_text kind (Past (Written t)) own written s = refl

  high_text : (kind : Kind) (high : RangeEnd) → IsEndOf kind high → is_written kind ≡ true → (s : List ℕ) → is_to_end high s ≡ is_below_high high (Written s)
  high_text kind Free own written s = refl
  high_text kind (Closed (Number a)) own written s = absurd (let no : ⊥ = cc in no)
  high_text kind (Closed (Written t)) own written s = refl
  high_text kind (Past (Number a)) own written s = absurd (let no : ⊥ = cc in no)
  high_text kind (Past (Written t)) own written s = refl

  low_number : (kind : Kind) (low : RangeEnd) → IsEndOf kind low → EndFits low → is_written kind ≡ false → (z : ℤ) → FitsSigned w64 z → is_from_end low (number_key z) ≡ is_above_low low (Number z)
  low_number kind Free own fits number z fit = refl
  low_number kind (Closed (Number a)) own fits number z fit = ap is_le (keys a z fits fit)
  low_number kind (Closed (Written t)) own fits number z fit = absurd (let no : ⊥ = cc in no)
  low_number kind (Past (Number a)) own fits number z fit = ap is_lt (keys a z fits fit)
  low_number kind (Past (Written t)) own fits number z fit = absurd (let no : ⊥ = cc in no)

  high_number : (kind : Kind) (high : RangeEnd) → IsEndOf kind high → EndFits high → is_written kind ≡ false → (z : ℤ) → FitsSigned w64 z → is_to_end high (number_key z) ≡ is_below_high high (Number z)
  high_number kind Free own fits number z fit = refl
  high_number kind (Closed (Number a)) own fits number z fit = ap is_le (keys z a fit fits)
  high_number kind (Closed (Written t)) own fits number z fit = absurd (let no : ⊥ = cc in no)
  high_number kind (Past (Number a)) own fits number z fit = ap is_lt (keys z a fit fits)
  high_number kind (Past (Written t)) own fits number z fit = absurd (let no : ⊥ = cc in no)

  pub range_agrees : (kind : Kind) (low high : RangeEnd) → IsEndOf kind low → IsEndOf kind high → EndFits low → EndFits high → Agree kind (lies_within low high) (lies_between low high)
  range_agrees kind low high own other fits fit = record {
    texts = λ written s. rw (low_text kind low own written s, high_text kind high other written s) refl;
    numbers = λ number z f. rw (low_number kind low own fits number z f, high_number kind high other fit number z f) refl;
  }

-- ---- beginnings

never_begun : (kind : Kind) → is_written kind ≡ false → IsTrue (uses_of kind).begun → ⊥
never_begun Text number begun = let no : ⊥ = cc in no
never_begun Keyword number begun = let no : ⊥ = cc in no
never_begun Long number begun = let no : ⊥ = cc in no
never_begun Boolean number begun = let no : ⊥ = cc in no
never_begun Date number begun = let no : ⊥ = cc in no
never_begun Plain number begun = let no : ⊥ = cc in no
never_begun Nested number begun = let no : ⊥ = cc in no
never_begun Join number begun = let no : ⊥ = cc in no

pub start_agrees : (kind : Kind) (start : List ℕ) → IsTrue (uses_of kind).begun → Agree kind (begins start) (value_begins start)
start_agrees kind start begun = record {
  texts = λ written s. refl;
  numbers = λ number z fit. absurd (never_begun kind number begun);
}

abbrev pub any_value : FieldValue → Bool
any_value v = true

pub always_agrees : (kind : Kind) → Agree kind always any_value
always_agrees kind = record { texts = λ written s. refl; numbers = λ number z fit. refl }

pub is_any_true : {X : Type 0} (xs : List X) → list_any (λ (x : X). true) xs ≡ is_any xs
is_any_true [] = refl
is_any_true (x ∷ xs) = refl

-- ---- one of some values

abbrev pub OfKind : Kind → FieldValue → Type 0
OfKind kind v = IsValueOf kind v × FitsKey v

pub among_shown : KeysAreOrdered → (m : Mapping) (f : ℕ) (o : Object) (given : List FieldValue) → f < length m.fields → Fit (flat_of m o) → All (OfKind (kind_at m f)) given
    → has_one_of f given (flat_of m o) ≡ list_any (is_one_of given) (terms m f o)
among_shown keys m f o given known fit all =
    any_agree (OfKind (kind_at m f)) (has_value_of f (flat_of m o)) (λ v. list_any (is_same_value v) (terms m f o))
    (λ v own. term_shown m f o (bytes_eq (key_of v)) (is_same_value v) known fit (value_agrees keys (kind_at m f) v own.0 own.1)) given all
    ∙ any_swap is_same_value given (terms m f o)
    ∙ any_same (λ u. list_any (λ v. is_same_value v u) given) (is_one_of given) (λ u. any_same (λ v. is_same_value v u) (is_same_value u) (λ v. same_value_back v u) given) (terms m f o)

-- ---- words

words_of_texts : (vs : List FieldValue) → flat_map words (texts_in vs) ≡ flat_map words_in vs
words_of_texts [] = refl
words_of_texts (Number z ∷ vs) = words_of_texts vs
words_of_texts (Written s ∷ vs) = ap (λ (l : List (List ℕ)). words s ++ l) (words_of_texts vs)

text_parts : (kind : Kind) (test : List ℕ → Bool) (vs : List FieldValue) → is_text_kind kind ≡ true → parts kind test vs ≡ list_any test (flat_map words (texts_in vs))
text_parts Text test vs is = refl
text_parts Keyword test vs is = absurd (let no : ⊥ = cc in no)
text_parts Long test vs is = absurd (let no : ⊥ = cc in no)
text_parts Boolean test vs is = absurd (let no : ⊥ = cc in no)
text_parts Date test vs is = absurd (let no : ⊥ = cc in no)
text_parts Plain test vs is = absurd (let no : ⊥ = cc in no)
text_parts Nested test vs is = absurd (let no : ⊥ = cc in no)
text_parts Join test vs is = absurd (let no : ⊥ = cc in no)

word_shown : (m : Mapping) (f : ℕ) (o : Object) (word : List ℕ) → f < length m.fields → is_text_kind (kind_at m f) ≡ true → has_bytes f (flat_of m o) word ≡ is_shown (flat_map words_in (values m f o)) word
word_shown m f o word known is =
    term_parts m f o (bytes_eq word) known
    ∙ text_parts (kind_at m f) (bytes_eq word) (values m f o) is
    ∙ ap (list_any (bytes_eq word)) (words_of_texts (values m f o))

pub words_shown : (m : Mapping) (f : ℕ) (o : Object) (all : Bool) (asked : List (List ℕ)) → f < length m.fields → is_text_kind (kind_at m f) ≡ true
    → shows_words all f asked (flat_of m o) ≡ words_are_shown all asked (flat_map words_in (values m f o))
words_shown m f o true asked known is =
    ap (λ (b : Bool). is_any asked && b) (all_same (has_bytes f (flat_of m o)) (is_shown (flat_map words_in (values m f o))) (λ word. word_shown m f o word known is) asked)
words_shown m f o false asked known is =
    any_same (has_bytes f (flat_of m o)) (is_shown (flat_map words_in (values m f o))) (λ word. word_shown m f o word known is) asked

-- on another kind `match` and `match_phrase` ask for the value
pub value_shown : KeysAreOrdered → (m : Mapping) (f : ℕ) (o : Object) (v : FieldValue) → f < length m.fields → Fit (flat_of m o) → IsValueOf (kind_at m f) v → FitsKey v → is_text_kind (kind_at m f) ≡ false
    → has_value_of f (flat_of m o) v ≡ list_any (is_same_value v) (values m f o)
value_shown keys m f o v known fit own fits other =
    term_shown m f o (bytes_eq (key_of v)) (is_same_value v) known fit (value_agrees keys (kind_at m f) v own fits)
    ∙ ap (λ (b : Bool). list_any (is_same_value v) (flat_map (terms_of b) (values m f o))) other
    ∙ own_terms (is_same_value v) (values m f o)
