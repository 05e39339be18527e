-- A document has a term of a field that passes exactly where a term of its object passes.
use Rattle.std.proofs.Common.{◌≡◌, ℕ, ℤ, ◌<◌, Bool, true, false, ◌&&◌, ◌||◌, List, [], ◌∷◌, length, map, All, refl, sym, ap, ◌∙◌, inl, inr, nat_eq}
use Rattle.std.specs.Prelude.{FitsSigned}
use Rattle.std.specs.Int.{w64}
use Rattle.std.specs.List.{list_any, flat_map}
use Rattle.std.proofs.lemmas.Bool.{cases_Bool}
use Rattle.std.proofs.lemmas.List.Elements.{All-head, All-tail}
use Rattle.std.proofs.lemmas.List.Folds.{list_any-append}
use Rattle.analysis.specs.Words.{words}
use Rattle.mapping_body.specs.declared.kind.Kind.{Kind}
use Rattle.mapping_body.specs.declared.kind.Kind.TheVariants.{Text, Keyword, Long, Boolean, Date, Object as Plain, Nested, Join}
use Rattle.mapping.specs.Mapping.{Mapping, kind_at}
use Rattle.query_ast.specs.Leaf.{is_text as is_text_kind, terms, terms_of}
use Rattle.query_ast.specs.Uses.{is_written}
use Rattle.segment.specs.Flat.{FlatDocument}
use Rattle.term_table.specs.Keys.{number_key}
use Rattle.tree_objects.specs.declared.field_value.FieldValue.{FieldValue}
use Rattle.tree_objects.specs.declared.field_value.FieldValue.TheVariants.{Number, Written}
use Rattle.tree_objects.specs.Object.{Object}
use Rattle.tree_objects.specs.Values.{values}
use Rattle.flattener.specs.Flat.{flat_of, has_numbers, is_keyword, is_text, numbers_in, texts_in}
use Rattle.segment.specs.Shows.{has_term, is_number_of}
use Rattle.leaf_search.proofs.Tests.{or_false, any_same, any_agree, any-map}
use Rattle.leaf_search.proofs.Shown.{IsOf, IsNumber, IsWritten, values_are, any_keywords, any_numbers, any_words, is_numbers_of}

-- its numbers have 64 bits
abbrev pub Fit : FlatDocument → Type 0
Fit d = All (λ (pair : ℕ × List ℤ). All (FitsSigned w64) pair.1) d.numbers

-- the test of a key, where it is that of the number
swapped : (f : ℕ) (test : List ℕ → Bool) (holds : FieldValue → Bool) (d : FlatDocument) → Fit d → ((z : ℤ) → FitsSigned w64 z → test (number_key z) ≡ holds (Number z))
    → list_any (is_number_of f test) d.numbers ≡ list_any (is_numbers_of f (λ z. holds (Number z))) d.numbers
swapped f test holds d fit same =
    any_agree (λ (pair : ℕ × List ℤ). All (FitsSigned w64) pair.1) (is_number_of f test) (is_numbers_of f (λ z. holds (Number z)))
    (λ pair own. ap (λ (b : Bool). nat_eq pair.0 f && b) (any_agree (FitsSigned w64) (λ z. test (number_key z)) (λ z. holds (Number z)) same pair.1 own)) d.numbers fit

-- ---- lists of values of one kind

written_any : (test : List ℕ → Bool) (holds : FieldValue → Bool) → ((s : List ℕ) → test s ≡ holds (Written s)) → (vs : List FieldValue) → All IsWritten vs → list_any test (texts_in vs) ≡ list_any holds vs
written_any test holds same [] all = refl
written_any test holds same (Number z ∷ vs) all = absurd (All-head IsWritten (Number z) vs all)
written_any test holds same (Written s ∷ vs) all = rw (same s, written_any test holds same vs (All-tail IsWritten (Written s) vs all)) refl

number_any : (holds : FieldValue → Bool) (vs : List FieldValue) → All IsNumber vs → list_any (λ z. holds (Number z)) (numbers_in vs) ≡ list_any holds vs
number_any holds [] all = refl
number_any holds (Number z ∷ vs) all = ap (λ (b : Bool). holds (Number z) || b) (number_any holds vs (All-tail IsNumber (Number z) vs all))
number_any holds (Written s ∷ vs) all = absurd (All-head IsNumber (Written s) vs all)

word_any : (test : List ℕ → Bool) (holds : FieldValue → Bool) → ((s : List ℕ) → test s ≡ holds (Written s)) → (vs : List FieldValue) → All IsWritten vs → list_any test (flat_map words (texts_in vs)) ≡ list_any holds (flat_map (terms_of true) vs)
word_any test holds same [] all = refl
word_any test holds same (Number z ∷ vs) all = absurd (All-head IsWritten (Number z) vs all)
word_any test holds same (Written s ∷ vs) all =
    list_any-append test (words s) (flat_map words (texts_in vs))
    ∙ ap (λ (b : Bool). b || list_any test (flat_map words (texts_in vs))) (any_same test (λ word. holds (Written word)) same (words s) ∙ sym (any-map holds (λ word. Written word) (words s)))
    ∙ ap (λ (b : Bool). list_any holds (map (λ word. Written word) (words s)) || b) (word_any test holds same vs (All-tail IsWritten (Written s) vs all))
    ∙ sym (list_any-append holds (map (λ word. Written word) (words s)) (flat_map (terms_of true) vs))

-- a value that isn't text is its own term
pub own_terms : (holds : FieldValue → Bool) (vs : List FieldValue) → list_any holds (flat_map (terms_of false) vs) ≡ list_any holds vs
own_terms holds [] = refl
own_terms holds (v ∷ vs) = ap (λ (b : Bool). holds v || b) (own_terms holds vs)

none_of : (holds : FieldValue → Bool) (b : Bool) (vs : List FieldValue) → All (λ (v : FieldValue). ⊥) vs → list_any holds (flat_map (terms_of b) vs) ≡ false
none_of holds b [] all = refl
none_of holds b (v ∷ vs) all = absurd (All-head (λ (v : FieldValue). ⊥) v vs all)

-- ---- by the kind of the field

-- what the columns say of the field, for a document of an object that shows these values
abbrev pub parts : Kind → (List ℕ → Bool) → List FieldValue → Bool
parts kind test vs =
    (is_keyword kind && list_any test (texts_in vs))
    || ((has_numbers kind && list_any (λ z. test (number_key z)) (numbers_in vs)) || (is_text kind && list_any test (flat_map words (texts_in vs))))

-- the number part with the number's own test
abbrev pub numbered : Kind → (List ℕ → Bool) → (FieldValue → Bool) → List FieldValue → Bool
numbered kind test holds vs =
    (is_keyword kind && list_any test (texts_in vs))
    || ((has_numbers kind && list_any (λ z. holds (Number z)) (numbers_in vs)) || (is_text kind && list_any test (flat_map words (texts_in vs))))

pub term_parts : (m : Mapping) (f : ℕ) (o : Object) (test : List ℕ → Bool) → f < length m.fields → has_term f test (flat_of m o) ≡ parts (kind_at m f) test (values m f o)
unfolding has_term
term_parts m f o test known =
    rw (any_keywords m o f test known, any_numbers m o f (λ z. test (number_key z)) known, any_words f test m o known) refl

term_numbered : (m : Mapping) (f : ℕ) (o : Object) (test : List ℕ → Bool) (holds : FieldValue → Bool) → f < length m.fields → Fit (flat_of m o) → ((z : ℤ) → FitsSigned w64 z → test (number_key z) ≡ holds (Number z))
    → has_term f test (flat_of m o) ≡ numbered (kind_at m f) test holds (values m f o)
unfolding has_term
term_numbered m f o test holds known fit same =
    rw (any_keywords m o f test known, swapped f test holds (flat_of m o) fit same, any_numbers m o f (λ z. holds (Number z)) known, any_words f test m o known) refl

pub by_kind : (kind : Kind) (test : List ℕ → Bool) (holds : FieldValue → Bool) (vs : List FieldValue) → All (IsOf kind) vs → is_written kind ≡ true → ((s : List ℕ) → test s ≡ holds (Written s))
    → parts kind test vs ≡ list_any holds (flat_map (terms_of (is_text_kind kind)) vs)
by_kind Text test holds vs all written same = word_any test holds same vs all
by_kind Keyword test holds vs all written same = or_false (list_any test (texts_in vs)) ∙ written_any test holds same vs all ∙ sym (own_terms holds vs)
by_kind Long test holds vs all written same = absurd (let no : ⊥ = cc in no)
by_kind Boolean test holds vs all written same = absurd (let no : ⊥ = cc in no)
by_kind Date test holds vs all written same = absurd (let no : ⊥ = cc in no)
by_kind Plain test holds vs all written same = absurd (let no : ⊥ = cc in no)
by_kind Nested test holds vs all written same = absurd (let no : ⊥ = cc in no)
by_kind Join test holds vs all written same = absurd (let no : ⊥ = cc in no)

by_number : (kind : Kind) (test : List ℕ → Bool) (holds : FieldValue → Bool) (vs : List FieldValue) → All (IsOf kind) vs → is_written kind ≡ false
    → numbered kind test holds vs ≡ list_any holds (flat_map (terms_of (is_text_kind kind)) vs)
by_number Text test holds vs all written = absurd (let no : ⊥ = cc in no)
by_number Keyword test holds vs all written = absurd (let no : ⊥ = cc in no)
by_number Long test holds vs all written = or_false (list_any (λ z. holds (Number z)) (numbers_in vs)) ∙ number_any holds vs all ∙ sym (own_terms holds vs)
by_number Boolean test holds vs all written = or_false (list_any (λ z. holds (Number z)) (numbers_in vs)) ∙ number_any holds vs all ∙ sym (own_terms holds vs)
by_number Date test holds vs all written = or_false (list_any (λ z. holds (Number z)) (numbers_in vs)) ∙ number_any holds vs all ∙ sym (own_terms holds vs)
by_number Plain test holds vs all written = sym (none_of holds false vs all)
by_number Nested test holds vs all written = sym (none_of holds false vs all)
by_number Join test holds vs all written = sym (none_of holds false vs all)

-- the test of bytes is the test of the value that they are the key of
pub record Agree (kind : Kind) (test : List ℕ → Bool) (holds : FieldValue → Bool) : Type 0 where
  pub texts : is_written kind ≡ true → (s : List ℕ) → test s ≡ holds (Written s)
  pub numbers : is_written kind ≡ false → (z : ℤ) → FitsSigned w64 z → test (number_key z) ≡ holds (Number z)

pub term_shown : (m : Mapping) (f : ℕ) (o : Object) (test : List ℕ → Bool) (holds : FieldValue → Bool) → f < length m.fields → Fit (flat_of m o) → Agree (kind_at m f) test holds
    → has_term f test (flat_of m o) ≡ list_any holds (terms m f o)
term_shown m f o test holds known fit agree = elim (cases_Bool (is_written (kind_at m f))) [
  | inl written ↦
      term_parts m f o test known
      ∙ by_kind (kind_at m f) test holds (values m f o) (values_are m f o) written (agree.texts written)
  | inr number ↦
      term_numbered m f o test holds known fit (agree.numbers number)
      ∙ by_number (kind_at m f) test holds (values m f o) (values_are m f o) number
]
