-- What the flat document of an object shows of a field is what the object shows.
use Rattle.std.proofs.Common.{◌≡◌, ℕ, ℤ, ◌+◌, ◌<◌, Bool, true, false, ◌&&◌, ◌||◌, cond, List, [], ◌∷◌, ◌++◌, length, map, filter, All, Option, Some, None, refl, sym, ap, ◌∙◌, inl, inr, arith, nat_eq}
use Rattle.std.specs.Prelude.{⊤, IfSome}
use Rattle.std.specs.List.{list_any, filter_map, flat_map, range_with_len}
use Rattle.std.specs.Ordering.{int_cmp, is_gt}
use Rattle.std.specs.Option.{option_map}
use Rattle.std.specs.Str.{bytes_eq}
use Rattle.std.specs.declared.cmp.Ordering.{Ordering}
use Rattle.std.proofs.lemmas.Bool.{cases_Bool, cond_both}
use Rattle.std.proofs.lemmas.Bool.Decides.{nat_tests}
use Rattle.std.proofs.lemmas.List.Elements.{All-nil, All-cons, All-append}
use Rattle.std.proofs.lemmas.List.Folds.{list_any-append}
use Rattle.std.proofs.lemmas.Slice.Eq.{bytes_eq-Decides}
use Rattle.analysis.specs.Words.{words}
use Rattle.mapping_body.specs.declared.kind.Kind.{Kind}
use Rattle.mapping_body.specs.declared.kind.Kind.TheVariants.{Text, Keyword, Long, Boolean, Date, Object as Plain, Nested, Join}
use Rattle.mapping.specs.Mapping.{Mapping, kind_at, home_of, knows, names_to, shows}
use Rattle.segment.specs.Flat.{has_some}
use Rattle.tree_json.specs.Value.{JsonValue, null, bool, whole, text, list, object}
use Rattle.tree_objects.specs.declared.field_value.FieldValue.{FieldValue}
use Rattle.tree_objects.specs.declared.field_value.FieldValue.TheVariants.{Number, Written}
use Rattle.tree_objects.specs.Object.{Object, scope, content, tree_of, below, items}
use Rattle.tree_objects.specs.Values.{values, own_values, convert, text_of, long_of, boolean_of, date_of, whole_written, bool_written, bool_number}
use Rattle.date_fields.specs.Moment.{moment}
use Rattle.flattener.specs.Flat.{flat_of, ascending, placed, bytes_cmp, has_numbers, is_keyword, is_text, fields_of, numbers_in, texts_in, tokens, tokens_by, later_tokens, placed_words, position_gap, token_cmp, together, grouped, text_field, field_words}
use Rattle.segment.specs.Shows.{is_keyword_of, is_word_of}
use Rattle.leaf_search.proofs.Tests.{and_false, and_or, any_same, any_kept, any-filter, any-map, any-flat_map, one_in_range}

-- ---- kinds of values

abbrev pub IsNumber : FieldValue → Type 0
IsNumber (Number z) = ⊤
IsNumber (Written s) = ⊥

abbrev pub IsWritten : FieldValue → Type 0
IsWritten (Number z) = ⊥
IsWritten (Written s) = ⊤

abbrev pub IsOf : Kind → FieldValue → Type 0
IsOf Text v = IsWritten v
IsOf Keyword v = IsWritten v
IsOf Long v = IsNumber v
IsOf Boolean v = IsNumber v
IsOf Date v = IsNumber v
IsOf Plain v = ⊥
IsOf Nested v = ⊥
IsOf Join v = ⊥

number_made : {X : Type 0} (f : X → ℤ) (o : Option X) → IfSome (option_map (λ x. Number (f x)) o) IsNumber
number_made f None = tt
number_made f (Some x) = tt

text_is : (v : JsonValue) → IfSome (text_of v) IsWritten
text_is null = tt
text_is (bool b) = tt
text_is (whole z) = tt
text_is (text s) = tt
text_is (list ds) = tt
text_is (object ms) = tt

long_is : (v : JsonValue) → IfSome (long_of v) IsNumber
long_is null = tt
long_is (bool b) = tt
long_is (whole z) = tt
long_is (text s) = number_made (λ z. z) (whole_written s)
long_is (list ds) = tt
long_is (object ms) = tt

boolean_is : (v : JsonValue) → IfSome (boolean_of v) IsNumber
boolean_is null = tt
boolean_is (bool b) = tt
boolean_is (whole z) = tt
boolean_is (text s) = number_made bool_number (bool_written s)
boolean_is (list ds) = tt
boolean_is (object ms) = tt

date_is : (v : JsonValue) → IfSome (date_of v) IsNumber
date_is null = tt
date_is (bool b) = tt
date_is (whole z) = tt
date_is (text s) = number_made (λ z. z) (moment s)
date_is (list ds) = tt
date_is (object ms) = tt

converted : (kind : Kind) (v : JsonValue) → IfSome (convert kind v) (IsOf kind)
unfolding convert
converted Text v = text_is v
converted Keyword v = text_is v
converted Long v = long_is v
converted Boolean v = boolean_is v
converted Date v = date_is v
converted Plain v = tt
converted Nested v = tt
converted Join v = tt

module _ {X Y : Type 0} (P : Y → Type 0) where
  all_option : (f : X → Option Y) (x : X) (xs : List X) (o : Option Y) → f x ≡ o → IfSome o P → All P (filter_map f xs) → All P (filter_map f (x ∷ xs))
  all_option f x xs None e own rest = rw e rest
  all_option f x xs (Some y) e own rest = rw e (All-cons P y (filter_map f xs) own rest)

  all_filter_map : (f : X → Option Y) → ((x : X) → IfSome (f x) P) → (xs : List X) → All P (filter_map f xs)
  all_filter_map f each [] = All-nil P
  all_filter_map f each (x ∷ xs) = all_option f x xs (f x) refl (each x) (all_filter_map f each xs)

  all_flat_map : (f : X → List Y) → ((x : X) → All P (f x)) → (xs : List X) → All P (flat_map f xs)
  all_flat_map f each [] = All-nil P
  all_flat_map f each (x ∷ xs) = All-append P (f x) (flat_map f xs) (each x) (all_flat_map f each xs)

own_are : (m : Mapping) (f : ℕ) (o : Object) → All (IsOf (kind_at m f)) (own_values m f o)
own_are m f o = let none : List FieldValue = [] in cond_both (knows m (tree_of o).generation f) (filter_map (convert (kind_at m f)) (items (content o) (names_to m f))) none (All (IsOf (kind_at m f)))
    (λ _. all_filter_map (IsOf (kind_at m f)) (convert (kind_at m f)) (converted (kind_at m f)) (items (content o) (names_to m f)))
    (λ _. All-nil (IsOf (kind_at m f)))

-- the values that an object shows are of the field's kind
pub values_are : (m : Mapping) (f : ℕ) (o : Object) → All (IsOf (kind_at m f)) (values m f o)
values_are m f o =
    let P : List FieldValue → Type 0 = All (IsOf (kind_at m f)) in
    let none : List FieldValue = [] in
    let inside : List FieldValue = flat_map (own_values m f) (below m o (home_of m f)) in
    cond_both (nat_eq (home_of m f) (scope o)) (own_values m f o) (cond (shows m (tree_of o).generation f (scope o)) inside none) P
    (λ _. own_are m f o)
    (λ _. cond_both (shows m (tree_of o).generation f (scope o)) inside none P
    (λ _. all_flat_map (IsOf (kind_at m f)) (own_values m f) (own_are m f) (below m o (home_of m f)))
    (λ _. All-nil (IsOf (kind_at m f))))

-- ---- lists put in order

or_swap : (a b c : Bool) → (a || (b || c)) ≡ (b || (a || c))
or_swap true true c = refl
or_swap true false c = refl
or_swap false b c = refl

module _ {X : Type 0} where
  any_placed : (p : X → Bool) (cmp : X → X → Ordering) (new : X) (xs : List X) → list_any p (placed cmp new xs) ≡ (p new || list_any p xs)
  any_placed p cmp new [] = refl
  any_placed p cmp new (x ∷ xs) = elim (cases_Bool (is_gt (cmp new x))) [
    | inl later ↦ rw later (ap (λ (b : Bool). p x || b) (any_placed p cmp new xs) ∙ or_swap (p x) (p new) (list_any p xs))
    | inr here ↦ rw here refl
  ]

  pub any_ascending : (p : X → Bool) (cmp : X → X → Ordering) (xs : List X) → list_any p (ascending cmp xs) ≡ list_any p xs
  any_ascending p cmp [] = refl
  any_ascending p cmp (x ∷ xs) = any_placed p cmp x (ascending cmp xs) ∙ ap (λ (b : Bool). p x || b) (any_ascending p cmp xs)

-- ---- one field of a mapping's

and_move : (a b c : Bool) → (a && (b && c)) ≡ (b && (a && c))
and_move true b c = refl
and_move false true c = refl
and_move false false c = refl

pub fields_any : (m : Mapping) (test : Kind → Bool) (f : ℕ) (q : ℕ → Bool) → f < length m.fields → list_any (λ (g : ℕ). nat_eq g f && q g) (fields_of test m) ≡ (test (kind_at m f) && q f)
fields_any m test f q known =
    any-filter (λ (g : ℕ). nat_eq g f && q g) (λ (g : ℕ). test (kind_at m g)) (range_with_len 0 (length m.fields))
    ∙ any_same (λ (g : ℕ). test (kind_at m g) && (nat_eq g f && q g)) (λ (g : ℕ). nat_eq g f && (test (kind_at m g) && q g)) (λ g. and_move (test (kind_at m g)) (nat_eq g f) (q g)) (range_with_len 0 (length m.fields))
    ∙ one_in_range f 0 (length m.fields) (λ (g : ℕ). test (kind_at m g) && q g) (omega arith) (omega arith)

-- pairs without a value pass no test of their values
module _ {X : Type 0} (f : ℕ) (test : X → Bool) where
  abbrev pair_test : ℕ × List X → Bool
  pair_test pair = nat_eq pair.0 f && list_any test pair.1

  fails_empty : (g : ℕ) (xs : List X) → has_some (g, xs) ≡ false → pair_test (g, xs) ≡ false
  fails_empty g [] e = and_false (nat_eq g f)
  fails_empty g (x ∷ xs) e = absurd (let some : 0 < length (x ∷ xs) = omega arith in let no : true ≡ false = grind (arith, nat_tests) in cc)

  pub any_pairs : (m : Mapping) (kinds : Kind → Bool) (column : ℕ → List X) → f < length m.fields
      → list_any pair_test (filter has_some (map (λ (g : ℕ). (g, column g)) (fields_of kinds m))) ≡ (kinds (kind_at m f) && list_any test (column f))
  any_pairs m kinds column known =
      any_kept pair_test has_some (λ pair e. fails_empty pair.0 pair.1 e) (map (λ (g : ℕ). (g, column g)) (fields_of kinds m))
      ∙ any-map pair_test (λ (g : ℕ). (g, column g)) (fields_of kinds m)
      ∙ fields_any m kinds f (λ (g : ℕ). list_any test (column g)) known

-- ---- words

module _ (f : ℕ) (test : List ℕ → Bool) where
  abbrev token_test : List ℕ × ℕ → Bool
  token_test token = test token.0

  same_word : (a t rest : Bool) → ((a && t) || (a && rest)) ≡ ((a && t) || (a && (t || rest)))
  same_word true true rest = refl
  same_word true false rest = refl
  same_word false t rest = refl

  any_together : (g : ℕ) (word : List ℕ) (positions : List ℕ) (ts : List (List ℕ × ℕ))
      → list_any (is_word_of f test) (together g word positions ts) ≡ ((nat_eq g f && test word) || (nat_eq g f && list_any token_test ts))
  any_together g word positions [] = ap (λ (b : Bool). (nat_eq g f && test word) || b) (sym (and_false (nat_eq g f)))
  any_together g word positions (token ∷ ts) = elim (cases_Bool (bytes_eq token.0 word)) [
    | inl same ↦
        let is : token.0 ≡ word = (bytes_eq-Decides token.0 word).0 same in
        rw same (any_together g word (positions ++ token.1 ∷ []) ts
        ∙ same_word (nat_eq g f) (test word) (list_any token_test ts)
        ∙ ap (λ (w : List ℕ). (nat_eq g f && test word) || (nat_eq g f && (test w || list_any token_test ts))) (sym is))
    | inr other ↦
        rw other (ap (λ (b : Bool). (nat_eq g f && test word) || b) (any_together g token.0 (token.1 ∷ []) ts ∙ sym (and_or (nat_eq g f) (test token.0) (list_any token_test ts))))
  ]

  any_grouped : (g : ℕ) (ts : List (List ℕ × ℕ)) → list_any (is_word_of f test) (grouped g ts) ≡ (nat_eq g f && list_any token_test ts)
  any_grouped g [] = sym (and_false (nat_eq g f))
  any_grouped g (token ∷ ts) = any_together g token.0 (token.1 ∷ []) ts ∙ sym (and_or (nat_eq g f) (test token.0) (list_any token_test ts))

  any_placed_words : (at : ℕ) (ws : List (List ℕ)) → list_any token_test (placed_words at ws) ≡ list_any test ws
  any_placed_words at [] = refl
  any_placed_words at (word ∷ ws) = ap (λ (b : Bool). test word || b) (any_placed_words (at + 1) ws)

  any_later : (cut : List ℕ → List (List ℕ)) (end : ℕ) (texts : List (List ℕ)) → list_any token_test (later_tokens cut end texts) ≡ list_any test (flat_map cut texts)
  any_later cut end [] = refl
  any_later cut end (s ∷ texts) =
      let next : ℕ = cond (nat_eq (length (cut s)) 0) end (end + position_gap + length (cut s)) in
      list_any-append token_test (placed_words (end + position_gap) (cut s)) (later_tokens cut next texts)
      ∙ ap (λ (b : Bool). b || list_any token_test (later_tokens cut next texts)) (any_placed_words (end + position_gap) (cut s))
      ∙ ap (λ (b : Bool). list_any test (cut s) || b) (any_later cut next texts)
      ∙ sym (list_any-append test (cut s) (flat_map cut texts))

  any_tokens_by : (cut : List ℕ → List (List ℕ)) (texts : List (List ℕ)) → list_any token_test (tokens_by cut texts) ≡ list_any test (flat_map cut texts)
  any_tokens_by cut [] = refl
  any_tokens_by cut (s ∷ texts) =
      list_any-append token_test (placed_words 0 (cut s)) (later_tokens cut (length (cut s)) texts)
      ∙ ap (λ (b : Bool). b || list_any token_test (later_tokens cut (length (cut s)) texts)) (any_placed_words 0 (cut s))
      ∙ ap (λ (b : Bool). list_any test (cut s) || b) (any_later cut (length (cut s)) texts)
      ∙ sym (list_any-append test (cut s) (flat_map cut texts))

  any_tokens : (texts : List (List ℕ)) → list_any token_test (tokens texts) ≡ list_any test (flat_map words texts)
  unfolding tokens
  any_tokens texts = any_tokens_by words texts

  any_field_words : (g : ℕ) (texts : List (List ℕ)) → list_any (is_word_of f test) (field_words (g, texts)) ≡ (nat_eq g f && list_any test (flat_map words texts))
  any_field_words g texts =
      any_grouped g (ascending token_cmp (tokens texts))
      ∙ ap (λ (b : Bool). nat_eq g f && b) (any_ascending token_test token_cmp (tokens texts) ∙ any_tokens texts)

  pub any_words : (m : Mapping) (o : Object) → f < length m.fields → list_any (is_word_of f test) (flat_of m o).words ≡ (is_text (kind_at m f) && list_any test (flat_map words (texts_in (values m f o))))
  any_words m o known =
      any-flat_map (is_word_of f test) field_words (map (text_field m o) (fields_of is_text m))
      ∙ any-map (λ (field : ℕ × List (List ℕ)). list_any (is_word_of f test) (field_words field)) (text_field m o) (fields_of is_text m)
      ∙ any_same (λ (g : ℕ). list_any (is_word_of f test) (field_words (text_field m o g))) (λ (g : ℕ). nat_eq g f && list_any test (flat_map words (texts_in (values m g o))))
      (λ g. any_field_words g (texts_in (values m g o))) (fields_of is_text m)
      ∙ fields_any m is_text f (λ (g : ℕ). list_any test (flat_map words (texts_in (values m g o)))) known

-- ---- all columns

pub any_keywords : (m : Mapping) (o : Object) (f : ℕ) (test : List ℕ → Bool) → f < length m.fields → list_any (is_keyword_of f test) (flat_of m o).keywords ≡ (is_keyword (kind_at m f) && list_any test (texts_in (values m f o)))
any_keywords m o f test known =
    any_pairs f test m is_keyword (λ (g : ℕ). ascending bytes_cmp (texts_in (values m g o))) known
    ∙ ap (λ (b : Bool). is_keyword (kind_at m f) && b) (any_ascending test bytes_cmp (texts_in (values m f o)))

abbrev pub is_numbers_of : ℕ → (ℤ → Bool) → ℕ × List ℤ → Bool
is_numbers_of f test pair = nat_eq pair.0 f && list_any test pair.1

pub any_numbers : (m : Mapping) (o : Object) (f : ℕ) (test : ℤ → Bool) → f < length m.fields → list_any (is_numbers_of f test) (flat_of m o).numbers ≡ (has_numbers (kind_at m f) && list_any test (numbers_in (values m f o)))
any_numbers m o f test known =
    any_pairs f test m has_numbers (λ (g : ℕ). ascending int_cmp (numbers_in (values m g o))) known
    ∙ ap (λ (b : Bool). has_numbers (kind_at m f) && b) (any_ascending test int_cmp (numbers_in (values m f o)))
