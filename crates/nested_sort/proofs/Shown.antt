-- What the flat document of an object shows of a field are the values of the object, in order.
use Rattle.std.specs.Prelude.{◌≡◌, ℕ, zero, suc, ◌+◌, ◌<◌, ◌≤◌, ◌==◌, ℤ, Bool, true, false, List, [], ◌∷◌, ◌++◌, length, map, filter, nat_lt, Option, Some, None, ⊤, refl}
use Rattle.std.specs.List.{AllByRecursion, filter_map, flat_map, list_any, range_with_len}
use Rattle.std.specs.Option.{option_map}
use Rattle.std.specs.Ordering.{int_cmp}
use Rattle.std.proofs.Common.{arith, ap, sym, ◌∙◌}
use Rattle.std.proofs.lemmas.Bool.{eqb-true, false≢true}
use Rattle.std.proofs.lemmas.Bool.Decides.{nat_tests}
use Rattle.date_fields.specs.Moment.{moment}
use Rattle.doc_values.specs.Values.{values_of}
use Rattle.flattener.specs.Flat.{ascending, bytes_cmp, fields_of, flat_of, has_numbers, is_keyword, numbers_in, texts_in}
use Rattle.mapping_body.specs.declared.kind.Kind.{Kind}
use Rattle.mapping_body.specs.declared.kind.Kind.TheVariants.{Text, Keyword, Long, Boolean, Date, Object as Plain, Nested, Join}
use Rattle.mapping.specs.Mapping.{Mapping, kind_at, home_of, knows, names_to, shows}
use Rattle.segment.specs.Flat.{has_some}
use Rattle.tree_json.specs.Value.{JsonValue, null, bool, whole, text, list, object}
use Rattle.tree_objects.specs.declared.field_value.FieldValue.{FieldValue}
use Rattle.tree_objects.specs.declared.field_value.FieldValue.TheVariants.{Number, Written}
use Rattle.tree_objects.specs.Object.{Object, scope, content, tree_of, below, items}
use Rattle.tree_objects.specs.Values.{values, own_values, convert, text_of, long_of, boolean_of, date_of, whole_written, bool_written, bool_number}
use Rattle.nested_sort.specs.Documents.{number_value, text_value}
use Rattle.nested_sort.proofs.Alike.{by_test, Reordered, numbers_reordered, texts_reordered}

-- ---- the values of a field are of its kind

abbrev IsNumber : FieldValue → Type 0
IsNumber (Number z) = ⊤
IsNumber (Written s) = ⊥

abbrev IsWritten : FieldValue → Type 0
IsWritten (Number z) = ⊥
IsWritten (Written s) = ⊤

abbrev IsOf : Kind → FieldValue → Type 0
IsOf Text v = IsWritten v
IsOf Keyword v = IsWritten v
IsOf Long v = IsNumber v
IsOf Boolean v = IsNumber v
IsOf Date v = IsNumber v
IsOf Plain v = ⊥
IsOf Nested v = ⊥
IsOf Join v = ⊥

abbrev MayBe : (FieldValue → Type 0) → Option FieldValue → Type 0
MayBe P None = ⊤
MayBe P (Some v) = P v

number_made : {X : Type 0} (f : X → ℤ) (o : Option X) → MayBe IsNumber (option_map (λ x. Number (f x)) o)
number_made f None = tt
number_made f (Some x) = tt

text_is : (v : JsonValue) → MayBe IsWritten (text_of v)
text_is null = tt
text_is (bool b) = tt
text_is (whole z) = tt
text_is (text s) = tt
text_is (list ds) = tt
text_is (object ms) = tt

long_is : (v : JsonValue) → MayBe IsNumber (long_of v)
long_is null = tt
long_is (bool b) = tt
long_is (whole z) = tt
long_is (text s) = number_made (λ z. z) (whole_written s)
long_is (list ds) = tt
long_is (object ms) = tt

boolean_is : (v : JsonValue) → MayBe IsNumber (boolean_of v)
boolean_is null = tt
boolean_is (bool b) = tt
boolean_is (whole z) = tt
boolean_is (text s) = number_made bool_number (bool_written s)
boolean_is (list ds) = tt
boolean_is (object ms) = tt

date_is : (v : JsonValue) → MayBe IsNumber (date_of v)
date_is null = tt
date_is (bool b) = tt
date_is (whole z) = tt
date_is (text s) = number_made (λ z. z) (moment s)
date_is (list ds) = tt
date_is (object ms) = tt

converted : (kind : Kind) (v : JsonValue) → MayBe (IsOf kind) (convert kind v)
unfolding convert
converted Text v = text_is v
converted Keyword v = text_is v
converted Long v = long_is v
converted Boolean v = boolean_is v
converted Date v = date_is v
converted Plain v = tt
converted Nested v = tt
converted Join v = tt

module _ (P : FieldValue → Type 0) where
  all_append : (xs ys : List FieldValue) → AllByRecursion P xs → AllByRecursion P ys → AllByRecursion P (xs ++ ys)
  all_append [] ys one other = other
  all_append (x ∷ xs) ys one other = (one.0, all_append xs ys one.1 other)

  one_more : {X : Type 0} (f : X → Option FieldValue) (x : X) (xs : List X) (o : Option FieldValue) → f x ≡ o → MayBe P o → AllByRecursion P (filter_map f xs) → AllByRecursion P (filter_map f (x ∷ xs))
  one_more f x xs None e own rest = rw e rest
  one_more f x xs (Some y) e own rest = rw e (own, rest)

  all_kept : {X : Type 0} (f : X → Option FieldValue) → ((x : X) → MayBe P (f x)) → (xs : List X) → AllByRecursion P (filter_map f xs)
  all_kept f each [] = tt
  all_kept f each (x ∷ xs) = one_more f x xs (f x) refl (each x) (all_kept f each xs)

  all_flat : {X : Type 0} (f : X → List FieldValue) → ((x : X) → AllByRecursion P (f x)) → (xs : List X) → AllByRecursion P (flat_map f xs)
  all_flat f each [] = tt
  all_flat f each (x ∷ xs) = all_append (f x) (flat_map f xs) (each x) (all_flat f each xs)

own_are : (m : Mapping) (f : ℕ) (o : Object) → AllByRecursion (IsOf (kind_at m f)) (own_values m f o)
own_are m f o =
    by_test (knows m (tree_of o).generation f)
    (λ yes. rw yes (all_kept (IsOf (kind_at m f)) (convert (kind_at m f)) (converted (kind_at m f)) (items (content o) (names_to m f))))
    (λ no. rw no tt)

values_are : (m : Mapping) (f : ℕ) (o : Object) → AllByRecursion (IsOf (kind_at m f)) (values m f o)
values_are m f o =
    by_test (home_of m f == scope o)
    (λ own. rw own (own_are m f o))
    (λ other. by_test (shows m (tree_of o).generation f (scope o))
    (λ shown. rw (other, shown) (all_flat (IsOf (kind_at m f)) (own_values m f) (own_are m f) (below m o (home_of m f))))
    (λ hidden. rw (other, hidden) tt))

numbers_back : (vs : List FieldValue) → AllByRecursion IsNumber vs → vs ≡ map number_value (numbers_in vs)
numbers_back [] all = refl
numbers_back (Number z ∷ vs) all = ap (λ rest. Number z ∷ rest) (numbers_back vs all.1)
numbers_back (Written s ∷ vs) all = absurd all.0

texts_back : (vs : List FieldValue) → AllByRecursion IsWritten vs → vs ≡ map text_value (texts_in vs)
texts_back [] all = refl
texts_back (Number z ∷ vs) all = absurd all.0
texts_back (Written s ∷ vs) all = ap (λ rest. Written s ∷ rest) (texts_back vs all.1)

are_numbers : (kind : Kind) (vs : List FieldValue) → has_numbers kind ≡ true → AllByRecursion (IsOf kind) vs → vs ≡ map number_value (numbers_in vs)
are_numbers Text vs is all = absurd (false≢true is)
are_numbers Keyword vs is all = absurd (false≢true is)
are_numbers Long vs is all = numbers_back vs all
are_numbers Boolean vs is all = numbers_back vs all
are_numbers Date vs is all = numbers_back vs all
are_numbers Plain vs is all = absurd (false≢true is)
are_numbers Nested vs is all = absurd (false≢true is)
are_numbers Join vs is all = absurd (false≢true is)

are_texts : (kind : Kind) (vs : List FieldValue) → is_keyword kind ≡ true → AllByRecursion (IsOf kind) vs → vs ≡ map text_value (texts_in vs)
are_texts Text vs is all = absurd (false≢true is)
are_texts Keyword vs is all = texts_back vs all
are_texts Long vs is all = absurd (false≢true is)
are_texts Boolean vs is all = absurd (false≢true is)
are_texts Date vs is all = absurd (false≢true is)
are_texts Plain vs is all = absurd (false≢true is)
are_texts Nested vs is all = absurd (false≢true is)
are_texts Join vs is all = absurd (false≢true is)

-- ---- the values of a field in a flat document

module _ {X : Type 0} (shown : ℕ → List X) (f : ℕ) where
  abbrev column : ℕ → ℕ × List X
  column g = (g, shown g)

  no_values : (fs : List ℕ) → shown f ≡ [] → values_of f (filter has_some (map column fs)) ≡ []
  no_values [] none = refl
  no_values (g ∷ fs) none =
      by_test (has_some (column g))
      (λ some. by_test (g == f)
      (λ same. let is : g ≡ f = eqb-true g f same in rw (some, same) (ap shown is ∙ none))
      (λ other. rw (some, other) (no_values fs none)))
      (λ empty. rw empty (no_values fs none))

  nothing : (xs : List X) → nat_lt 0 (length xs) ≡ false → xs ≡ []
  nothing [] e = refl
  nothing (x ∷ xs) e = absurd (let some : nat_lt 0 (length (x ∷ xs)) ≡ true = grind (arith, nat_tests) in false≢true (sym e ∙ some))

  own_values_are : (fs : List ℕ) → list_any (λ g. g == f) fs ≡ true → values_of f (filter has_some (map column fs)) ≡ shown f
  own_values_are [] known = absurd (false≢true known)
  own_values_are (g ∷ fs) known =
      by_test (g == f)
      (λ same.
      let is : g ≡ f = eqb-true g f same in
      by_test (has_some (column g))
      (λ some. rw (some, same) (ap shown is))
      (λ empty.
      let none : shown f ≡ [] = ap shown (sym is) ∙ nothing (shown g) empty in
      rw empty (no_values fs none ∙ sym none)))
      (λ other.
      let rest : values_of f (filter has_some (map column fs)) ≡ shown f = own_values_are fs (rw other at known) in
      by_test (has_some (column g)) (λ some. rw (some, other) rest) (λ empty. rw empty rest))

in_range : (test : ℕ → Bool) (f start count : ℕ) → test f ≡ true → start ≤ f → f < start + count → list_any (λ g. g == f) (filter test (range_with_len start count)) ≡ true
in_range test f start zero own low high = absurd (omega arith)
in_range test f start (suc count) own low high =
    by_test (start == f)
    (λ same. let is : start ≡ f = eqb-true start f same in let here : test start ≡ true = ap test is ∙ own in rw (here, same) refl)
    (λ other.
    let apart : start + 1 ≤ f = grind (arith, nat_tests) in
    let rest : list_any (λ g. g == f) (filter test (range_with_len (start + 1) count)) ≡ true = in_range test f (start + 1) count own apart (omega arith) in
    by_test (test start) (λ held. rw (held, other) rest) (λ failed. rw failed rest))

known_field : (m : Mapping) (test : Kind → Bool) (f : ℕ) → f < length m.fields → test (kind_at m f) ≡ true → list_any (λ g. g == f) (fields_of test m) ≡ true
known_field m test f low is = in_range (λ g. test (kind_at m g)) f 0 (length m.fields) is (omega arith) (omega arith)

pub numbers_shown : (m : Mapping) (o : Object) (f : ℕ) → f < length m.fields → has_numbers (kind_at m f) ≡ true → Reordered (map number_value (values_of f (flat_of m o).numbers)) (values m f o)
numbers_shown m o f low is =
    numbers_reordered (map number_value (values_of f (flat_of m o).numbers)) (values m f o) (numbers_in (values m f o))
    (ap (map number_value) (own_values_are (λ g. ascending int_cmp (numbers_in (values m g o))) f (fields_of has_numbers m) (known_field m has_numbers f low is)))
    (are_numbers (kind_at m f) (values m f o) is (values_are m f o))

pub texts_shown : (m : Mapping) (o : Object) (f : ℕ) → f < length m.fields → is_keyword (kind_at m f) ≡ true → Reordered (map text_value (values_of f (flat_of m o).keywords)) (values m f o)
texts_shown m o f low is =
    texts_reordered (map text_value (values_of f (flat_of m o).keywords)) (values m f o) (texts_in (values m f o))
    (ap (map text_value) (own_values_are (λ g. ascending bytes_cmp (texts_in (values m g o))) f (fields_of is_keyword m) (known_field m is_keyword f low is)))
    (are_texts (kind_at m f) (values m f o) is (values_are m f o))
