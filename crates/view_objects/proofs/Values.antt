-- What the flat document of an object shows of a field is what the object shows, in order.
use Rattle.std.proofs.Common.{◌≡◌, ℕ, zero, suc, ℤ, ◌+◌, ◌<◌, ◌≤◌, Bool, true, false, ◌&&◌, ◌||◌, cond, List, [], ◌∷◌, ◌++◌, length, map, filter, All, Option, Some, None, refl, sym, ap, subst, ◌∙◌, inl, inr, arith, nat_eq, nat_lt}
use Rattle.std.specs.Prelude.{⊤, IfSome, IsTrue}
use Rattle.std.specs.List.{AllByRecursion, list_any, filter_map, flat_map, range_with_len}
use Rattle.std.specs.List.Sorted.{IsPermutation}
use Rattle.std.specs.Ordering.{int_cmp, is_gt}
use Rattle.std.specs.Option.{option_map}
use Rattle.std.specs.declared.cmp.Ordering.{Ordering}
use Rattle.std.proofs.lemmas.Bool.{cases_Bool, cond_both, eqb-true, lt-ltb, ne_eqb}
use Rattle.std.proofs.lemmas.Bool.Decides.{nat_tests}
use Rattle.std.proofs.lemmas.List.Elements.{All-nil, All-cons, All-append, recursion_from_All}
use Rattle.std.proofs.lemmas.List.Sorted.{IsPermutation-refl, IsPermutation-cons, IsPermutation-map, IsPermutation-middle, IsPermutation-trans}
use Rattle.mapping_body.specs.declared.kind.Kind.{Kind}
use Rattle.mapping_body.specs.declared.kind.Kind.TheVariants.{Text, Keyword, Long, Boolean, Date, Object as Plain, Nested, Join}
use Rattle.mapping.specs.Mapping.{Mapping, kind_at, home_of, knows, names_to, shows}
use Rattle.doc_values.specs.Values.{values_of}
use Rattle.segment.specs.Flat.{has_some}
use Rattle.tree_json.specs.Value.{JsonValue, null, bool, whole, text, list, object}
use Rattle.tree_objects.specs.declared.field_value.FieldValue.{FieldValue}
use Rattle.tree_objects.specs.declared.field_value.FieldValue.TheVariants.{Number, Written}
use Rattle.tree_objects.specs.Object.{Object, scope, content, tree_of, below, items}
use Rattle.tree_objects.specs.Values.{values, own_values, convert, text_of, long_of, boolean_of, date_of, whole_written, bool_written, bool_number}
use Rattle.date_fields.specs.Moment.{moment}
use Rattle.flattener.specs.Flat.{flat_of, ascending, placed, bytes_cmp, has_numbers, is_keyword, fields_of, numbers_in, number_in, texts_in, text_in}
use Rattle.query_ast.specs.Uses.{uses_at, uses_of, IsValueOf}
use Rattle.view_objects.specs.Values.{values_shown}

-- ---- kinds of values

abbrev IsNumber : FieldValue → Type 0
IsNumber (Number z) = ⊤
IsNumber (Written s) = ⊥

abbrev IsWritten : FieldValue → Type 0
IsWritten (Number z) = ⊥
IsWritten (Written s) = ⊤

abbrev IsOf : Kind → FieldValue → Type 0
IsOf Text v = IsWritten v
IsOf Keyword v = IsWritten v
IsOf Long v = IsNumber v
IsOf Boolean v = IsNumber v
IsOf Date v = IsNumber v
IsOf Plain v = ⊥
IsOf Nested v = ⊥
IsOf Join v = ⊥

number_made : {X : Type 0} (f : X → ℤ) (o : Option X) → IfSome (option_map (λ x. Number (f x)) o) IsNumber
number_made f None = tt
number_made f (Some x) = tt

text_is : (v : JsonValue) → IfSome (text_of v) IsWritten
text_is null = tt
text_is (bool b) = tt
text_is (whole z) = tt
text_is (text s) = tt
text_is (list ds) = tt
text_is (object ms) = tt

long_is : (v : JsonValue) → IfSome (long_of v) IsNumber
long_is null = tt
long_is (bool b) = tt
long_is (whole z) = tt
long_is (text s) = number_made (λ z. z) (whole_written s)
long_is (list ds) = tt
long_is (object ms) = tt

boolean_is : (v : JsonValue) → IfSome (boolean_of v) IsNumber
boolean_is null = tt
boolean_is (bool b) = tt
boolean_is (whole z) = tt
boolean_is (text s) = number_made bool_number (bool_written s)
boolean_is (list ds) = tt
boolean_is (object ms) = tt

date_is : (v : JsonValue) → IfSome (date_of v) IsNumber
date_is null = tt
date_is (bool b) = tt
date_is (whole z) = tt
date_is (text s) = number_made (λ z. z) (moment s)
date_is (list ds) = tt
date_is (object ms) = tt

converted : (kind : Kind) (v : JsonValue) → IfSome (convert kind v) (IsOf kind)
unfolding convert
converted Text v = text_is v
converted Keyword v = text_is v
converted Long v = long_is v
converted Boolean v = boolean_is v
converted Date v = date_is v
converted Plain v = tt
converted Nested v = tt
converted Join v = tt

module _ {X Y : Type 0} (P : Y → Type 0) where
  all_option : (f : X → Option Y) (x : X) (xs : List X) (o : Option Y) → f x ≡ o → IfSome o P → All P (filter_map f xs) → All P (filter_map f (x ∷ xs))
  all_option f x xs None e own rest = rw e rest
  all_option f x xs (Some y) e own rest = rw e (All-cons P y (filter_map f xs) own rest)

  all_filter_map : (f : X → Option Y) → ((x : X) → IfSome (f x) P) → (xs : List X) → All P (filter_map f xs)
  all_filter_map f each [] = All-nil P
  all_filter_map f each (x ∷ xs) = all_option f x xs (f x) refl (each x) (all_filter_map f each xs)

  all_flat_map : (f : X → List Y) → ((x : X) → All P (f x)) → (xs : List X) → All P (flat_map f xs)
  all_flat_map f each [] = All-nil P
  all_flat_map f each (x ∷ xs) = All-append P (f x) (flat_map f xs) (each x) (all_flat_map f each xs)

own_are : (m : Mapping) (f : ℕ) (o : Object) → All (IsOf (kind_at m f)) (own_values m f o)
own_are m f o = let none : List FieldValue = [] in cond_both (knows m (tree_of o).generation f) (filter_map (convert (kind_at m f)) (items (content o) (names_to m f))) none (All (IsOf (kind_at m f)))
    (λ _. all_filter_map (IsOf (kind_at m f)) (convert (kind_at m f)) (converted (kind_at m f)) (items (content o) (names_to m f)))
    (λ _. All-nil (IsOf (kind_at m f)))

-- the values that an object shows are of the field's kind
values_are : (m : Mapping) (f : ℕ) (o : Object) → All (IsOf (kind_at m f)) (values m f o)
values_are m f o =
    let P : List FieldValue → Type 0 = All (IsOf (kind_at m f)) in
    let none : List FieldValue = [] in
    let inside : List FieldValue = flat_map (own_values m f) (below m o (home_of m f)) in
    cond_both (nat_eq (home_of m f) (scope o)) (own_values m f o) (cond (shows m (tree_of o).generation f (scope o)) inside none) P
    (λ _. own_are m f o)
    (λ _. cond_both (shows m (tree_of o).generation f (scope o)) inside none P
    (λ _. all_flat_map (IsOf (kind_at m f)) (own_values m f) (own_are m f) (below m o (home_of m f)))
    (λ _. All-nil (IsOf (kind_at m f))))

-- ---- lists put in order

module _ {X : Type 0} where
  placed_same : (cmp : X → X → Ordering) (new : X) (xs : List X) → IsPermutation (new ∷ xs) (placed cmp new xs)
  placed_same cmp new [] = IsPermutation-refl (new ∷ [])
  placed_same cmp new (x ∷ xs) = elim (cases_Bool (is_gt (cmp new x))) [
    | inl later ↦
        rw later (IsPermutation-trans (new ∷ x ∷ xs) (x ∷ new ∷ xs) (x ∷ placed cmp new xs) (IsPermutation-middle (new ∷ []) x xs) (IsPermutation-cons x (new ∷ xs) (placed cmp new xs) (placed_same cmp new xs)))
    | inr here ↦ rw here (IsPermutation-refl (new ∷ x ∷ xs))
  ]

  ascending_same : (cmp : X → X → Ordering) (xs : List X) → IsPermutation xs (ascending cmp xs)
  ascending_same cmp [] = IsPermutation-refl []
  ascending_same cmp (x ∷ xs) =
      IsPermutation-trans (x ∷ xs) (x ∷ ascending cmp xs) (placed cmp x (ascending cmp xs))
      (IsPermutation-cons x xs (ascending cmp xs) (ascending_same cmp xs)) (placed_same cmp x (ascending cmp xs))

-- ---- one field of a mapping's

module _ {X : Type 0} (f : ℕ) (column : ℕ → List X) where
  abbrev pairs : List ℕ → List (ℕ × List X)
  pairs gs = filter has_some (map (λ (g : ℕ). (g, column g)) gs)

  own_pair : (g : ℕ) (gs : List ℕ) (found : List X) → nat_eq g f ≡ true → column g ≡ found → values_of f (pairs gs) ≡ cond (list_any (λ (g : ℕ). nat_eq g f) gs) (column f) []
      → values_of f (pairs (g ∷ gs)) ≡ column f
  own_pair g gs [] here own rest =
      let same : g ≡ f = eqb-true g f here in
      let none : column f ≡ [] = ap column (sym same) ∙ own in
      rw own (rest ∙ ap (λ (xs : List X). cond (list_any (λ (g : ℕ). nat_eq g f) gs) xs []) none ∙ either (list_any (λ (g : ℕ). nat_eq g f) gs) ∙ sym none)
    where
      either : (b : Bool) → cond {A = List X} b [] [] ≡ []
      either true = refl
      either false = refl
  own_pair g gs (x ∷ xs) here own rest =
      let same : g ≡ f = eqb-true g f here in
      let some : nat_lt 0 (length (x ∷ xs)) ≡ true = lt-ltb 0 (length (x ∷ xs)) (omega arith) in
      rw own (rw some (rw here (sym own ∙ ap column same)))

  other_pair : (g : ℕ) (gs : List ℕ) (found : List X) → nat_eq g f ≡ false → column g ≡ found → values_of f (pairs (g ∷ gs)) ≡ values_of f (pairs gs)
  other_pair g gs [] apart own = rw own refl
  other_pair g gs (x ∷ xs) apart own =
      let some : nat_lt 0 (length (x ∷ xs)) ≡ true = lt-ltb 0 (length (x ∷ xs)) (omega arith) in
      rw own (rw some (rw apart refl))

  values_of_pairs : (gs : List ℕ) → values_of f (pairs gs) ≡ cond (list_any (λ (g : ℕ). nat_eq g f) gs) (column f) []
  values_of_pairs [] = refl
  values_of_pairs (g ∷ gs) = elim (cases_Bool (nat_eq g f)) [
    | inl here ↦ own_pair g gs (column g) here refl (values_of_pairs gs) ∙ sym (ap (λ (b : Bool). cond (b || list_any (λ (g : ℕ). nat_eq g f) gs) (column f) []) here)
    | inr apart ↦ other_pair g gs (column g) apart refl ∙ values_of_pairs gs ∙ sym (ap (λ (b : Bool). cond (b || list_any (λ (g : ℕ). nat_eq g f) gs) (column f) []) apart)
  ]

-- ---- the fields of some kinds

before_range : (f start n : ℕ) (q : ℕ → Bool) → f < start → list_any (λ (g : ℕ). nat_eq g f && q g) (range_with_len start n) ≡ false
before_range f start zero q below = refl
before_range f start (suc n) q below =
    rw (ne_eqb start f (λ same. omega arith)) (before_range f (start + 1) n q (omega arith))

or_false : (b : Bool) → (b || false) ≡ b
or_false true = refl
or_false false = refl

one_in_range : (f start n : ℕ) (q : ℕ → Bool) → start ≤ f → f < start + n → list_any (λ (g : ℕ). nat_eq g f && q g) (range_with_len start n) ≡ q f
one_in_range f start zero q from to = absurd (omega arith)
one_in_range f start (suc n) q from to = elim (cases_Bool (nat_eq start f)) [
  | inl same ↦
      let is : start ≡ f = eqb-true start f same in
      rw (same, before_range f (start + 1) n q (omega arith)) (or_false (q start) ∙ ap q is)
  | inr other ↦
      rw other (one_in_range f (start + 1) n q (grind (arith, nat_tests)) (omega arith))
]

any_filtered : (f : ℕ) (q : ℕ → Bool) (gs : List ℕ) → list_any (λ (g : ℕ). nat_eq g f) (filter q gs) ≡ list_any (λ (g : ℕ). nat_eq g f && q g) gs
any_filtered f q [] = refl
any_filtered f q (g ∷ gs) = by (q g) (nat_eq g f) refl refl (any_filtered f q gs)
  where
    kept : (here : Bool) → list_any (λ (g : ℕ). nat_eq g f) (filter q gs) ≡ list_any (λ (g : ℕ). nat_eq g f && q g) gs → (here || list_any (λ (g : ℕ). nat_eq g f) (filter q gs)) ≡ ((here && true) || list_any (λ (g : ℕ). nat_eq g f && q g) gs)
    kept true rest = refl
    kept false rest = rest

    left : (here : Bool) → list_any (λ (g : ℕ). nat_eq g f) (filter q gs) ≡ list_any (λ (g : ℕ). nat_eq g f && q g) gs → list_any (λ (g : ℕ). nat_eq g f) (filter q gs) ≡ ((here && false) || list_any (λ (g : ℕ). nat_eq g f && q g) gs)
    left true rest = rest
    left false rest = rest

    by : (kept_it here : Bool) → q g ≡ kept_it → nat_eq g f ≡ here → list_any (λ (g : ℕ). nat_eq g f) (filter q gs) ≡ list_any (λ (g : ℕ). nat_eq g f && q g) gs
        → list_any (λ (g : ℕ). nat_eq g f) (filter q (g ∷ gs)) ≡ list_any (λ (g : ℕ). nat_eq g f && q g) (g ∷ gs)
    by true here is at rest = rw (is, at) (kept here rest)
    by false here is at rest = rw (is, at) (left here rest)

column_is : {X : Type 0} (m : Mapping) (test : Kind → Bool) (f : ℕ) (column : ℕ → List X) → f < length m.fields
    → values_of f (filter has_some (map (λ (g : ℕ). (g, column g)) (fields_of test m))) ≡ cond (test (kind_at m f)) (column f) []
column_is {X} m test f column known =
    let none : List X = [] in
    values_of_pairs f column (fields_of test m)
    ∙ ap (λ (b : Bool). cond b (column f) none)
    (any_filtered f (λ (g : ℕ). test (kind_at m g)) (range_with_len 0 (length m.fields))
    ∙ one_in_range f 0 (length m.fields) (λ (g : ℕ). test (kind_at m g)) (omega arith) (omega (arith, known)))

-- ---- values of one kind

all_numbers : (vs : List FieldValue) → AllByRecursion IsNumber vs → map Number (numbers_in vs) ≡ vs
all_numbers [] all = refl
all_numbers (Number z ∷ vs) all = ap (λ (l : List FieldValue). Number z ∷ l) (all_numbers vs all.1)
all_numbers (Written s ∷ vs) all = absurd all.0

all_written : (vs : List FieldValue) → AllByRecursion IsWritten vs → map Written (texts_in vs) ≡ vs
all_written [] all = refl
all_written (Number z ∷ vs) all = absurd all.0
all_written (Written s ∷ vs) all = ap (λ (l : List FieldValue). Written s ∷ l) (all_written vs all.1)

module _ (m : Mapping) (f : ℕ) (o : Object) (known : f < length m.fields) where
  numbers_are : has_numbers (kind_at m f) ≡ true → values_of f (flat_of m o).numbers ≡ ascending int_cmp (numbers_in (values m f o))
  numbers_are has =
      let none : List ℤ = [] in
      column_is m has_numbers f (λ (g : ℕ). ascending int_cmp (numbers_in (values m g o))) known
      ∙ ap (λ (b : Bool). cond b (ascending int_cmp (numbers_in (values m f o))) none) has

  keywords_are : is_keyword (kind_at m f) ≡ true → values_of f (flat_of m o).keywords ≡ ascending bytes_cmp (texts_in (values m f o))
  keywords_are is =
      let none : List (List ℕ) = [] in
      column_is m is_keyword f (λ (g : ℕ). ascending bytes_cmp (texts_in (values m g o))) known
      ∙ ap (λ (b : Bool). cond b (ascending bytes_cmp (texts_in (values m f o))) none) is

  numbers_same : AllByRecursion IsNumber (values m f o) → values_of f (flat_of m o).numbers ≡ ascending int_cmp (numbers_in (values m f o)) → IsPermutation (values m f o) (map Number (values_of f (flat_of m o).numbers))
  numbers_same all are =
      let zs : List ℤ = numbers_in (values m f o) in
      subst (λ (own : List ℤ). IsPermutation (values m f o) (map Number own)) (sym are)
      (subst (λ (vs : List FieldValue). IsPermutation vs (map Number (ascending int_cmp zs))) (all_numbers (values m f o) all)
      (IsPermutation-map Number zs (ascending int_cmp zs) (ascending_same int_cmp zs)))

  keywords_same : AllByRecursion IsWritten (values m f o) → values_of f (flat_of m o).keywords ≡ ascending bytes_cmp (texts_in (values m f o)) → IsPermutation (values m f o) (map Written (values_of f (flat_of m o).keywords))
  keywords_same all are =
      let ss : List (List ℕ) = texts_in (values m f o) in
      subst (λ (own : List (List ℕ)). IsPermutation (values m f o) (map Written own)) (sym are)
      (subst (λ (vs : List FieldValue). IsPermutation vs (map Written (ascending bytes_cmp ss))) (all_written (values m f o) all)
      (IsPermutation-map Written ss (ascending bytes_cmp ss) (ascending_same bytes_cmp ss)))

  -- by the field's kind
  by_kind : (kind : Kind) → kind_at m f ≡ kind → AllByRecursion (IsOf kind) (values m f o) → IsTrue (uses_of kind).sorted → IsPermutation (values m f o) (values_shown kind f (flat_of m o))
  by_kind Text at all is = absurd (let no : ⊥ = cc in no)
  by_kind Keyword at all is = keywords_same all (keywords_are (ap is_keyword at))
  by_kind Long at all is = numbers_same all (numbers_are (ap has_numbers at))
  by_kind Boolean at all is = numbers_same all (numbers_are (ap has_numbers at))
  by_kind Date at all is = numbers_same all (numbers_are (ap has_numbers at))
  by_kind Plain at all is = absurd (let no : ⊥ = cc in no)
  by_kind Nested at all is = absurd (let no : ⊥ = cc in no)
  by_kind Join at all is = absurd (let no : ⊥ = cc in no)

  pub shown_same : IsTrue (uses_at m f).sorted → IsPermutation (values m f o) (values_shown (kind_at m f) f (flat_of m o))
  shown_same is = by_kind (kind_at m f) refl (recursion_from_All (IsOf (kind_at m f)) (values m f o) (values_are m f o)) is

pub is_of_kind : (m : Mapping) (f : ℕ) (o : Object) → AllByRecursion (IsValueOf (kind_at m f)) (values m f o)
is_of_kind m f o = each (kind_at m f) (values m f o) (recursion_from_All (IsOf (kind_at m f)) (values m f o) (values_are m f o))
  where
    one : (kind : Kind) (v : FieldValue) → IsOf kind v → IsValueOf kind v
    one Text (Written s) is = refl
    one Keyword (Written s) is = refl
    one Long (Number z) is = refl
    one Boolean (Number z) is = refl
    one Date (Number z) is = refl
    one Text (Number z) is = absurd is
    one Keyword (Number z) is = absurd is
    one Long (Written s) is = absurd is
    one Boolean (Written s) is = absurd is
    one Date (Written s) is = absurd is
    one Plain v is = absurd is
    one Nested v is = absurd is
    one Join v is = absurd is

    each : (kind : Kind) (vs : List FieldValue) → AllByRecursion (IsOf kind) vs → AllByRecursion (IsValueOf kind) vs
    each kind [] all = tt
    each kind (v ∷ vs) all = (one kind v all.0, each kind vs all.1)
