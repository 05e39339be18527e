-- The values that an object shows of a field are together no longer than the compact text of its tree's source.
use Rattle.std.proofs.Common.{◌≡◌, ℕ, zero, suc, ◌+◌, ◌≤◌, ◌==◌, ◌/◌, ◌%◌, ℤ, pos, negsuc, Bool, true, false, nat_lt, List as Seq, [], ◌∷◌, ◌++◌, length, length-append, filter, refl, sym, ap, ◌∙◌, append-nil, arith, Option, Some, None, option_map, bytes_eq, codes}
use Rattle.std.proofs.lemmas.Option.{none-some}
use Rattle.std.proofs.lemmas.List.Elements.{All-contains, All-from_recursion}
use Rattle.std.specs.Fmt.{decimal, digit_glyph, digits, digits_onto, signed_decimal}
use Rattle.std.specs.List.{AllByRecursion, Contains, filter_map, flat_map, sum_by}
use Rattle.std.proofs.lemmas.List.Concat.{flat_map-append}
use Rattle.std.proofs.lemmas.List.Sums.{sum_by-cons}
use Rattle.json.specs.Print.{escape, escape_byte, escape_letter}
use Rattle.tree_json.specs.Text.{comma_if, compact, compact_elements, compact_members, quoted}
use Rattle.tree_json.specs.Value.{JsonValue, null, bool, whole, text, list, object, Elements, no_elements, element, Members, no_members, member, is_object}
use Rattle.mapping_body.specs.declared.kind.Kind.{Kind}
use Rattle.mapping_body.specs.declared.kind.Kind.TheVariants.{Text, Keyword, Long, Boolean, Date, Object as Plain, Nested, Join}
use Rattle.mapping_body.proofs.Walks.{split}
use Rattle.mapping.specs.Mapping.{Mapping, home_of, kids, kind_at, knows, names_to, scope_at, shows}
use Rattle.tree_objects.specs.Tree.{Tree}
use Rattle.tree_objects.specs.Object.{Object, root, inside, scope, content, tree_of, items, items_in, items_at, numbered, given, children, way, below, below_along, objects, block_objects}
use Rattle.tree_objects.specs.Values.{bool_name, bool_number, bool_written, boolean_of, convert, date_of, long_of, own_values, text_of, values, whole_written, written_bytes}
use Rattle.date_fields.specs.Moment.{moment}
use Rattle.tree_objects.specs.declared.field_value.FieldValue.{FieldValue}
use Rattle.tree_objects.specs.declared.field_value.FieldValue.TheVariants.{Number, Written}
use Rattle.tree_objects.proofs.Faultless.{list_none, null_none, object_none}
use Rattle.tree_objects.proofs.Inside.{each_append, each_flat, each_from}

-- ---- sums over a list

abbrev pub total : {A : Type 0} → (A → ℕ) → Seq A → ℕ
total weight [] = 0
total weight (x ∷ xs) = weight x + total weight xs

pub total_append : {A : Type 0} (weight : A → ℕ) (xs ys : Seq A) → total weight (xs ++ ys) ≡ total weight xs + total weight ys
total_append weight [] ys = omega arith
total_append weight (x ∷ xs) ys = omega (arith, total_append weight xs ys)

total_filter : {A : Type 0} (weight : A → ℕ) (test : A → Bool) (xs : Seq A) → total weight (filter test xs) ≤ total weight xs
total_filter weight test [] = omega arith
total_filter weight test (x ∷ xs) =
    split (test x)
    (λ held. rw held (omega (arith, total_filter weight test xs)))
    (λ failed. rw failed (omega (arith, total_filter weight test xs)))

-- ---- texts

letter_long : (byte : ℕ) → 1 ≤ length (escape_byte byte)
unfolding escape_byte
letter_long byte =
    split (nat_lt 0 (escape_letter byte))
    (λ short. rw short (omega arith))
    (λ other. split (nat_lt byte 32)
    (λ control. rw (other, control) (omega arith))
    (λ plain. rw (other, plain) (omega arith)))

escape_long : (s : Seq ℕ) → length s ≤ length (escape s)
escape_long [] = omega arith
escape_long (byte ∷ s) = omega (arith, letter_long byte, escape_long s, length-append (escape_byte byte) (escape s))

quoted_long : (s : Seq ℕ) → length s + 2 ≤ length (quoted s)
unfolding quoted
quoted_long s = omega (arith, escape_long s, length-append (codes "\"") (escape s ++ codes "\""), length-append (escape s) (codes "\""))

onto_some : (k n : ℕ) (digits : Seq ℕ) → 1 ≤ length digits → 1 ≤ length (digits_onto k 10 false n digits)
onto_some zero n digits some = some
onto_some (suc k) n digits some =
    split (n / 10 == 0)
    (λ last. rw last (omega arith))
    (λ more. rw more (onto_some k (n / 10) (digit_glyph false (n % 10) ∷ digits) (omega arith)))

onto_first : (k n : ℕ) → 1 ≤ length (digits_onto (suc k) 10 false n [])
onto_first k n =
    split (n / 10 == 0)
    (λ last. rw last (omega arith))
    (λ more. rw more (onto_some k (n / 10) (digit_glyph false (n % 10) ∷ []) (omega arith)))

decimal_long : (n : ℕ) → 1 ≤ length (decimal n)
unfolding digits
decimal_long n = onto_first 63 n

number_long : (z : ℤ) → 1 ≤ length (signed_decimal z)
number_long (pos n) = decimal_long n
number_long (negsuc n) = omega arith

-- ---- items

abbrev pub weight_of : JsonValue → ℕ
weight_of v = length (compact v)

mutual
  items_light : (v : JsonValue) (names : Seq (Seq ℕ)) → total weight_of (items v names) ≤ weight_of v
  items_light null names = omega arith
  items_light (list ds) names =
      omega (arith, in_light false ds names, length-append (codes "[") (compact_elements false ds ++ codes "]"), length-append (compact_elements false ds) (codes "]"))
  items_light (object ms) [] = omega arith
  items_light (object ms) (name ∷ names) =
      omega (arith, at_light false ms name names, length-append (codes "{") (compact_members false ms ++ codes "}"), length-append (compact_members false ms) (codes "}"))
  items_light (bool b) [] = omega arith
  items_light (bool b) (name ∷ names) = omega arith
  items_light (whole z) [] = omega arith
  items_light (whole z) (name ∷ names) = omega arith
  items_light (text s) [] = omega arith
  items_light (text s) (name ∷ names) = omega arith

  in_light : (later : Bool) (ds : Elements) (names : Seq (Seq ℕ)) → total weight_of (items_in ds names) ≤ length (compact_elements later ds)
  in_light later no_elements names = omega arith
  in_light later (element d ds) names =
      omega (
        arith,
        items_light d names,
        in_light true ds names,
        total_append weight_of (items d names) (items_in ds names),
        length-append (comma_if later) (compact d ++ compact_elements true ds),
        length-append (compact d) (compact_elements true ds),
      )

  at_light : (later : Bool) (ms : Members) (name : Seq ℕ) (names : Seq (Seq ℕ)) → total weight_of (items_at ms name names) ≤ length (compact_members later ms)
  at_light later no_members name names = omega arith
  at_light later (member k d ms) name names =
      let whole = length-append (comma_if later) ((quoted k ++ (codes ":" ++ compact d)) ++ compact_members true ms) in
      let front = length-append (quoted k ++ (codes ":" ++ compact d)) (compact_members true ms) in
      let own = length-append (quoted k) (codes ":" ++ compact d) in
      let value = length-append (codes ":") (compact d) in
      split (bytes_eq k name)
      (λ same. rw same (omega (arith, items_light d names, whole, front, own, value)))
      (λ other. rw other (omega (arith, at_light true ms name names, whole, front, own, value)))

-- ---- values

abbrev FitsIn : (FieldValue → ℕ) → JsonValue → Option FieldValue → Type 0
FitsIn measure w None = Unit {0}
FitsIn measure w (Some v) = measure v ≤ weight_of w

-- no value is longer than the text that it is written by
abbrev IsLight : (FieldValue → ℕ) → Type 0
IsLight measure = (kind : Kind) (w : JsonValue) (v : FieldValue) → convert kind w ≡ Some v → measure v ≤ weight_of w

module _ (measure : FieldValue → ℕ) (light : IsLight measure) where
  fits : (kind : Kind) (w : JsonValue) (o : Option FieldValue) → convert kind w ≡ o → FitsIn measure w o
  fits kind w None is = tt
  fits kind w (Some v) is = light kind w v is

  next_light : (t : JsonValue → Option FieldValue) (w : JsonValue) (ws : Seq JsonValue) (o : Option FieldValue) → t w ≡ o → FitsIn measure w o → total measure (filter_map t ws) ≤ total weight_of ws
      → total measure (filter_map t (w ∷ ws)) ≤ total weight_of (w ∷ ws)
  next_light t w ws None is fit rest = rw is (omega (arith, rest))
  next_light t w ws (Some v) is fit rest = rw is (omega (arith, fit, rest))

  values_light : (kind : Kind) (ws : Seq JsonValue) → total measure (filter_map (convert kind) ws) ≤ total weight_of ws
  values_light kind [] = omega arith
  values_light kind (w ∷ ws) = next_light (convert kind) w ws (convert kind w) refl (fits kind w (convert kind w) refl) (values_light kind ws)

  own_light : (m : Mapping) (f : ℕ) (o : Object) → total measure (own_values m f o) ≤ weight_of (content o)
  own_light m f o =
      split (knows m (tree_of o).generation f)
      (λ held. rw held (omega (arith, values_light (kind_at m f) (items (content o) (names_to m f)), items_light (content o) (names_to m f))))
      (λ failed. rw failed (omega arith))

  numbered_light : (m : Mapping) (f : ℕ) (ns : Seq ℕ) (o : Object) (n k : ℕ) (vs : Seq JsonValue) → ((c : Object) → total measure (flat_map (own_values m f) (below_along m c ns)) ≤ weight_of (content c))
      → total measure (flat_map (own_values m f) (flat_map (λ c. below_along m c ns) (numbered o n k vs))) ≤ total weight_of vs
  numbered_light m f ns o n k [] each = omega arith
  numbered_light m f ns o n k (v ∷ vs) each =
      let c : Object = inside o n k v in
      omega (
        arith,
        each (inside o n k v),
        numbered_light m f ns o n (k + 1) vs each,
        ap (total measure) (flat_map-append (own_values m f) (below_along m (inside o n k v) ns) (flat_map (λ c. below_along m c ns) (numbered o n (k + 1) vs))),
        total_append measure (flat_map (own_values m f) (below_along m (inside o n k v) ns)) (flat_map (own_values m f) (flat_map (λ c. below_along m c ns) (numbered o n (k + 1) vs))),
      )

  along_light : (m : Mapping) (f : ℕ) (ns : Seq ℕ) (o : Object) → total measure (flat_map (own_values m f) (below_along m o ns)) ≤ weight_of (content o)
  along_light m f [] o = omega (arith, own_light m f o, ap (total measure) (append-nil (own_values m f o)))
  along_light m f (n ∷ ns) o =
      split (given m o n)
      (λ held. rw held (omega (
        arith,
        numbered_light m f ns o n 0 (filter is_object (items (content o) (scope_at m n).names)) (along_light m f ns),
        total_filter weight_of is_object (items (content o) (scope_at m n).names),
        items_light (content o) (scope_at m n).names,
      )))
      (λ failed. rw failed (omega arith))

  shown_light : (m : Mapping) (f : ℕ) (o : Object) → total measure (values m f o) ≤ weight_of (content o)
  unfolding below
  shown_light m f o =
      split (home_of m f == scope o)
      (λ here. rw here (own_light m f o))
      (λ other. split (shows m (tree_of o).generation f (scope o))
      (λ shown. rw (other, shown) (along_light m f (way m (scope o) (home_of m f)) o))
      (λ hidden. rw (other, hidden) (omega arith)))

-- ---- objects

abbrev IsWithin : ℕ → Object → Type 0
IsWithin most o = weight_of (content o) ≤ most

light_each : (most : ℕ) (o : Object) (n k : ℕ) (vs : Seq JsonValue) → total weight_of vs ≤ most → AllByRecursion (IsWithin most) (numbered o n k vs)
light_each most o n k [] h = tt
light_each most o n k (v ∷ vs) h = (omega (arith, h), light_each most o n (k + 1) vs (omega (arith, h)))

children_light : (most : ℕ) (m : Mapping) (o : Object) (n : ℕ) → weight_of (content o) ≤ most → AllByRecursion (IsWithin most) (children m o n)
children_light most m o n h =
    split (given m o n)
    (λ held. rw held (light_each most o n 0 (filter is_object (items (content o) (scope_at m n).names))
    (omega (arith, h, total_filter weight_of is_object (items (content o) (scope_at m n).names), items_light (content o) (scope_at m n).names))))
    (λ failed. rw failed tt)

any_each : {A : Type 0} (P : A → Type 0) → ((x : A) → P x) → (xs : Seq A) → AllByRecursion P xs
any_each P all [] = tt
any_each P all (x ∷ xs) = (all x, any_each P all xs)

objects_light : (most : ℕ) (m : Mapping) (left : ℕ) (o : Object) → weight_of (content o) ≤ most → AllByRecursion (IsWithin most) (objects m left o)
objects_light most m zero o h = (h, tt)
objects_light most m (suc left) o h =
    each_append (IsWithin most) (flat_map (λ n. flat_map (λ c. objects m left c) (children m o n)) (kids m (scope o))) (o ∷ [])
    (each_flat (IsWithin most) (λ n. flat_map (λ c. objects m left c) (children m o n)) (kids m (scope o))
    (any_each (λ (n : ℕ). AllByRecursion (IsWithin most) (flat_map (λ c. objects m left c) (children m o n))) (λ n.
    each_flat (IsWithin most) (λ c. objects m left c) (children m o n)
    (each_from (IsWithin most) (λ (c : Object). AllByRecursion (IsWithin most) (objects m left c)) (λ c inner. objects_light most m left c inner) (children m o n) (children_light most m o n h)))
    (kids m (scope o))))
    (h, tt)

content_light : (m : Mapping) (tree : Tree) (o : Object) → Contains (block_objects m tree) o → weight_of (content o) ≤ weight_of tree.source
unfolding block_objects
content_light m tree o of =
    All-contains (IsWithin (weight_of tree.source)) (objects m (length m.scopes) (root tree)) o
    (All-from_recursion (IsWithin (weight_of tree.source)) (objects m (length m.scopes) (root tree)) (objects_light (weight_of tree.source) m (length m.scopes) (root tree) (omega arith))) of

-- ---- how many there are, and how long they are

abbrev one_each : FieldValue → ℕ
one_each v = 1

single_long : (kind : Kind) (w : JsonValue) (v : FieldValue) → convert kind w ≡ Some v → 1 ≤ weight_of w
single_long kind null v is = absurd (none-some v (sym (null_none kind) ∙ is))
single_long kind (list ds) v is = absurd (none-some v (sym (list_none kind ds) ∙ is))
single_long kind (object ms) v is = absurd (none-some v (sym (object_none kind ms) ∙ is))
single_long kind (bool true) v is = omega arith
single_long kind (bool false) v is = omega arith
single_long kind (whole z) v is = number_long z
single_long kind (text s) v is = omega (arith, quoted_long s)

number_empty : (o : Option ℤ) (v : FieldValue) → option_map (λ z. Number z) o ≡ Some v → written_bytes v ≡ 0
number_empty None v is = absurd (none-some v is)
number_empty (Some z) v is = let same : Number z ≡ v = cc in ap written_bytes (sym same)

truth_empty : (o : Option Bool) (v : FieldValue) → option_map (λ b. Number (bool_number b)) o ≡ Some v → written_bytes v ≡ 0
truth_empty None v is = absurd (none-some v is)
truth_empty (Some b) v is = let same : Number (bool_number b) ≡ v = cc in ap written_bytes (sym same)

text_light : (w : JsonValue) (v : FieldValue) → text_of w ≡ Some v → written_bytes v ≤ weight_of w
text_light null v is = absurd (none-some v is)
text_light (list ds) v is = absurd (none-some v is)
text_light (object ms) v is = absurd (none-some v is)
text_light (bool true) v is = let same : Written (bool_name true) ≡ v = cc in omega (arith, ap written_bytes same)
text_light (bool false) v is = let same : Written (bool_name false) ≡ v = cc in omega (arith, ap written_bytes same)
text_light (whole z) v is = let same : Written (signed_decimal z) ≡ v = cc in omega (arith, ap written_bytes same)
text_light (text s) v is = let same : Written s ≡ v = cc in omega (arith, ap written_bytes same, quoted_long s)

long_light : (w : JsonValue) (v : FieldValue) → long_of w ≡ Some v → written_bytes v ≤ weight_of w
long_light null v is = absurd (none-some v is)
long_light (list ds) v is = absurd (none-some v is)
long_light (object ms) v is = absurd (none-some v is)
long_light (bool b) v is = absurd (none-some v is)
long_light (whole z) v is = omega (arith, number_empty (Some z) v is)
long_light (text s) v is = omega (arith, number_empty (whole_written s) v is)

boolean_light : (w : JsonValue) (v : FieldValue) → boolean_of w ≡ Some v → written_bytes v ≤ weight_of w
boolean_light null v is = absurd (none-some v is)
boolean_light (list ds) v is = absurd (none-some v is)
boolean_light (object ms) v is = absurd (none-some v is)
boolean_light (bool b) v is = omega (arith, truth_empty (Some b) v is)
boolean_light (whole z) v is = absurd (none-some v is)
boolean_light (text s) v is = omega (arith, truth_empty (bool_written s) v is)

date_light : (w : JsonValue) (v : FieldValue) → date_of w ≡ Some v → written_bytes v ≤ weight_of w
date_light null v is = absurd (none-some v is)
date_light (list ds) v is = absurd (none-some v is)
date_light (object ms) v is = absurd (none-some v is)
date_light (bool b) v is = absurd (none-some v is)
date_light (whole z) v is = omega (arith, number_empty (Some z) v is)
date_light (text s) v is = omega (arith, number_empty (moment s) v is)

written_light : (kind : Kind) (w : JsonValue) (v : FieldValue) → convert kind w ≡ Some v → written_bytes v ≤ weight_of w
unfolding convert
written_light Text w v is = text_light w v is
written_light Keyword w v is = text_light w v is
written_light Long w v is = long_light w v is
written_light Boolean w v is = boolean_light w v is
written_light Date w v is = date_light w v is
written_light Plain w v is = absurd (none-some v is)
written_light Nested w v is = absurd (none-some v is)
written_light Join w v is = absurd (none-some v is)

count_is : (vs : Seq FieldValue) → total one_each vs ≡ length vs
count_is [] = refl
count_is (v ∷ vs) = omega (arith, count_is vs)

pub total_sum : {A : Type 0} (weight : A → ℕ) (xs : Seq A) → sum_by weight xs ≡ total weight xs
total_sum weight [] = refl
total_sum weight (x ∷ xs) = sum_by-cons weight x xs ∙ ap (λ rest. weight x + rest) (total_sum weight xs)

pub values_few : (m : Mapping) (tree : Tree) (o : Object) (f : ℕ) → Contains (block_objects m tree) o → length (values m f o) ≤ length (compact tree.source)
values_few m tree o f of =
    omega (arith, count_is (values m f o), shown_light one_each (λ kind w v is. single_long kind w v is) m f o, content_light m tree o of)

pub values_short : (m : Mapping) (tree : Tree) (o : Object) (f : ℕ) → Contains (block_objects m tree) o → sum_by written_bytes (values m f o) ≤ length (compact tree.source)
values_short m tree o f of =
    omega (arith, total_sum written_bytes (values m f o), shown_light written_bytes written_light m f o, content_light m tree o of)
