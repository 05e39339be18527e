-- How deep a body is: by the form of each of its properties, and by how many names its paths have.
use Rattle.std.proofs.Common.{◌≡◌, ℕ, suc, ◌+◌, ◌*◌, ◌≤◌, ◌==◌, cond, inl, inr, List as Seq, [], ◌∷◌, ◌++◌, refl, sym, ap, ◌∙◌, subst, arith, Bool, true, false, ◌&&◌, codes, bytes_eq, Option, Some, None, Less, Greater}
use Rattle.std.proofs.lemmas.Bool.{false≢true, or_cases}
use Rattle.std.proofs.lemmas.List.Sums.{sum_by-cons}
use Rattle.std.proofs.lemmas.Slice.Eq.{bytes_eq-Decides}
use Rattle.std.specs.List.{AllByRecursion, list_any, list_all}
use Rattle.std.specs.List.Sorted.{IsStrictlySortedBy}
use Rattle.tree_json.specs.Levels.{levels, elements_levels, members_levels, most_levels}
use Rattle.tree_json.specs.Sound.{names_in, IsSound, MembersAreSound}
use Rattle.tree_json.specs.Value.{JsonValue, null, bool, whole, text, list, object, Elements, no_elements, element, Members, no_members, member, member_of}
use Rattle.mapping_body.specs.declared.kind.Kind.{Kind}
use Rattle.mapping_body.specs.declared.kind.Kind.TheVariants.{Text, Keyword, Long, Boolean, Date, Object, Nested, Join}
use Rattle.mapping_body.specs.Body.{Property, Taken, are_children, are_properties, are_property_names, are_relations, are_taken, body_takes, each_element, each_member, has, has_needed, is_body, is_body_alone, is_child, is_flag, is_index_name, is_property, kind_in, kind_typed, properties_among, properties_at, properties_below, properties_named, properties_of, property_takes, suits_kind, takes_type}
use Rattle.mapping_body.specs.Names.{dot, dot_count, is_name, is_property_name, joined, lies_above, name_count}
use Rattle.mapping_body.proofs.Closed.{Asks, asked, body_taken, both, named_plain}
use Rattle.mapping_body.proofs.Ranks.{AllAfter, compared, is_eq_from, reversed}
use Rattle.mapping_body.proofs.Walks.{split, properties_found, properties_by_member}

-- ---- paths

-- how many names a path has; the root's has none
abbrev pub depth : Seq ℕ → ℕ
depth [] = 0
depth (byte ∷ path) = name_count (byte ∷ path)

dots_cons : (byte : ℕ) (path : Seq ℕ) → dot_count (byte ∷ path) ≡ cond (byte == dot) 1 0 + dot_count path
dots_cons byte path = sum_by-cons (λ b. cond (b == dot) 1 0) byte path

dots_behind : (path name : Seq ℕ) → suc (dot_count path) ≤ dot_count (path ++ dot ∷ name)
dots_behind [] name = let one : dot_count ([] ++ dot ∷ name) ≡ 1 + dot_count name = dots_cons dot name in omega (arith, one)
dots_behind (byte ∷ path) name =
    let rest = dots_behind path name in
    let short = dots_cons byte path in
    let long : dot_count ((byte ∷ path) ++ dot ∷ name) ≡ cond (byte == dot) 1 0 + dot_count (path ++ dot ∷ name) = dots_cons byte (path ++ dot ∷ name) in
    omega (arith, rest, short, long)

pub joined_deeper : (path name : Seq ℕ) → lies_above [] name ≡ true → suc (depth path) ≤ depth (joined path name)
joined_deeper [] [] some = absurd (false≢true some)
joined_deeper [] (byte ∷ name) some = omega arith
joined_deeper (byte ∷ path) name some = let rest = dots_behind (byte ∷ path) name in omega (arith, rest)

-- ---- values that a property takes beside its properties

flag_levels : (d : JsonValue) → is_flag d ≡ true → levels d ≤ 2
flag_levels null is = absurd (false≢true is)
flag_levels (bool b) is = omega arith
flag_levels (whole z) is = absurd (false≢true is)
flag_levels (text s) is = absurd (false≢true is)
flag_levels (list ds) is = absurd (false≢true is)
flag_levels (object ms) is = absurd (false≢true is)

index_levels : (d : JsonValue) → is_index_name d ≡ true → levels d ≤ 2
index_levels null is = absurd (false≢true is)
index_levels (bool b) is = absurd (false≢true is)
index_levels (whole z) is = absurd (false≢true is)
index_levels (text s) is = omega arith
index_levels (list ds) is = absurd (false≢true is)
index_levels (object ms) is = absurd (false≢true is)

child_levels : (d : JsonValue) → is_child d ≡ true → levels d ≡ 0
child_levels null is = absurd (false≢true is)
child_levels (bool b) is = absurd (false≢true is)
child_levels (whole z) is = absurd (false≢true is)
child_levels (text s) is = refl
child_levels (list ds) is = absurd (false≢true is)
child_levels (object ms) is = absurd (false≢true is)

listed_levels : (ds : Elements) → each_element is_child ds ≡ true → elements_levels ds ≡ 0
listed_levels no_elements are = refl
listed_levels (element d ds) are =
    let parts = both (is_child d) (each_element is_child ds) are in
    omega (arith, child_levels d parts.0, listed_levels ds parts.1)

children_levels : (d : JsonValue) → are_children d ≡ true → levels d ≤ 1
children_levels null are = absurd (false≢true are)
children_levels (bool b) are = absurd (false≢true are)
children_levels (whole z) are = absurd (false≢true are)
children_levels (text s) are = omega arith
children_levels (list no_elements) are = absurd (false≢true are)
children_levels (list (element d ds)) are = let none = listed_levels (element d ds) are in omega (arith, none)
children_levels (object ms) are = absurd (false≢true are)

related_levels : (ms : Members) → each_member (λ name children. is_name name && are_children children) ms ≡ true → members_levels ms ≤ 1
related_levels no_members are = omega arith
related_levels (member k d ms) are =
    let parts = both (is_name k && are_children d) (each_member (λ name children. is_name name && are_children children) ms) are in
    let own = both (is_name k) (are_children d) parts.0 in
    omega (arith, children_levels d own.1, related_levels ms parts.1)

relations_levels : (d : JsonValue) → are_relations d ≡ true → levels d ≤ 2
relations_levels null are = absurd (false≢true are)
relations_levels (bool b) are = absurd (false≢true are)
relations_levels (whole z) are = absurd (false≢true are)
relations_levels (text s) are = absurd (false≢true are)
relations_levels (list ds) are = absurd (false≢true are)
relations_levels (object ms) are = let rest = related_levels ms are in omega (arith, rest)

-- ---- tables

-- what a table says of a member under a name of it
abbrev Bounds : Seq ℕ × (JsonValue → Bool) → Type 0
Bounds entry =
    (k : Seq ℕ) (d : JsonValue) → bytes_eq k entry.0 ≡ true → entry.1 d ≡ true → bytes_eq k (codes "type") ≡ false → bytes_eq k (codes "properties") ≡ false
    → levels d ≤ 2

bounded : (table : Taken) (k : Seq ℕ) (d : JsonValue) → AllByRecursion Bounds table → list_any (λ t. bytes_eq k t.0 && t.1 d) table ≡ true
    → bytes_eq k (codes "type") ≡ false → bytes_eq k (codes "properties") ≡ false → levels d ≤ 2
bounded [] k d bounds any no_type no_properties = absurd (false≢true any)
bounded (entry ∷ table) k d bounds any no_type no_properties =
    elim (or_cases (bytes_eq k entry.0 && entry.1 d) (list_any (λ t. bytes_eq k t.0 && t.1 d) table) any) [
      | inl here ↦ let parts = both (bytes_eq k entry.0) (entry.1 d) here in bounds.0 k d parts.0 parts.1 no_type no_properties
      | inr more ↦ bounded table k d bounds.1 more no_type no_properties
    ]

type_bounds : Bounds (codes "type", λ _. true)
type_bounds k d same is no_type no_properties = absurd (false≢true (sym no_type ∙ same))

properties_bounds : Bounds (codes "properties", are_properties)
properties_bounds k d same is no_type no_properties = absurd (false≢true (sym no_properties ∙ same))

taken_bounds : (kind : Kind) → AllByRecursion Bounds (takes_type (property_takes kind))
taken_bounds Text = (type_bounds, tt)
taken_bounds Keyword = (type_bounds, tt)
taken_bounds Long = (type_bounds, tt)
taken_bounds Boolean = (type_bounds, tt)
taken_bounds Date = (type_bounds, tt)
taken_bounds Object = (type_bounds, (properties_bounds, tt))
taken_bounds Nested =
    (type_bounds, (properties_bounds, ((λ k d same is no_type no_properties. flag_levels d is), ((λ k d same is no_type no_properties. flag_levels d is), tt))))
taken_bounds Join = (type_bounds, ((λ k d same is no_type no_properties. relations_levels d is), tt))

body_bounds : AllByRecursion Bounds body_takes
body_bounds = (properties_bounds, ((λ k d same is no_type no_properties. index_levels d is), ((λ k d same is no_type no_properties. flag_levels d is), tt)))

-- ---- a name stands once among names that ascend

after_none : (k name : Seq ℕ) (ms : Members) → bytes_eq k name ≡ true → AllAfter k (names_in ms) → member_of ms name ≡ None
after_none k name no_members same after = refl
after_none k name (member x d ms) same after =
    let is : k ≡ name = (bytes_eq-Decides k name).0 same in
    let other : bytes_eq x k ≡ false = is_eq_from x k Greater (reversed k x Less after.0) in
    let not_it : bytes_eq x name ≡ false = ap (bytes_eq x) (sym is) ∙ other in
    rw not_it (after_none k name ms same after.1)

-- a value of no levels, if there is one
abbrev IsPlain : Option JsonValue → Type 0
IsPlain None = Unit {0}
IsPlain (Some d) = levels d ≡ 0

none_plain : (o : Option JsonValue) → o ≡ None → IsPlain o
none_plain o none = rw none tt

type_plain : (kind : Kind) (o : Option JsonValue) → kind_typed o ≡ Some kind → IsPlain o
type_plain kind None is = tt
type_plain kind (Some null) is = refl
type_plain kind (Some (bool b)) is = refl
type_plain kind (Some (whole z)) is = refl
type_plain kind (Some (text s)) is = refl
type_plain kind (Some (list ds)) is = cc
type_plain kind (Some (object ms)) is = cc

-- a body has no type
body_type_plain : (ms : Members) → are_taken body_takes ms ≡ true → IsPlain (member_of ms (codes "type"))
body_type_plain no_members are = tt
body_type_plain (member k d ms) are =
    let parts = both (list_any (λ t. bytes_eq k t.0 && t.1 d) body_takes) (are_taken body_takes ms) are in
    split (bytes_eq k (codes "type"))
    (λ same.
    let is : k ≡ codes "type" = (bytes_eq-Decides k (codes "type")).0 same in
    absurd (false≢true (subst (λ (n : Seq ℕ). list_any (λ t. bytes_eq n t.0 && t.1 d) body_takes ≡ true) is parts.0)))
    (λ other. rw other (body_type_plain ms parts.1))

-- ---- the walk

-- a property whose form is one, with no more than so many names
pub record IsWithin (p : Property) : Type 0 where
  pub form : is_property p.form ≡ true
  pub names : depth p.path ≤ 20

all_left : {A : Type 0} (P : A → Type 0) (xs ys : Seq A) → AllByRecursion P (xs ++ ys) → AllByRecursion P xs
all_left P [] ys all = tt
all_left P (x ∷ xs) ys all = (all.0, all_left P xs ys all.1)

all_right : {A : Type 0} (P : A → Type 0) (xs ys : Seq A) → AllByRecursion P (xs ++ ys) → AllByRecursion P ys
all_right P [] ys all = all
all_right P (x ∷ xs) ys all = all_right P xs ys all.1

first_after : (k : Seq ℕ) (ms : Members) → IsStrictlySortedBy compared (k ∷ names_in ms) → AllAfter k (names_in ms) × IsStrictlySortedBy compared (names_in ms)
unfolding IsStrictlySortedBy
first_after k ms up = up

record IsTabled (ms : Members) : Type 0 where
  table : Taken
  asks : Asks table
  bounds : AllByRecursion Bounds table
  taken : are_taken table ms ≡ true
  plain : IsPlain (member_of ms (codes "type"))

properties_asked : (kind : Kind) → Asks (takes_type (property_takes kind))
properties_asked Text d h = absurd (false≢true h)
properties_asked Keyword d h = absurd (false≢true h)
properties_asked Long d h = absurd (false≢true h)
properties_asked Boolean d h = absurd (false≢true h)
properties_asked Date d h = absurd (false≢true h)
properties_asked Object d h = elim (or_cases (are_properties d) false h) [ inl is ↦ is | inr never ↦ absurd (false≢true never) ]
properties_asked Nested d h = elim (or_cases (are_properties d) false h) [ inl is ↦ is | inr never ↦ absurd (false≢true never) ]
properties_asked Join d h = absurd (false≢true h)

form_tabled : (ms : Members) (o : Option Kind) → kind_in ms ≡ o → suits_kind o ms ≡ true → IsTabled ms
form_tabled ms None e is = absurd (false≢true is)
form_tabled ms (Some kind) e is = record {
  table = takes_type (property_takes kind);
  asks = properties_asked kind;
  bounds = taken_bounds kind;
  taken = (both (are_taken (takes_type (property_takes kind)) ms) (has_needed kind ms) is).0;
  plain = type_plain kind (member_of ms (codes "type")) e;
}

mutual
  form_levels : (path : Seq ℕ) (d : JsonValue) → IsSound d → is_property d ≡ true → AllByRecursion IsWithin (properties_below path d) → depth path ≤ 20
      → levels d + 2 * depth path ≤ 43
  form_levels path null sound is all short = absurd (false≢true is)
  form_levels path (bool b) sound is all short = absurd (false≢true is)
  form_levels path (whole z) sound is all short = absurd (false≢true is)
  form_levels path (text s) sound is all short = absurd (false≢true is)
  form_levels path (list ds) sound is all short = absurd (false≢true is)
  form_levels path (object ms) sound is all short =
      let it = form_tabled ms (kind_in ms) refl is in
      let rest = members_within path ms it.table it.asks it.bounds sound.0 sound.1 it.taken it.plain all short in
      omega (arith, rest)

  members_within : (path : Seq ℕ) (ms : Members) (table : Taken) → Asks table → AllByRecursion Bounds table → MembersAreSound ms
      → IsStrictlySortedBy compared (names_in ms) → are_taken table ms ≡ true → IsPlain (member_of ms (codes "type"))
      → AllByRecursion IsWithin (properties_among path ms) → depth path ≤ 20 → members_levels ms + 2 * depth path ≤ 42
  members_within path no_members table asks bounds sound up taken plain all short = omega (arith, short)
  members_within path (member k d ms) table asks bounds sound up taken plain all short =
      let parts = both (list_any (λ t. bytes_eq k t.0 && t.1 d) table) (are_taken table ms) taken in
      let order = first_after k ms up in
      split (bytes_eq k (codes "properties"))
      (λ same.
      let here : levels d + 2 * depth path ≤ 42 = at_levels path d sound.0.1 (asked table k d asks same parts.0) (rw same at all) short in
      let none : properties_among path ms ≡ [] = properties_by_member path ms ∙ ap (properties_found path) (after_none k (codes "properties") ms same order.0) in
      let not_type : bytes_eq k (codes "type") ≡ false
      = ap (λ (n : Seq ℕ). bytes_eq n (codes "type")) ((bytes_eq-Decides k (codes "properties")).0 same) in
      let more = members_within path ms table asks bounds sound.1 order.1 parts.1 (rw not_type at plain) (rw none tt) short in
      omega (arith, here, more))
      (λ other.
      split (bytes_eq k (codes "type"))
      (λ same.
      let here : levels d ≡ 0 = rw same at plain in
      let more = members_within path ms table asks bounds sound.1 order.1 parts.1 (none_plain (member_of ms (codes "type")) (after_none k (codes "type") ms same order.0)) (rw other at all) short in
      omega (arith, here, more, short))
      (λ no_type.
      let here = bounded table k d bounds parts.0 no_type other in
      let more = members_within path ms table asks bounds sound.1 order.1 parts.1 (rw no_type at plain) (rw other at all) short in
      omega (arith, here, more, short)))

  at_levels : (path : Seq ℕ) (d : JsonValue) → IsSound d → are_properties d ≡ true → AllByRecursion IsWithin (properties_at path d) → depth path ≤ 20
      → levels d + 2 * depth path ≤ 42
  at_levels path null sound are all short = absurd (false≢true are)
  at_levels path (bool b) sound are all short = absurd (false≢true are)
  at_levels path (whole z) sound are all short = absurd (false≢true are)
  at_levels path (text s) sound are all short = absurd (false≢true are)
  at_levels path (list ds) sound are all short = absurd (false≢true are)
  at_levels path (object ms) sound are all short = let rest = named_levels path ms sound.0 are all short in omega (arith, rest)

  named_levels : (path : Seq ℕ) (ms : Members) → MembersAreSound ms → are_property_names ms ≡ true → AllByRecursion IsWithin (properties_named path ms) → depth path ≤ 20
      → members_levels ms + 2 * depth path ≤ 41
  named_levels path no_members sound are all short = omega (arith, short)
  named_levels path (member k d ms) sound are all short =
      let name = both (is_property_name k) (are_property_names ms) are in
      let longer = joined_deeper path k (named_plain k name.0).1 in
      let here = form_levels (joined path k) d sound.0.1 all.0.form (all_left IsWithin (properties_below (joined path k) d) (properties_named path ms) all.1) all.0.names in
      let more = named_levels path ms sound.1 name.1 (all_right IsWithin (properties_below (joined path k) d) (properties_named path ms) all.1) short in
      omega (arith, longer, here, more)

-- a body whose properties have no more names than they may has few levels
pub body_levels : (v : JsonValue) → IsSound v → is_body v ≡ true → AllByRecursion IsWithin (properties_of v) → levels v ≤ most_levels
body_levels null sound is all = omega arith
body_levels (bool b) sound is all = omega arith
body_levels (whole z) sound is all = omega arith
body_levels (text s) sound is all = omega arith
body_levels (list ds) sound is all = absurd (false≢true is)
body_levels (object ms) sound is all =
    let parts = both (is_body_alone (object ms)) (list_all (λ p. is_property p.form) (properties_of (object ms))) is in
    let taken = (both (are_taken body_takes ms) (has ms (codes "properties")) parts.0).0 in
    let rest = members_within [] ms body_takes body_taken body_bounds sound.0 sound.1 taken (body_type_plain ms taken) all (omega arith) in
    omega (arith, rest)
